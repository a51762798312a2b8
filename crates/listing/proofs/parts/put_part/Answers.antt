-- `listing::parts::put_part` meets its contract: two words, each with its number.
-- Assumes nothing.
use Rattle.lines.specs.Written.Laws.{puts_more}
use Rattle.listing.proofs.parts.put_part.Goals as goal

pub returns : goal.returns
returns c =
    puts_more _ _ _ _ _ c.text.ensures (puts_more _ _ _ _ _ c.number.ensures (puts_more _ _ _ _ _ c.text-2.ensures c.number-2.ensures))
