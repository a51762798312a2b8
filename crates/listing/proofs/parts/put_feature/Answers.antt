-- `listing::parts::put_feature` meets its contract: the name, the tag, where the value stands, a newline.
-- Assumes nothing.
use Rattle.lines.specs.Written.Laws.{puts_more}
use Rattle.listing.proofs.parts.put_feature.Goals as goal

pub returns : goal.returns
returns c =
    puts_more _ _ _ _ _ c.text.ensures (puts_more _ _ _ _ _ (puts_more _ _ _ _ _ c.number.ensures c.put_part.ensures) c.put.ensures)
