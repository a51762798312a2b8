-- `listing::parts::put_signature` meets its contract: the name, where the signature stands, a newline.
-- Assumes nothing.
use Rattle.lines.specs.Written.Laws.{puts_more}
use Rattle.listing.proofs.parts.put_signature.Goals as goal

pub returns : goal.returns
returns c = puts_more _ _ _ _ _ c.text.ensures (puts_more _ _ _ _ _ c.put_part.ensures c.put.ensures)
