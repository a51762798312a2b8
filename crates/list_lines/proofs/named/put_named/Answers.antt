-- `put_named` meets its contract: the name, the bytes, a newline.
-- Assumes nothing.
use Rattle.lines.specs.Written.Laws.{puts_more}
use Rattle.list_lines.proofs.named.put_named.Goals as goal

pub returns : goal.returns
returns c = puts_more _ _ _ _ _ c.text.ensures (puts_more _ _ _ _ _ (rw c.part.ensures.bytes at c.text-2.ensures) c.put.ensures)
