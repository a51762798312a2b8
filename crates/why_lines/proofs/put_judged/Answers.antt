-- `why_lines::put_judged` meets its contract: the name, the bytes, a newline.
-- Assumes nothing.
use Rattle.lines.specs.Written.Laws.{puts_more}
use Rattle.why_lines.proofs.put_judged.Goals as goal

pub returns : goal.returns
returns c = puts_more _ _ _ _ _ c.text.ensures (puts_more _ _ _ _ _ c.put_shown.ensures c.put.ensures)
