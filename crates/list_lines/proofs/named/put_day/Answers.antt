-- `put_day` meets its contract: the name, the date, a newline.
-- Assumes nothing.
use Rattle.lines.specs.Written.Laws.{puts_more}
use Rattle.list_lines.proofs.named.put_day.Goals as goal

pub returns : goal.returns
returns c = puts_more _ _ _ _ _ c.text.ensures (puts_more _ _ _ _ _ c.put_date.ensures c.put.ensures)
