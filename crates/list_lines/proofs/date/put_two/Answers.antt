-- `put_two` meets its contract.
-- Assumes nothing.
use Rattle.lines.specs.Written.Laws.{puts_more}
use Rattle.list_lines.proofs.date.put_two.Goals as goal

pub returns : goal.returns
returns c = puts_more _ _ _ _ _ c.put_zero.ensures c.number.ensures
