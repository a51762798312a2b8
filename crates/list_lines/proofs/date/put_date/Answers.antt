-- `put_date` meets its contract.
-- Assumes nothing.
use Rattle.lines.specs.Written.Laws.{puts_more}
use Rattle.list_lines.proofs.date.put_date.Goals as goal

pub returns : goal.returns
returns c =
    puts_more _ _ _ _ _ c.put_four.ensures
    (puts_more _ _ _ _ _ c.put.ensures (puts_more _ _ _ _ _ c.put_two.ensures (puts_more _ _ _ _ _ c.put-2.ensures c.put_two-2.ensures)))
