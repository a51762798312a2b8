-- `put_dates` meets its contract.
-- Assumes nothing.
use Rattle.lines.specs.Written.Laws.{puts_more}
use Rattle.list_lines.specs.ListLine.{date_lines}
use Rattle.list_lines.proofs.put_dates.Goals as goal

pub returns : goal.returns
unfolding date_lines
returns c =
    puts_more _ _ _ _ _ c.put_day.ensures (puts_more _ _ _ _ _ c.put_day-2.ensures (puts_more _ _ _ _ _ c.put_counted.ensures c.put_counted-2.ensures))
