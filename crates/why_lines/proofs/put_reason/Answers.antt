-- `why_lines::put_reason` meets its contract: a line for each of the five.
-- Assumes nothing.
use Rattle.lines.specs.Written.Laws.{puts_more}
use Rattle.why_lines.specs.Lines.{reason_lines}
use Rattle.why_lines.proofs.put_reason.Goals as goal

pub returns : goal.returns
unfolding reason_lines
returns c =
    puts_more _ _ _ _ _ c.put_counted.ensures
    (puts_more _ _ _ _ _ c.put_item.ensures
    (puts_more _ _ _ _ _ c.put_counted-2.ensures (puts_more _ _ _ _ _ c.put_judged.ensures c.put_rule.ensures)))
