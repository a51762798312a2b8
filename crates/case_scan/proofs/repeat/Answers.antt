-- `case_scan::repeat` meets its contract.
-- Assumes nothing.
use Rattle.std.proofs.Common.{arith}
use Rattle.lines.specs.Written.Laws.{puts_none}
use Rattle.case_scan.specs.Scan.{times}
use Rattle.case_scan.specs.Scan.Laws.{times_turn, times_done}
use Rattle.case_scan.proofs.repeat.Goals as goal

pub loop-init : goal.loop-init
unfolding times
loop-init c = (omega arith, puts_none _)

pub loop-preserved : goal.loop-preserved
loop-preserved c = (omega arith, times_turn _ c.loop.counter c.loop.auto.counter _ _ _ c.loop.invariant.1 c.take_pairs.ensures.1)

pub returns : goal.returns
returns c = times_done _ _ _ (omega arith) _ _ c.loop.invariant.1
