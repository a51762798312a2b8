-- `case_scan::take_runs` meets its contract. The loop's invariant: the runs before `i` are put down.
use Rattle.std.proofs.Common.{ℕ, ◌-◌, List, length}
use Rattle.lines.specs.Written.{Puts}
use Rattle.case_scan.specs.Scan.Laws.{RunsTo}
use Rattle.case_scan.proofs.take_runs.Given as goal

abbrev pub invariant-loop-i : goal.invariant-loop-i
invariant-loop-i l = (bytes : List ℕ) × RunsTo l.s l.from l.i bytes × Puts l.initial.out bytes l.out

abbrev pub decreases-loop-i : goal.decreases-loop-i
decreases-loop-i l = length l.s - l.i
