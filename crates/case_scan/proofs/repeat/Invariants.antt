-- `case_scan::repeat` meets its contract. The loop's invariant: the pairs are put down once less than the counter says.
use Rattle.std.proofs.Common.{◌-◌, ◌≤◌}
use Rattle.lines.specs.Written.{Puts}
use Rattle.case_scan.specs.Scan.{times, pairs_at}
use Rattle.case_scan.proofs.repeat.Given as goal

abbrev pub invariant-loop : goal.invariant-loop
invariant-loop l = (l.counter - 1 ≤ l.count - 1) × Puts l.initial.out (times (l.counter - 1) (pairs_at l.s l.from)) l.out
