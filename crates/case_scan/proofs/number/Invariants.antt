-- `case_scan::number` meets its contract. The loop's invariant: the digits before `i` stand for `value`.
use Rattle.std.proofs.Common.{◌<◌}
use Rattle.case_scan.specs.Scan.{Numeral}
use Rattle.case_scan.specs.Scan.Laws.{NumberTo}
use Rattle.case_scan.proofs.number.Given as goal

abbrev pub invariant-loop-i : goal.invariant-loop-i
invariant-loop-i l = (l.value < 9223372036854775810) × Numeral l.s l.from l.value l.i × NumberTo l.s l.from l.value l.i
