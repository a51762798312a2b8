-- `case_scan::take_pairs` meets its contract. The loop's invariant: the pairs before `i` are put down.
use Rattle.std.proofs.Common.{ℕ, ◌-◌, List, length}
use Rattle.lines.specs.Written.{Puts}
use Rattle.case_scan.specs.Scan.Laws.{PairsTo}
use Rattle.case_scan.proofs.take_pairs.Given as goal

abbrev pub invariant-loop-byte : goal.invariant-loop-byte
invariant-loop-byte l = (bytes : List ℕ) × PairsTo l.s l.from l.i bytes × Puts l.initial.out bytes l.out

abbrev pub decreases-loop-byte : goal.decreases-loop-byte
decreases-loop-byte l = length l.s - l.i
