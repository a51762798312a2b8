-- `case_scan::line_end` meets its contract. The loop's invariant: no newline stands before `i`.
use Rattle.std.proofs.Common.{◌≡◌, ℕ, ◌≤◌, ◌<◌, get_or}
use Rattle.case_scan.proofs.line_end.Given as goal

abbrev pub invariant-loop-i : goal.invariant-loop-i
invariant-loop-i l = (k : ℕ) → k < l.i → l.from ≤ k → get_or l.s k 0 ≡ 10 → ⊥
