-- `LineEnd` settles the end of a line: two that it allows are the same.
-- Assumes nothing.
use Rattle.std.specs.Prelude.{◌≡◌, ℕ, ◌<◌, List, ltb}
use Rattle.std.proofs.Common.{arith, ltb-true, ltb-false}
use Rattle.format.specs.Choice.Laws.{by_test}
use Rattle.case_scan.specs.Scan.{LineEnd}

-- none is before another: a newline would stand there
none_before : (s : List ℕ) (from a b : ℕ) → LineEnd s from a → LineEnd s from b → a < b → ⊥
none_before s from a b p q h =
    let on = p.on in
    let room = q.within.most in
    q.none a h on (p.ends (omega arith))

pub line_end_one : (s : List ℕ) (from a b : ℕ) → LineEnd s from a → LineEnd s from b → a ≡ b
line_end_one s from a b p q =
    by_test (ltb a b)
    (λ e. absurd (none_before s from a b p q (ltb-true a b e)))
    (λ e. by_test (ltb b a)
    (λ f. absurd (none_before s from b a q p (ltb-true b a f)))
    (λ f. omega (arith, ltb-false a b e, ltb-false b a f)))
