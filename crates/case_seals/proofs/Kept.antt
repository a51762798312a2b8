-- What looking at all numbers of a list tells: whether all are the filling.
-- Assumes nothing.
use borrow.Author.Tests.{eq-eqb, ne_eqb}
use Rattle.std.proofs.Common.{arith, ◌≡◌, ◌<◌, length, ℕ, suc, zero, Bool, true, false, List, [], ◌∷◌, refl, sym, get_or, cond}
use Rattle.std.specs.Prelude.{◌≢◌, eqb}
use Rattle.std.specs.Bool.{MatchBool}
use Rattle.std.specs.List.{AllWithin, HoldsAt}
use Rattle.case_file.specs.Fill.{all_are}

all_yes : (n : ℕ) (xs : List ℕ) → ((k : ℕ) → k < length xs → get_or xs k 0 ≡ n) → all_are n xs ≡ true
unfolding all_are
all_yes n [] h = refl
all_yes n (x ∷ t) h =
    let ih = all_yes n t (λ k b. h (suc k) (omega (arith, b))) in
    rw (eq-eqb x n (h 0 (omega arith))) ih

neither : (b : Bool) → cond b false false ≡ false
neither true = refl
neither false = refl

all_no : (n : ℕ) (xs : List ℕ) (k : ℕ) → k < length xs → get_or xs k 0 ≢ n → all_are n xs ≡ false
unfolding all_are
all_no n [] k h e = absurd (omega (arith, h))
all_no n (x ∷ t) zero h e = rw (ne_eqb x n e) refl
all_no n (x ∷ t) (suc k) h e =
    let ih = all_no n t k (omega (arith, h)) e in
    rw ih (neither (eqb x n))

pub all_tells :
    (n : ℕ) (xs : List ℕ) (r : Bool)
    → MatchBool r (AllWithin (λ x. x ≡ n) xs 0 (length xs)) ((k : ℕ) × (k < length xs) × HoldsAt (λ x. x ≢ n) xs k)
    → r ≡ all_are n xs
all_tells n xs true m = sym (all_yes n xs (λ k b. m k 0 (omega arith) b))
all_tells n xs false m = sym (all_no n xs m.0 m.1 (m.2 0))
