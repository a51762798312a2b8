-- A rule of a table, proved at all of its entries by one test that the checker computes, one entry after the other.
-- Assumes nothing.
use Rattle.std.specs.Prelude.{Bool, true, false, List, [], ◌∷◌, ℕ, zero, suc, ◌+◌, ◌<◌, T, length, get_or}
use Rattle.std.proofs.Common.{add-zero, zero-add, add-suc, suc-add, arith}
use Rattle.format.specs.Choice.{both}

both_left : (a b : Bool) → T (both a b) → T a
both_left true b t = tt
both_left false b t = t

both_right : (a b : Bool) → T (both a b) → T b
both_right true b t = t
both_right false b t = absurd t

-- the test passes at each entry and its place, counted from i
abbrev pub every : (ℕ → ℕ → Bool) → ℕ → List ℕ → Bool
every test i [] = true
every test i (x ∷ s) = both (test i x) (every test (suc i) s)

from : (test : ℕ → ℕ → Bool) (s : List ℕ) (i : ℕ) → T (every test i s) → (k : ℕ) → k < length s → T (test (i + k) (get_or s k 0))
from test [] i t k h = absurd (omega arith)
from test (x ∷ s) i t zero h = rw add-zero (both_left (test i x) (every test (suc i) s) t)
from test (x ∷ s) i t (suc k) h =
    let ih = from test s (suc i) (both_right (test i x) (every test (suc i) s) t) k (omega arith) in
    rw add-suc (rw suc-add at ih)

-- the rule at each entry
pub at_entry : (test : ℕ → ℕ → Bool) (s : List ℕ) → T (every test 0 s) → (k : ℕ) → k < length s → T (test k (get_or s k 0))
at_entry test s t k h = rw zero-add at (from test s 0 t k h)
