-- What scanning a line finds.
-- Assumes nothing.
pub mod Laws
use Rattle.std.specs.Prelude.{ℕ, zero, suc, ◌+◌, ◌*◌, ◌-◌, ◌≤◌, ◌<◌, ◌≡◌, Bool, false, cond, List, [], ◌∷◌, ◌++◌, ltb, leb, eqb, length, get_or, drop}
use Rattle.format.specs.Hex.{hex_value}
use Rattle.lines.specs.Line.{Within}

-- `end` is the first newline at or after `from`, or the end of s where there is none
pub record LineEnd (s : List ℕ) (from end : ℕ) : Type 0 where
  pub on : from ≤ end
  pub within : Within s from end
  pub ends : end < length s → get_or s end 0 ≡ 10
  pub none : (i : ℕ) → i < end → from ≤ i → get_or s i 0 ≡ 10 → ⊥

-- what k decimal digits from a place on stand for
unfoldable pub value_of : List ℕ → ℕ → ℕ → ℕ
value_of s from zero = 0
value_of s from (suc k) = value_of s from k * 10 + (get_or s (from + k) 0 - 48)

-- the digits from `from` to `next` stand for `value`
pub record Numeral (s : List ℕ) (from value next : ℕ) : Type 0 where
  pub on : from ≤ next
  pub within : Within s from next
  pub digits : (i : ℕ) → i < next → from ≤ i → (48 ≤ get_or s i 0) × (get_or s i 0 ≤ 57)
  pub is : value ≡ value_of s from (next - from)

-- the bytes of the pairs of hex digits that a text begins with
unfoldable pub pairs_of : List ℕ → List ℕ
pairs_of [] = []
pairs_of (h ∷ []) = []
pairs_of (h ∷ l ∷ t) = cond (ltb (hex_value h) 16) (cond (ltb (hex_value l) 16) ((hex_value h * 16 + hex_value l) ∷ pairs_of t) []) []

-- one digit more of a number, if there is one and the number is not too large to take it
abbrev pub goes_on : ℕ → ℕ → Bool
goes_on v b = cond (ltb b 48) false (cond (leb b 57) (leb v 922337203685477580) false)

-- the number that the digits before a text, which stand for v, make with those that it begins with; and how many these are
unfoldable pub number_of : ℕ → List ℕ → ℕ
number_of v [] = v
number_of v (b ∷ t) = cond (goes_on v b) (number_of (v * 10 + (b - 48)) t) v

unfoldable pub width_of : ℕ → List ℕ → ℕ
width_of v [] = 0
width_of v (b ∷ t) = cond (goes_on v b) (suc (width_of (v * 10 + (b - 48)) t)) 0

-- bytes put down k times
unfoldable pub times : ℕ → List ℕ → List ℕ
times zero bytes = []
times (suc k) bytes = times k bytes ++ bytes

-- the pairs at a place, and where they end
unfoldable pub pairs_at : List ℕ → ℕ → List ℕ
pairs_at s from = pairs_of (drop from s)

unfoldable pub pairs_end : List ℕ → ℕ → ℕ
pairs_end s from = from + 2 * length (pairs_at s from)

-- the number at a place, and where it ends
unfoldable pub number_at : List ℕ → ℕ → ℕ
number_at s from = number_of 0 (drop from s)

unfoldable pub number_end : List ℕ → ℕ → ℕ
number_end s from = from + width_of 0 (drop from s)

-- a run at a place, pairs and perhaps `*COUNT`, which puts them down COUNT times but never less than once; and where it ends
unfoldable pub run_at : List ℕ → ℕ → List ℕ
run_at s from =
    cond (eqb (get_or s (pairs_end s from) 10) 42) (pairs_at s from ++ times (number_at s (pairs_end s from + 1) - 1) (pairs_at s from))
    (pairs_at s from)

unfoldable pub run_end : List ℕ → ℕ → ℕ
run_end s from = cond (eqb (get_or s (pairs_end s from) 10) 42) (number_end s (pairs_end s from + 1)) (pairs_end s from)

-- k runs at most from a place on, each after a space
unfoldable pub some_runs : ℕ → List ℕ → ℕ → List ℕ
some_runs zero s from = []
some_runs (suc k) s from = cond (eqb (get_or s from 10) 32) (run_at s (from + 1) ++ some_runs k s (run_end s (from + 1))) []

-- all runs from a place on: each takes a space at least, so that there are no more than the text has bytes
unfoldable pub runs_at : List ℕ → ℕ → List ℕ
runs_at s from = some_runs (length s) s from
