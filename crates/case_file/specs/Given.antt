-- What a line gives besides its runs: where a part of a case stands, and any number of 64 bits.
-- Assumes nothing.
pub mod Laws
use Rattle.std.specs.Prelude.{ℕ, suc, ◌+◌, ◌-◌, cond, List, [], ◌∷◌, eqb, get_or}
use Rattle.case_scan.specs.Scan.{number_at, number_end}

-- the place after the first such letter, or the end
unfoldable pub after_first : ℕ → List ℕ → ℕ
after_first letter [] = 0
after_first letter (b ∷ t) = cond (eqb b letter) 1 (suc (after_first letter t))

-- the number at a place, and where it ends; after `~` it is the greatest of 64 bits less the number there
unfoldable pub any_number_at : List ℕ → ℕ → ℕ
any_number_at s from = cond (eqb (get_or s from 10) 126) (18446744073709551615 - number_at s (from + 1)) (number_at s from)

unfoldable pub any_number_end : List ℕ → ℕ → ℕ
any_number_end s from = cond (eqb (get_or s from 10) 126) (number_end s (from + 1)) (number_end s from)
