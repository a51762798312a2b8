-- Tests and choices. A test is a Bool: `both`, `either` and `within` make one of others, and `pick (ltb a b) x y` is x where a is
-- below b, and y where it is not.
-- Assumes nothing.
pub mod Laws
use Rattle.std.specs.Prelude.{Bool, true, false, ℕ, leb}

abbrev pub pick {ℓ} : {A : Type ℓ} → Bool → A → A → A
pick true x y = x
pick false x y = y

abbrev pub both : Bool → Bool → Bool
both true b = b
both false b = false

abbrev pub either : Bool → Bool → Bool
either true b = true
either false b = b

-- from the first to the last
abbrev pub within : ℕ → ℕ → ℕ → Bool
within low high n = both (leb low n) (leb n high)
