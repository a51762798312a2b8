-- Byte strings: lists of numbers below 256.
-- Assumes nothing.
pub mod Laws
use Rattle.std.specs.Prelude.{ℕ, ◌<◌, List, [], ◌∷◌, get_or}

abbrev pub Byte : ℕ → Type 0
Byte n = n < 256

-- Each element is a byte. (Past the end `get_or` gives 0.) This is what the language hands over of a lent slice.
abbrev pub Bytes : List ℕ → Type 0
Bytes s = (i : ℕ) → Byte (get_or s i 0)

-- A rule holds of each element of a list.
abbrev pub All {ℓ} : {A : Type ℓ} → (A → Type 0) → List A → Type 0
All P [] = Unit
All P (x ∷ s) = P x × All P s
