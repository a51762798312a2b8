-- The one law of a part: what is legal and how it is published fit together so that the part can be cut off the front of any byte string in
-- one way only. With empty tails it says that a byte string has one reading; with one empty tail, that no published
-- form is the front part of another.
-- Assumes nothing.
use Rattle.std.specs.Prelude.{◌≡◌, ℕ, List, [], ◌∷◌, ◌++◌, length}

abbrev pub Cut : {A : Type 0} → (A → Type 0) → (A → List ℕ) → Type 0
Cut {A} Legal publish =
    (a b : A) (t u : List ℕ) → Legal a → Legal b → publish a ++ t ≡ publish b ++ u → (a ≡ b) × (t ≡ u)

-- a value after its length, whose form is given
abbrev pub counted : (ℕ → List ℕ) → List ℕ → List ℕ
counted publish v = publish (length v) ++ v

-- the items of a list one after another
abbrev pub each : {A : Type 0} → (A → List ℕ) → List A → List ℕ
each publish [] = []
each publish (a ∷ s) = publish a ++ each publish s

-- the form does not begin with this byte, and is not empty
abbrev pub NotFrom : ℕ → List ℕ → Type 0
NotFrom m [] = ⊥
NotFrom m (x ∷ s) = x ≡ m → ⊥
