-- The content of an INTEGER (X.690, 8.3; Doc 9303-13, B.1): two's complement, of the shortest form.
-- Assumes nothing.
pub mod Laws
use Rattle.std.specs.Prelude.{Bool, true, false, not, ℕ, List, [], ◌∷◌, ltb, eqb}
use Rattle.format.specs.Choice.{pick}
use Rattle.der.specs.Element.{element}

-- the first byte says no more than the second's top bit does: 00 before a byte below 80, FF before one from 80 on
abbrev pub redundant : ℕ → ℕ → Bool
redundant x y = pick (ltb y 0x80) (eqb x 0) (eqb x 0xFF)

-- the shortest form: redundant first bytes go
unfoldable pub shortest : List ℕ → List ℕ
shortest [] = []
shortest (x ∷ []) = x ∷ []
shortest (x ∷ y ∷ s) = pick (redundant x y) (shortest (y ∷ s)) (x ∷ y ∷ s)

-- whether content is of the shortest form: not empty, and its first byte is not redundant
unfoldable pub strict : List ℕ → Bool
strict [] = false
strict (x ∷ []) = true
strict (x ∷ y ∷ s) = not (redundant x y)

-- an INTEGER of this content
abbrev pub integer : List ℕ → List ℕ
integer content = element 0x02 content
