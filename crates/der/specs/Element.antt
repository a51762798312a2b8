-- A DER element at the head of a byte string: its tag, its length, its body, which must be whole (X.690, 8.1).
-- Assumes nothing.
pub mod Laws
use Rattle.std.specs.Prelude.{ℕ, ◌+◌, List, [], ◌∷◌, Option, Some, None, Result, Ok, Err, ltb, eqb, length}
use Rattle.format.specs.Choice.{pick}
use Rattle.format.specs.Cut.{counted}
use Rattle.der.specs.Length.{form, read_length}
use Rattle.der.specs.declared.Fault.{Fault}
use Rattle.der.specs.declared.Length.{Length}
use Rattle.der.specs.declared.Body.{Body}

-- an element with this tag and this body
abbrev pub element : ℕ → List ℕ → List ℕ
element tag body = tag ∷ counted form body

-- a body lies from the one place to the other
abbrev pub lies : ℕ → ℕ → Option Body
lies start end = Some (record { start = start; end = end })

-- where the body starts and ends, if so many bytes after the tag hold it whole
abbrev pub body_in : ℕ → Result Length Fault → Option Body
body_in room (Ok l) = pick (ltb room (l.width + l.size)) None (lies (l.width + 1) (l.width + 1 + l.size))
body_in room (Err fault) = None

unfoldable pub element_in : ℕ → List ℕ → Option Body
element_in tag [] = None
element_in tag (x ∷ t) = pick (eqb x tag) (body_in (length t) (read_length t)) None
