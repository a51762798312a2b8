-- Raw and DER ECDSA signatures (document 01, Signatures; Doc 9303-13, 2.4 and B.3): r then s, n bytes each, big-endian;
-- and 30, length, two INTEGERs.
-- Assumes nothing.
pub mod Laws
use Rattle.std.specs.Prelude.{Bool, ℕ, List, ◌∷◌, ◌++◌, ltb, eqb, get_or, take, drop}
use Rattle.format.specs.Choice.{pick, either}
use Rattle.der.specs.Element.{element}
use Rattle.der.specs.Content.{shortest, integer}

-- the five sizes
unfoldable pub is_size : ℕ → Bool
is_size n = either (eqb n 28) (either (eqb n 32) (either (eqb n 48) (either (eqb n 64) (eqb n 66))))

-- the INTEGER of a number in bytes that is not negative: of the shortest form
abbrev pub unsigned : List ℕ → List ℕ
unsigned number = integer (shortest (0 ∷ number))

-- the same content by where the number's digits start: with a zero in front where the top bit is set
abbrev pub content_from : List ℕ → ℕ → List ℕ
content_from number k = pick (ltb (get_or number k 0) 0x80) (drop k number) (0 ∷ drop k number)

-- two numbers as INTEGERs, and the sequence of them
abbrev pub integers : List ℕ → List ℕ → List ℕ
integers r s = unsigned r ++ unsigned s

abbrev pub signature : List ℕ → List ℕ → List ℕ
signature r s = element 0x30 (integers r s)

-- of a raw signature: r is its first n bytes, s the rest
abbrev pub pair_of : ℕ → List ℕ → List ℕ
pair_of n raw = integers (take n raw) (drop n raw)

abbrev pub der_of : ℕ → List ℕ → List ℕ
der_of n raw = signature (take n raw) (drop n raw)
