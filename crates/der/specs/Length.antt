-- DER lengths (document 01, Layout; X.690, 8.1.3 and 10.1): the shortest form of a length below 2 ^ 32, and its reading
-- at the head of a byte string.
-- Assumes nothing.
use Rattle.std.specs.Prelude.{ℕ, ◌+◌, ◌-◌, ◌^◌, ◌<◌, List, [], ◌∷◌, Option, Some, None, Result, Ok, Err, ltb, eqb, length}
use Rattle.format.specs.Choice.{pick}
use Rattle.format.specs.BigEndian.{be, val}
use Rattle.der.specs.declared.Form.{Form}
use Rattle.der.specs.declared.Form.TheVariants.{One, Two, Three}
use Rattle.der.specs.declared.Fault.{Fault}
use Rattle.der.specs.declared.Fault.TheVariants.{NoByte, FirstByte, Cut, NotShortest}
use Rattle.der.specs.declared.Length.{Length}

-- what a length may be
abbrev pub Sized : ℕ → Type 0
Sized n = n < 2 ^ 32

-- one byte below 128; else 81 to 84, then 1 to 4 bytes accordingly, with no leading zero
unfoldable pub form : ℕ → List ℕ
form n =
    pick (ltb n 0x80) (n ∷ [])
    (pick (ltb n 0x100) (0x81 ∷ be 1 n)
    (pick (ltb n 0x10000) (0x82 ∷ be 2 n)
    (pick (ltb n 0x1000000) (0x83 ∷ be 3 n)
    (0x84 ∷ be 4 n))))

-- one, two or three bytes, one by one; what is longer is not written
abbrev pub by_bytes : List ℕ → Option Form
by_bytes [] = None
by_bytes (a ∷ []) = Some (One a)
by_bytes (a ∷ b ∷ []) = Some (Two a b)
by_bytes (a ∷ b ∷ c ∷ []) = Some (Three a b c)
by_bytes (a ∷ b ∷ c ∷ d ∷ t) = None

-- a length as it is written: its form, up to 65,535
abbrev pub length_form : ℕ → Option Form
length_form n = by_bytes (form n)

-- the bytes of a length as it is written, and nothing for a longer one
abbrev pub bytes_of : Option Form → List ℕ
bytes_of (Some (One a)) = a ∷ []
bytes_of (Some (Two a b)) = a ∷ b ∷ []
bytes_of (Some (Three a b c)) = a ∷ b ∷ c ∷ []
bytes_of None = []

abbrev pub written : ℕ → List ℕ
written n = bytes_of (length_form n)

-- the least length that needs k bytes after the first
abbrev pub least : ℕ → ℕ
least k = pick (eqb k 1) 0x80 (256 ^ (k - 1))

-- what is read of a length: the length, and the width of its form
abbrev pub is : ℕ → ℕ → Result Length Fault
is n width = Ok (record { size = n; width = width })

-- k bytes after the first: they must be there, and then be the shortest
unfoldable pub long_form : ℕ → List ℕ → Result Length Fault
long_form k t = pick (ltb (length t) k) (Err Cut) (pick (ltb (val t k) (least k)) (Err NotShortest) (is (val t k) (k + 1)))

-- The first byte is judged before its rest is looked for; 80 and 85 to FF begin no length.
unfoldable pub read_length : List ℕ → Result Length Fault
read_length [] = Err NoByte
read_length (x ∷ t) =
    pick (ltb x 0x80) (is x 1)
    (pick (ltb 0x80 x) (pick (ltb x 0x85) (long_form (x - 0x80) t) (Err FirstByte)) (Err FirstByte))
