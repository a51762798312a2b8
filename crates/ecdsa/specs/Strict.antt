-- Reading strict DER: both numbers in n bytes each, or nothing (document 01, 62: not strict DER, with bytes left over,
-- negative, or too big for n).
-- Assumes nothing.
pub mod ToRaw
use Rattle.std.specs.Prelude.{ℕ, ◌+◌, ◌-◌, Bool, true, false, List, [], ◌++◌, Option, Some, None, ltb, eqb, length, get_or, take, drop, replicate}
use Rattle.format.specs.Choice.{pick, both}
use Rattle.der.specs.Element.{element_in}
use Rattle.der.specs.Content.{strict}
use Rattle.der.specs.declared.Body.{Body}
use Rattle.ecdsa.specs.declared.Digits.{Digits}

-- the bytes from one place to another
abbrev pub part : ℕ → ℕ → List ℕ → List ℕ
part from to s = take (to - from) (drop from s)

-- a first byte 00 that only says that the number is not negative
abbrev pub lead : List ℕ → ℕ
lead c = pick (both (eqb (get_or c 0 0) 0) (ltb 1 (length c))) 1 0

-- digits stand from the one place to the other
abbrev pub stand : ℕ → ℕ → Option Digits
stand start end = Some (record { start = start; end = end })

-- the digits of content at these places: of the shortest form, not negative, not too big for n
unfoldable pub digits_in : ℕ → ℕ → ℕ → List ℕ → Option Digits
digits_in n from to c =
    pick (strict c)
    (pick (ltb (get_or c 0 0) 0x80) (pick (ltb n (to - from - lead c)) None (stand (from + lead c) to)) None)
    None

-- the INTEGER at the head of t, if it is such a number
abbrev pub number_at : ℕ → List ℕ → Option Body → Option Digits
number_at n t (Some b) = digits_in n b.start b.end (part b.start b.end t)
number_at n t None = None

unfoldable pub number_in : ℕ → List ℕ → Option Digits
number_in n t = number_at n t (element_in 0x02 t)

-- a number in n bytes, with leading zeros
abbrev pub padded : ℕ → List ℕ → List ℕ
padded n digits = replicate (n - length digits) 0 ++ digits

pub data Raw : Type 0 where
  raw : List ℕ → Raw
  none : Raw

-- whether both numbers were read, and r and s in n bytes each
abbrev pub is_raw : Raw → Bool
is_raw (raw bytes) = true
is_raw none = false

abbrev pub bytes_in : Raw → List ℕ
bytes_in (raw bytes) = bytes
bytes_in none = []

-- s, and nothing left over; r before it; both inside a sequence, and nothing left over
abbrev pub lastly : ℕ → List ℕ → List ℕ → Option Digits → Raw
lastly n r u (Some d) = pick (eqb d.end (length u)) (raw (r ++ padded n (part d.start d.end u))) none
lastly n r u None = none

abbrev pub pair_in : ℕ → List ℕ → Option Digits → Raw
pair_in n t (Some d) = lastly n (padded n (part d.start d.end t)) (drop d.end t) (number_in n (drop d.end t))
pair_in n t None = none

abbrev pub sequence : ℕ → List ℕ → Option Body → Raw
sequence n s (Some b) = pick (eqb b.end (length s)) (pair_in n (drop b.start s) (number_in n (drop b.start s))) none
sequence n s None = none

unfoldable pub raw_of : ℕ → List ℕ → Raw
raw_of n s = sequence n s (element_in 0x30 s)
