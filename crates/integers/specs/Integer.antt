-- DER INTEGERs (document 01, Signatures; X.690, 8.3; Doc 9303-13, B.1): two's complement, the shortest form.
-- Assumes nothing.
pub mod Laws
pub mod FirstByte
pub mod Signed
pub mod Values
pub mod Bytewise
use Rattle.std.specs.Prelude.{ℕ, suc, ◌-◌, ◌^◌, List, ltb, ℤ, pos, negsuc, length, get_or}
use Rattle.format.specs.Choice.{pick}
use Rattle.format.specs.BigEndian.{be, val}
use Rattle.der.specs.Content.{shortest, integer}

-- two's complement in 64 bits, and the number that content of any size carries
abbrev pub word : ℤ → ℕ
word (pos n) = n
word (negsuc k) = 2 ^ 64 - suc k

abbrev pub value_of : List ℕ → ℤ
value_of s = pick (ltb (get_or s 0 0) 0x80) (pos (val s (length s))) (negsuc (256 ^ length s - suc (val s (length s))))

-- the INTEGER of a number of the signed 64-bit range
abbrev pub integer_of : ℤ → List ℕ
integer_of v = integer (shortest (be 8 (word v)))
