-- The chart laid out for long bytes: tables in which what is not 0 is right, and nothing is said of what is 0; and the text that is
-- put down by them.
-- Assumes nothing.
pub mod Laws
use Rattle.std.specs.Prelude.{◌≡◌, Bool, true, false, ℕ, ◌+◌, ◌-◌, ◌*◌, ◌/◌, ◌%◌, ◌<◌, ◌≤◌, List, length, get_or, take, Option, Some, None}
use Rattle.format.specs.Buffer.{over}
use Rattle.pairs.specs.Chart.{the_chart, char}
use Rattle.pairs.specs.Pairs.{pair_of, chars_of}
use Rattle.c40.specs.Decode.{decode, text}
use Rattle.c40.proofs.Decode.Laws.{Sofar}

-- a table of n entries, each right at its index or 0
pub record Sound (Right : ℕ → ℕ → Type 0) (n : ℕ) (t : List ℕ) : Type 0 where
  pub size : length t ≡ n
  pub right : (i : ℕ) → i < n → 0 < get_or t i 0 → Right i (get_or t i 0)

-- the character of a pair's first value
abbrev pub HeadAt : ℕ → ℕ → Type 0
HeadAt a x = (3 ≤ a) × (a < 40) × (x ≡ char a)

-- the characters of its other two, by what the sixteen hundreds leave of the number: the second's in the low byte, the third's in the high
abbrev pub TailAt : ℕ → ℕ → Type 0
TailAt r x = (0 < r) × (3 ≤ (r - 1) / 40) × (3 ≤ (r - 1) % 40) × (x ≡ char ((r - 1) % 40) * 256 + char ((r - 1) / 40))

abbrev pub Heads : List ℕ → Type 0
Heads t = Sound HeadAt 41 t

abbrev pub Tails : List ℕ → Type 0
Tails t = Sound TailAt 1601 t

-- what is read so: an even number of bytes, up to 4,096, into memory that has room for every text
pub record Long (bytes out : List ℕ) : Type 0 where
  pub some : 2 ≤ length bytes
  pub even : length bytes % 2 ≡ 0
  pub size : length bytes ≤ 4096
  pub whole : length out ≡ 6144

-- there is room for three characters at a place
pub record Room (out : List ℕ) (at : ℕ) : Type 0 where
  pub whole : length out ≡ 6144
  pub three : at + 3 ≤ 6144

-- where it is said so, a pair that is not the last carries three characters, and they stand at a place
abbrev pub Full : Bool → ℕ → ℕ → List ℕ → List ℕ → ℕ → Type 0
Full r x y out after at =
    r ≡ true → (length (chars_of (pair_of the_chart false x y)) ≡ 3) × (after ≡ over out at (chars_of (pair_of the_chart false x y)))

-- so far: at the start of the text stand the characters of the bytes before a place, three a pair, and the rest is still to be decoded
pub record Come (bytes : List ℕ) (i : ℕ) (out : List ℕ) (at : ℕ) : Type 0 where
  pub whole : length out ≡ 6144
  pub threes : 2 * at ≡ 3 * i
  pub sofar : Sofar bytes i (take at out)

-- where it is said so, all pairs before the last are put down
abbrev pub Front : Bool → List ℕ → List ℕ → Type 0
Front r bytes out = r ≡ true → Come bytes (length bytes - 2) out ((length bytes - 2) / 2 * 3)

-- so many characters stand at the start of the text, and are what the bytes decode as
pub record Decodes (bytes out : List ℕ) (count : ℕ) : Type 0 where
  pub room : count ≤ length out
  pub is_text_lem : decode 0 bytes ≡ text (take count out)

-- what is said is right; nothing is said where some pair is wrongly coded
abbrev pub Told : Option ℕ → List ℕ → List ℕ → Type 0
Told (Some count) bytes out = Decodes bytes out count
Told None bytes out = Unit
