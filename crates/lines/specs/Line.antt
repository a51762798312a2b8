-- What building text in a buffer leaves there.
-- Assumes nothing.
pub mod Laws
use Rattle.std.specs.Prelude.{ℕ, zero, suc, ◌+◌, ◌-◌, ◌/◌, ◌%◌, ◌≤◌, ◌≡◌, cond, List, [], ◌∷◌, ◌++◌, ltb, length, set, take}
use Prim.Native.Char.{code}
use Prim.Native.String.{String, [] as none, ◌∷◌ as ◌next◌}

-- a buffer, and the place where the next byte goes
pub record Line : Type 0 where
  pub text : List ℕ
  pub at : ℕ

abbrev pub line : List ℕ → ℕ → Line
line text at = record { text = text; at = at }

-- one byte more, if there is room for it
abbrev pub with : Line → ℕ → Line
with l b = line (set l.text l.at b) (cond (ltb l.at (length l.text)) (l.at + 1) l.at)

-- these bytes more, as far as there is room
unfoldable pub with_all : Line → List ℕ → Line
with_all l [] = l
with_all l (b ∷ t) = with_all (with l b) t

-- from `at` to `r` no more is taken than the room that is left: `r` is no further than the end, or than `at`
pub record Within (out : List ℕ) (at r : ℕ) : Type 0 where
  pub most : r - at ≤ length out - at

-- n counts bytes at the start of s; the second part follows from the first, and is what lending them asks
abbrev pub Counts : ℕ → List ℕ → Type 0
Counts n s = (n ≤ length s) × (n ≡ length (take n s))

-- a buffer `old` with these bytes from `at` on is the buffer `new`, and the next place is `r`
pub record Put (old : List ℕ) (at : ℕ) (bytes new : List ℕ) (r : ℕ) : Type 0 where
  pub is : line new r ≡ with_all (line old at) bytes
  pub within : Within old at r

-- the digits of a number in decimal, as many as k at most
unfoldable pub digits : ℕ → ℕ → List ℕ
digits zero n = []
digits (suc k) n = cond (ltb n 10) ((48 + n) ∷ []) (digits k (n / 10) ++ ((48 + n % 10) ∷ []))

-- a number in decimal, with no zero in front
unfoldable pub decimal_of : ℕ → List ℕ
decimal_of n = digits (suc n) n

-- the bytes of a text
abbrev pub ascii : String → List ℕ
ascii none = []
ascii (c next s) = code c ∷ ascii s

-- one text and then another
infixr 5 ◌then◌
abbrev pub ◌then◌ : List ℕ → List ℕ → List ℕ
s then t = s ++ t
