-- What the lines of an answer say: numbers, bytes in hex, a sum. Putting text down on a line is of the crate `lines`.
-- Assumes nothing.
pub mod Laws
use Rattle.std.specs.Prelude.{ℕ, suc, ◌≡◌, ◌+◌, ◌*◌, ◌-◌, ◌/◌, ◌%◌, cond, List, [], ◌∷◌, ◌++◌, leb, length, take, drop}
use Rattle.format.specs.Hex.{hex_digit}
pub use Rattle.lines.specs.Line.{Within, Counts}
unfoldable pub use Rattle.lines.specs.Line.{decimal_of}
use Rattle.lines.specs.declared.written.Line.{Line}

-- a line that was written on: no more is taken than the room that is left, and the buffer keeps its length and stays the same buffer
pub record Onward (old new : Line) : Type 0 where
  pub within : Within old.out.now old.at new.at
  pub size : length new.out.now ≡ length old.out.now
  pub same : new.out.ghost_name ≡ old.out.ghost_name

-- numbers in decimal, with a space before each
unfoldable pub words_of : List ℕ → List ℕ
words_of [] = []
words_of (n ∷ t) = 32 ∷ (decimal_of n ++ words_of t)

-- bytes in hex, two digits for each
unfoldable pub hex_of : List ℕ → List ℕ
hex_of [] = []
hex_of (b ∷ t) = hex_digit (b / 16) ∷ hex_digit (b % 16) ∷ hex_of t

-- the sum of all bytes, each times its place, the first of which is k
unfoldable pub weighted : ℕ → List ℕ → ℕ
weighted k [] = 0
weighted k (b ∷ t) = k * b + weighted (suc k) t

-- bytes in hex: all of them up to 24, else the first 8, `..`, the last 8, ` sum ` and the sum
unfoldable pub shown : List ℕ → List ℕ
shown s =
    cond (leb (length s) 24) (hex_of s)
    (hex_of (take 8 s)
    ++ ((46 ∷ 46 ∷ []) ++ (hex_of (drop (length s - 8) s) ++ ((32 ∷ 115 ∷ 117 ∷ 109 ∷ 32 ∷ []) ++ decimal_of (weighted 1 s % 65521)))))
