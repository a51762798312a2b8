-- A table of words, a row a number.
-- Assumes nothing.
pub mod Laws
use Rattle.std.specs.Prelude.{ℕ, ◌<◌, ◌≤◌, ◌≡◌, List, [], ◌∷◌, eqb, length}
use Prim.Native.String.{String}
use Rattle.format.specs.Choice.{pick}
use Rattle.lines.specs.Line.{ascii}

-- a number and its words
pub record Row : Type 0 where
  pub number : ℕ
  pub words : String

abbrev pub row : ℕ → String → Row
row number words = record { number = number; words = words }

-- the words of a number's row, as bytes; none where it has no row
unfoldable pub sought : ℕ → List Row → List ℕ
sought n [] = []
sought n (r ∷ rs) = pick (eqb n r.number) (ascii r.words) (sought n rs)

-- the length of a table's longest words: no number has more, and one has as many
pub record LongestIn (rows : List Row) (size : ℕ) : Type 0 where
  pub most : (n : ℕ) → length (sought n rows) ≤ size
  pub one : ℕ
  pub reached : length (sought one rows) ≡ size

-- the numbers from 1 to the last have words, each its own, and no other number has any
pub record EachItsOwn (rows : List Row) (last : ℕ) : Type 0 where
  pub some : (n : ℕ) → 1 ≤ n → n ≤ last → 0 < length (sought n rows)
  pub none : (n : ℕ) → (1 ≤ n → n ≤ last → ⊥) → sought n rows ≡ []
  pub own : (m n : ℕ) → 0 < length (sought m rows) → sought m rows ≡ sought n rows → m ≡ n
