-- A table as the page of text that the code holds: a line a row, its number in two digits, a space and the words. And what is found in
-- any text that is read as such a page.
-- Assumes nothing.
pub mod Laws
use Rattle.std.specs.Prelude.{ℕ, suc, ◌+◌, ◌*◌, ◌-◌, ◌/◌, ◌%◌, List, [], ◌∷◌, ◌++◌, eqb, get_or, drop}
use Rattle.format.specs.Choice.{pick}
use Rattle.lines.specs.Line.{ascii}
use Rattle.pages.specs.Rows.{Row}

-- a row's line, and the lines after it
abbrev pub line_of : Row → List ℕ → List ℕ
line_of r rest = (48 + r.number / 10) ∷ (48 + r.number % 10) ∷ 32 ∷ (ascii r.words ++ 10 ∷ rest)

unfoldable pub page_of : List Row → List ℕ
page_of [] = []
page_of (r ∷ rows) = line_of r (page_of rows)

-- a byte put before the first line, and the lines of a text, without their newlines
abbrev pub before : ℕ → List (List ℕ) → List (List ℕ)
before x [] = (x ∷ []) ∷ []
before x (l ∷ ls) = (x ∷ l) ∷ ls

unfoldable pub lines_of : List ℕ → List (List ℕ)
lines_of [] = []
lines_of (x ∷ s) = pick (eqb x 10) ([] ∷ lines_of s) (before x (lines_of s))

-- the number that the first two digits of a line stand for
abbrev pub code_of : List ℕ → ℕ
code_of l = (get_or l 0 0 - 48) * 10 + (get_or l 1 0 - 48)

-- what stands after the two digits and the space in the first of these lines that begins with a code; nothing where none does
unfoldable pub among : ℕ → List (List ℕ) → List ℕ
among code [] = []
among code (l ∷ ls) = pick (eqb code (code_of l)) (drop 3 l) (among code ls)

abbrev pub line_for : ℕ → List ℕ → List ℕ
line_for code page = among code (lines_of page)
