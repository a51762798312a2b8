-- A row and its numbers in a table (document 02, Ticket 10): how many numbers a row has, and which stands where, is said here and
-- nowhere else.
-- Assumes nothing.
use Rattle.std.specs.Prelude.{◌≡◌, Bool, ℕ, zero, suc, ◌+◌, ◌/◌, ◌%◌, List, [], ◌∷◌, ◌++◌, Option, Some, None, eqb, ltb, length, get_or, drop}
use Rattle.format.specs.Choice.{pick}
use Rattle.format.specs.Buffer.{over}
use Rattle.rows.specs.declared.Row.{Row}

-- how many numbers a row has
abbrev pub width : ℕ
width = 4

-- they stand in this order: tag, tag place, value place, value length
unfoldable pub numbers : Row → List ℕ
numbers r = r.tag ∷ r.start ∷ r.place ∷ r.size ∷ []

-- the row of a feature as a reader finds it: its tag, where that stands, its value's place and length
abbrev pub row_of : ℕ → ℕ → ℕ → ℕ → Row
row_of tag start place size = record { tag = tag; start = start; place = place; size = size }

-- and as a writer may be given it: the tag's place is ignored
abbrev pub valued : ℕ → ℕ → ℕ → Row
valued tag place size = row_of tag 0 place size

-- the row whose first number stands at a place
unfoldable pub row_at : List ℕ → ℕ → Row
row_at t at = row_of (get_or t at 0) (get_or t (at + 1) 0) (get_or t (at + 2) 0) (get_or t (at + 3) 0)

-- where the table has all its numbers
unfoldable pub found_at : List ℕ → ℕ → Option Row
found_at t at = pick (ltb (length t) (at + width)) None (Some (row_at t at))

-- a table after a row was put down, its first number at a place: all of it, or nothing where it does not fit
unfoldable pub row_put : Row → List ℕ → ℕ → List ℕ
row_put r t at = pick (ltb (length t) (at + width)) t (over t at (numbers r))

-- the table of rows: the numbers of each, row after row
unfoldable pub table : List Row → List ℕ
table [] = []
table (r ∷ rows) = numbers r ++ table rows

-- the rows of a table, so many, and all; what is over is no row
unfoldable pub first_rows : ℕ → List ℕ → List Row
first_rows zero t = []
first_rows (suc count) t = row_at t 0 ∷ first_rows count (drop width t)

unfoldable pub rows_of : List ℕ → List Row
rows_of t = first_rows (length t / width) t

-- no number is over
abbrev pub Whole : List ℕ → Type 0
Whole t = length t % width ≡ 0

abbrev pub is_whole : List ℕ → Bool
is_whole t = eqb (length t % width) 0
