-- The tests of the rows that the writer is given (document 01, numbers 24 and 25).
-- Assumes nothing.
pub mod Laws
use Rattle.std.specs.Prelude.{Bool, true, false, ℕ, ◌+◌, List, [], ◌∷◌, leb}
use Rattle.format.specs.Choice.{pick, both}
use Rattle.grammar.specs.Content.{Version, three, four}
use Rattle.rows.specs.declared.Row.{Row}
use Rattle.rows.specs.Rows.{is_whole, rows_of}
use Rattle.verdict.specs.Judge.{used}

-- 24: table not in whole rows, tag over 254 or used twice, or a value outside the values buffer, of so many bytes
abbrev pub is_row : ℕ → List Row → Row → Bool
is_row n before r = both (leb r.tag 254) (both (pick (used r.tag before) false true) (leb (r.place + r.size) n))

unfoldable pub are_rows : ℕ → List Row → List Row → Bool
are_rows n before [] = true
are_rows n before (r ∷ rows) = both (is_row n before r) (are_rows n (r ∷ before) rows)

abbrev pub is_table : ℕ → List ℕ → Bool
is_table n table = both (is_whole table) (are_rows n [] (rows_of table))

-- 25: value over 255 bytes in version 3
unfoldable pub are_short : List Row → Bool
are_short [] = true
are_short (r ∷ rows) = both (leb r.size 255) (are_short rows)

abbrev pub are_sized : Version → List Row → Bool
are_sized three rows = are_short rows
are_sized four rows = true

abbrev pub are_values : Version → List ℕ → Bool
are_values v table = are_sized v (rows_of table)
