-- Computed examples: two rows and their numbers, there and back; a number over is no row.
-- Assumes nothing.
use Rattle.std.specs.Prelude.{◌≡◌, refl, true, false, ℕ, List, [], ◌∷◌, Some, None}
use Rattle.format.specs.Buffer.{over}
use Rattle.rows.specs.declared.Row.{Row}
use Rattle.rows.specs.Rows.{numbers, row_of, row_at, found_at, row_put, table, first_rows, rows_of, is_whole}

abbrev one : Row
one = row_of 10 18 20 4

abbrev other : Row
other = row_of 254 24 26 0

abbrev eight : List ℕ
eight = 10 ∷ 18 ∷ 20 ∷ 4 ∷ 254 ∷ 24 ∷ 26 ∷ 0 ∷ []

there : table (one ∷ other ∷ []) ≡ eight
unfolding numbers table
there = refl

back : rows_of eight ≡ one ∷ other ∷ []
unfolding row_at first_rows rows_of
back = refl

-- at a place of the table, and where one number of a row is missing
found_there : (found_at eight 4 ≡ Some other) × (found_at eight 5 ≡ None) × (found_at [] 0 ≡ None)
unfolding row_at found_at
found_there = (refl, refl, refl)

put_there : (row_put other eight 0 ≡ 254 ∷ 24 ∷ 26 ∷ 0 ∷ 254 ∷ 24 ∷ 26 ∷ 0 ∷ []) × (row_put other eight 5 ≡ eight)
unfolding numbers row_put over
put_there = (refl, refl)

no_more :
    (rows_of (10 ∷ 18 ∷ 20 ∷ 4 ∷ 254 ∷ 24 ∷ 26 ∷ []) ≡ one ∷ []) × (is_whole (10 ∷ 18 ∷ 20 ∷ []) ≡ false)
    × (is_whole (10 ∷ 18 ∷ 20 ∷ 4 ∷ 254 ∷ 24 ∷ []) ≡ false) × (is_whole eight ≡ true) × (is_whole [] ≡ true)
unfolding row_at first_rows rows_of
no_more = (refl, refl, refl, refl, refl)
