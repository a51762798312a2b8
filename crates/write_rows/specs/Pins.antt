-- Computed examples: the tests of rows at their bounds.
-- Assumes nothing.
use Rattle.std.specs.Prelude.{◌≡◌, refl, true, false, ℕ, List, [], ◌∷◌, ◌++◌, map, take}
use Rattle.grammar.specs.Content.{three, four}
use Rattle.rows.specs.Rows.{numbers, valued, row_at, table, first_rows, rows_of}
use Rattle.write_rows.specs.Tests.{are_rows, is_table, are_short, are_values}

-- over four bytes of values: whole, empty at the end, empty past it, one past it; a number over; tag 254 and not 255; a tag used twice
tables :
    (is_table 4 (table (valued 10 0 4 ∷ [])) ≡ true) × (is_table 4 (table (valued 10 4 0 ∷ [])) ≡ true)
    × (is_table 4 (table (valued 10 5 0 ∷ [])) ≡ false) × (is_table 4 (table (valued 10 1 4 ∷ [])) ≡ false)
    × (is_table 4 (table (valued 10 0 4 ∷ []) ++ (11 ∷ [])) ≡ false)
    × (is_table 4 (table (valued 254 0 4 ∷ [])) ≡ true) × (is_table 4 (table (valued 255 0 4 ∷ [])) ≡ false)
    × (is_table 4 (table (valued 10 0 1 ∷ valued 11 0 1 ∷ valued 10 2 1 ∷ [])) ≡ false) × (is_table 4 [] ≡ true)
unfolding are_rows numbers row_at table first_rows rows_of
tables = (refl, refl, refl, refl, refl, refl, refl, refl, refl)

-- a table in fours, of 0 to 9 numbers; its second number, 99, is no place of the buffer
abbrev nine : List ℕ
nine = 10 ∷ 99 ∷ 0 ∷ 4 ∷ 11 ∷ 0 ∷ 4 ∷ 0 ∷ 12 ∷ []

in_fours :
    map (λ k. is_table 4 (take k nine)) (0 ∷ 1 ∷ 2 ∷ 3 ∷ 4 ∷ 5 ∷ 6 ∷ 7 ∷ 8 ∷ 9 ∷ [])
    ≡ true ∷ false ∷ false ∷ false ∷ true ∷ false ∷ false ∷ false ∷ true ∷ false ∷ []
unfolding are_rows row_at first_rows rows_of
in_fours = refl

values :
    (are_values three (table (valued 10 0 255 ∷ [])) ≡ true) × (are_values three (table (valued 10 0 256 ∷ [])) ≡ false)
    × (are_values four (table (valued 10 0 256 ∷ [])) ≡ true)
unfolding are_short numbers row_at table first_rows rows_of
values = (refl, refl, refl)
