-- Computed examples: the content that is given, its features in the order of their rows, and the tests at their bounds.
-- Assumes nothing.
use Rattle.std.specs.Prelude.{◌≡◌, refl, true, false, ℕ, List, [], ◌∷◌, ◌++◌}
use Rattle.std.proofs.Math.Option.{none, some}
use Rattle.dates.specs.Days.{first_day}
use Rattle.grammar.specs.Content.{three, four}
use Rattle.grammar.specs.Examples.{uto, utab, ref_00001, d_fillers, spring}
use Rattle.fields.specs.declared.Header.{Header}
use Rattle.rows.specs.Rows.{numbers, valued, row_at, table, first_rows, rows_of}
use Rattle.write_given.specs.Given.{content_as, content_of, given}
use Rattle.write_given.specs.Tests.{is_text_size, are_names}

abbrev header : ℕ → List ℕ → ℕ → Header
header version country l =
    record { version = version; country = country; length = l; issued = spring; signed = first_day; definition = 1; category = 254 }

-- tag 254 before tag 0, as the rows have them
in_order_lem :
    content_of (given (header 3 d_fillers 5) (utab ++ ref_00001) (table (valued 254 1 2 ∷ valued 0 0 1 ∷ [])) (7 ∷ 8 ∷ 9 ∷ []) (0xAA ∷ []))
    ≡ some (record {
      header = record {
        version = three;
        country = d_fillers;
        signer = utab;
        reference = ref_00001;
        issued = spring;
        signed = first_day;
        definition = 1;
        category = 254;
      };
      features = record { tag = 254; value = 8 ∷ 9 ∷ [] } ∷ record { tag = 0; value = 7 ∷ [] } ∷ [];
      signature = 0xAA ∷ [];
    })
unfolding content_of content_as numbers row_at table first_rows rows_of
in_order_lem = refl

-- a number that is no version's says no content
version_7 : (table values signature : List ℕ) → content_of (given (header 7 uto 5) (utab ++ ref_00001) table values signature) ≡ none
unfolding content_of
version_7 table values signature = refl

sizes :
    (is_text_size three 8 ≡ false)
    × (is_text_size three 9 ≡ true)
    × (is_text_size three 10 ≡ false)
    × (is_text_size four 4 ≡ false)
    × (is_text_size four 5 ≡ true)
    × (is_text_size four 259 ≡ true)
    × (is_text_size four 260 ≡ false)
sizes = (refl, refl, refl, refl, refl, refl, refl)

-- L that is not the reference's length, and a space in the country
named :
    (are_names three (header 3 uto 5) (utab ++ ref_00001) ≡ true)
    × (are_names four (header 4 uto 5) (utab ++ ref_00001) ≡ true)
    × (are_names four (header 4 uto 4) (utab ++ ref_00001) ≡ false)
    × (are_names four (header 4 uto 6) (utab ++ ref_00001) ≡ false)
    × (are_names three (header 3 (68 ∷ 32 ∷ 32 ∷ []) 5) (utab ++ ref_00001) ≡ false)
named = (refl, refl, refl, refl, refl)
