-- Computed examples: Seal A from its header, text, rows, values and signature; and the order of the answers.
-- Assumes nothing.
use Rattle.std.specs.Prelude.{◌≡◌, refl, ℕ, List, [], ◌∷◌, ◌++◌, replicate}
use Rattle.format.specs.BigEndian.{be}
use Rattle.format.specs.Answers.{done, refused}
use Rattle.pairs.specs.Chart.{the_chart, value_of}
use Rattle.c40.specs.Text.{publish as c40}
use Rattle.pairs.specs.Pairs.{triple}
use Rattle.dates.specs.Days.{is_day, publish as date}
use Rattle.der.specs.Length.{form}
use Rattle.grammar.specs.Publish.{header_zone, message_zone, signature_zone, signed_bytes, publish}
use Rattle.grammar.specs.Examples.{uto, utab, ref_00001, spring, seal_a}
use Rattle.fields.specs.declared.Header.{Header}
use Rattle.write_rows.specs.Tests.{are_rows, are_short}
use Rattle.rows.specs.Rows.{numbers, valued, row_at, table, first_rows, rows_of}
use Rattle.write_given.specs.Given.{Given, given, content_as}
use Rattle.write_judge.specs.Calls.{writing_as, writing}

abbrev header_a : Header
header_a = record { version = 3; country = uto; length = 5; issued = spring; signed = spring; definition = 1; category = 2 }

-- Seal A with these rows over these values, and so many signature bytes
abbrev with_rows : List ℕ → List ℕ → ℕ → Given
with_rows rows values n = given header_a (utab ++ ref_00001) rows values (replicate n 0xAA)

abbrev visa01 : List ℕ
visa01 = 0xDE ∷ 0x51 ∷ 0x58 ∷ 0x26 ∷ []

-- Seal A, in a room of its size and in one of a byte less
seal : writing (with_rows (table (valued 10 0 4 ∷ [])) visa01 56) 82 ≡ done seal_a
unfolding writing writing_as is_day are_rows are_short publish signed_bytes header_zone message_zone signature_zone content_as c40 triple the_chart
    value_of date be form numbers row_at table first_rows rows_of
seal = refl

no_room : writing (with_rows (table (valued 10 0 4 ∷ [])) visa01 56) 81 ≡ refused 28 0
unfolding writing writing_as is_day are_rows are_short publish signed_bytes header_zone message_zone signature_zone content_as c40 triple the_chart
    value_of date be form numbers row_at table first_rows rows_of
no_room = refl

-- a row one past the values, and a number over
outside : writing (with_rows (table (valued 10 1 4 ∷ [])) visa01 56) 82 ≡ refused 24 0
unfolding writing writing_as is_day are_rows numbers row_at table first_rows rows_of
outside = refl

number_over : writing (with_rows (table (valued 10 0 4 ∷ []) ++ (11 ∷ [])) visa01 56) 82 ≡ refused 24 0
unfolding writing writing_as is_day are_rows numbers row_at table first_rows rows_of
number_over = refl

-- tag 254 and no more, and no tag twice
tag_255 : writing (with_rows (table (valued 255 0 4 ∷ [])) visa01 56) 82 ≡ refused 24 0
unfolding writing writing_as is_day are_rows numbers row_at table first_rows rows_of
tag_255 = refl

tag_twice : writing (with_rows (table (valued 254 0 4 ∷ valued 254 0 4 ∷ [])) visa01 56) 82 ≡ refused 24 0
unfolding writing writing_as is_day are_rows numbers row_at table first_rows rows_of
tag_twice = refl

-- a value of 256 bytes in version 3, before a signature of 57
long_value : writing (with_rows (table (valued 10 0 256 ∷ [])) (replicate 256 7) 57) 82 ≡ refused 25 0
unfolding writing writing_as is_day are_rows numbers row_at table first_rows rows_of are_short
long_value = refl

signature_57 : writing (with_rows (table (valued 10 0 255 ∷ [])) (replicate 255 7) 57) 82 ≡ refused 26 0
unfolding writing writing_as is_day are_rows numbers row_at table first_rows rows_of are_short
signature_57 = refl

-- version 4, reference 7, one value of so many bytes: 4,096 in all would do, 4,097 is too long whatever the room
abbrev sized : ℕ → Given
sized n =
    given
    (record { version = 4; country = uto; length = 1; issued = spring; signed = spring; definition = 1; category = 2 })
    (utab ++ (55 ∷ [])) (table (valued 10 0 n ∷ [])) (replicate n 0) (replicate 56 0xAA)

size_4096 : writing (sized 4016) 4095 ≡ refused 28 0
unfolding writing writing_as is_day are_rows are_short publish signed_bytes header_zone message_zone signature_zone content_as c40 triple the_chart
    value_of date be form numbers row_at table first_rows rows_of
size_4096 = refl

size_4097 : writing (sized 4017) 4095 ≡ refused 27 0
unfolding writing writing_as is_day are_rows are_short publish signed_bytes header_zone message_zone signature_zone content_as c40 triple the_chart
    value_of date be form numbers row_at table first_rows rows_of
size_4097 = refl

-- the names: a space in the country, L that is not the reference's length, and 20 before 21
abbrev with_header : ℕ → List ℕ → ℕ → Given
with_header version country l =
    given (record { version = version; country = country; length = l; issued = spring; signed = spring; definition = 1; category = 2 })
    (utab ++ ref_00001) [] [] (replicate 56 0xAA)

spaced : writing (with_header 3 (68 ∷ 32 ∷ 32 ∷ []) 5) 82 ≡ refused 21 0
unfolding writing writing_as
spaced = refl

wrong_l : writing (with_header 4 uto 4) 82 ≡ refused 21 0
unfolding writing writing_as
wrong_l = refl

version_5 : writing (with_header 5 (68 ∷ 32 ∷ 32 ∷ []) 5) 82 ≡ refused 20 0
unfolding writing writing_as
version_5 = refl
