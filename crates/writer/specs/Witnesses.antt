-- Each answer from 20 to 28 is given for some call, so none is dead: a call for each, under one statement; the order in
-- which they are given; and Seal A and one seal more written.
-- Assumes nothing.
use Rattle.std.specs.Prelude.{◌≡◌, refl, ℕ, List, [], ◌∷◌, ◌++◌, map, replicate}
use Rattle.std.proofs.Math.Option.{some}
use Rattle.format.specs.Bytes.{All}
use Rattle.format.specs.BigEndian.{be}
use Rattle.format.specs.Answers.{done, refused}
use Rattle.pairs.specs.Chart.{the_chart, value_of}
use Rattle.c40.specs.Text.{publish as c40}
use Rattle.pairs.specs.Pairs.{triple}
use Rattle.dates.specs.declared.Date.{Date}
use Rattle.dates.specs.Days.{is_day, first_day, last_day, publish as date}
use Rattle.der.specs.Length.{form}
use Rattle.grammar.specs.Publish.{header_zone, message_zone, signature_zone, signed_bytes, publish}
use Rattle.grammar.specs.Examples.{uto, utab, ref_00001, d_fillers, spring, content_a, seal_a, content_b, signed_b}
use Rattle.fields.specs.declared.Header.{Header}
use Rattle.write_rows.specs.Tests.{are_rows, are_short}
use Rattle.rows.specs.Rows.{numbers, valued, row_at, table, first_rows, rows_of}
use Rattle.write_given.specs.Given.{Given, content_as, content_of, given}
use Rattle.write_judge.specs.Calls.{writing_as, writing}

-- Seal A as it is given: header, text, one row over four bytes, signature
abbrev headed : ℕ → List ℕ → ℕ → Date → ℕ → Header
headed version country size signed category =
    record { version = version; country = country; length = size; issued = spring; signed = signed; definition = 1; category = category }

abbrev pub header_a : Header
header_a = headed 3 uto 5 spring 2

abbrev text_a : List ℕ
text_a = utab ++ ref_00001

abbrev table_a : List ℕ
table_a = table (valued 10 0 4 ∷ [])

abbrev values_a : List ℕ
values_a = 0xDE ∷ 0x51 ∷ 0x58 ∷ 0x26 ∷ []

abbrev signature_a : List ℕ
signature_a = replicate 56 0xAA

abbrev pub given_a : Given
given_a = given header_a text_a table_a values_a signature_a

a_content : content_of given_a ≡ some content_a
unfolding content_of content_as numbers row_at table first_rows rows_of
a_content = refl

pub seal_a_written : writing given_a 82 ≡ done seal_a
unfolding writing writing_as content_as are_rows are_short is_day publish signed_bytes header_zone message_zone signature_zone date be c40 triple
    the_chart value_of form numbers row_at table first_rows rows_of
seal_a_written = refl

-- B, version 4, where no two fields are alike: the rows stand in another order than their values, and the last value is
-- empty at the buffer's end
abbrev pub given_b : Given
given_b =
    given
    (record { version = 4; country = d_fillers; length = 10; issued = last_day; signed = first_day; definition = 254; category = 1 })
    (65 ∷ 90 ∷ 48 ∷ 57 ∷ 70 ∷ 57 ∷ 65 ∷ 48 ∷ 65 ∷ 66 ∷ 67 ∷ 68 ∷ 69 ∷ 70 ∷ [])
    (table (valued 254 1 128 ∷ valued 0 129 0 ∷ []))
    (9 ∷ replicate 128 7)
    (replicate 128 0xAA)

b_content : content_of given_b ≡ some content_b
unfolding content_of content_as numbers row_at table first_rows rows_of
b_content = refl

pub seal_b_written : writing given_b 288 ≡ done (signed_b ++ (0xFF ∷ 0x81 ∷ 0x80 ∷ replicate 128 0xAA))
unfolding writing writing_as content_as are_rows are_short is_day publish signed_bytes header_zone message_zone signature_zone date be c40 triple
    the_chart value_of form numbers row_at table first_rows rows_of
seal_b_written = refl

-- a call, the room lent and the number of the refusal
pub record Witness : Type 0 where
  pub call : Given
  pub room : ℕ
  pub number : ℕ

abbrev pub Refused : Witness → Type 0
Refused w = writing w.call w.room ≡ refused w.number 0

-- Seal A with another header; with another text; with another table; with other rows over other values
abbrev with_header : Header → ℕ → Witness
with_header h number = record { call = given h text_a table_a values_a signature_a; room = 82; number = number }

abbrev with_text : ℕ → List ℕ → Witness
with_text size text = record { call = given (headed 3 uto size spring 2) text table_a values_a signature_a; room = 82; number = 21 }

abbrev with_table : List ℕ → Witness
with_table t = record { call = given header_a text_a t values_a signature_a; room = 82; number = 24 }

-- so many bytes as the one value, in version 4
abbrev large : ℕ → Given
large n = given (headed 4 uto 1 spring 2) (utab ++ (55 ∷ [])) (table (valued 0 0 n ∷ [])) (replicate n 0) signature_a

abbrev day_32 : Date
day_32 = record { month = 3; day = 32; year = 1957 }

abbrev pub witnesses : List Witness
witnesses =
    with_header (headed 2 uto 5 spring 2) 20
    -- fillers given as spaces
    ∷ with_header (headed 3 (68 ∷ 32 ∷ 32 ∷ []) 5 spring 2) 21
    -- a letter after a filler
    ∷ with_header (headed 3 (68 ∷ 60 ∷ 68 ∷ []) 5 spring 2) 21
    -- a digit first in the signer; a small letter in the reference; four characters of it in version 3; L that is not its length
    ∷ with_text 5 (48 ∷ 84 ∷ 65 ∷ 66 ∷ ref_00001)
    ∷ with_text 5 (utab ++ (48 ∷ 48 ∷ 48 ∷ 48 ∷ 97 ∷ []))
    ∷ with_text 4 (utab ++ (48 ∷ 48 ∷ 48 ∷ 48 ∷ []))
    ∷ with_text 4 text_a
    ∷ with_header (headed 3 uto 5 day_32 2) 22
    ∷ with_header (headed 3 uto 5 spring 0) 23
    ∷ with_header (headed 3 uto 5 spring 255) 23
    -- a number over; tag 255; used twice; a value that ends, and one that starts, outside
    ∷ with_table (table (valued 10 0 4 ∷ []) ++ (11 ∷ []))
    ∷ with_table (table (valued 255 0 4 ∷ []))
    ∷ with_table (table (valued 10 0 1 ∷ valued 11 1 1 ∷ valued 10 2 1 ∷ []))
    ∷ with_table (table (valued 10 1 4 ∷ []))
    ∷ with_table (table (valued 10 5 0 ∷ []))
    ∷ record { call = given header_a text_a (table (valued 10 0 256 ∷ [])) (replicate 256 0) signature_a; room = 400; number = 25 }
    ∷ record { call = given header_a text_a table_a values_a (replicate 57 0xAA); room = 100; number = 26 }
    ∷ record { call = large 4017; room = 5000; number = 27 }
    ∷ record { call = given_a; room = 81; number = 28 }
    ∷ []

pub each_is_given : All Refused witnesses
unfolding writing writing_as content_as are_rows are_short is_day publish signed_bytes header_zone message_zone signature_zone date be c40 triple
    the_chart value_of form numbers row_at table first_rows rows_of
each_is_given = (
  refl,
  (
    refl,
    (
      refl,
      (refl, (refl, (refl, (refl, (refl, (refl, (refl, (refl, (refl, (refl, (refl, (refl, (refl, (refl, (refl, (refl, tt)))))))))))))))),
    ),
  ),
)

-- they are 20 to 28, none left out
pub all_of_them :
    map (λ w. w.number) witnesses ≡ 20 ∷ 21 ∷ 21 ∷ 21 ∷ 21 ∷ 21 ∷ 21 ∷ 22 ∷ 23 ∷ 23 ∷ 24 ∷ 24 ∷ 24 ∷ 24 ∷ 24 ∷ 25 ∷ 26 ∷ 27 ∷ 28 ∷ []
all_of_them = refl

-- "20 to 28 in order": a call with every fault, and after it the faults put right one by one from the left; past 26 a
-- seal that would be too long for which there is no room
abbrev faults : Header → List ℕ → List ℕ → List ℕ → ℕ → Witness
faults h text t values number = record { call = given h text t values (replicate 57 0xAA); room = 0; number = number }

abbrev pub in_order_lem : List Witness
in_order_lem =
    faults (headed 2 (68 ∷ 32 ∷ 32 ∷ []) 5 day_32 0) [] (table (valued 10 0 256 ∷ []) ++ (1 ∷ [])) (replicate 256 0) 20
    ∷ faults (headed 3 (68 ∷ 32 ∷ 32 ∷ []) 5 day_32 0) [] (table (valued 10 0 256 ∷ []) ++ (1 ∷ [])) (replicate 256 0) 21
    ∷ faults (headed 3 uto 5 day_32 0) text_a (table (valued 10 0 256 ∷ []) ++ (1 ∷ [])) (replicate 256 0) 22
    ∷ faults (headed 3 uto 5 spring 0) text_a (table (valued 10 0 256 ∷ []) ++ (1 ∷ [])) (replicate 256 0) 23
    ∷ faults header_a text_a (table (valued 10 0 256 ∷ []) ++ (1 ∷ [])) (replicate 256 0) 24
    ∷ faults header_a text_a (table (valued 10 0 256 ∷ [])) (replicate 256 0) 25
    ∷ faults header_a text_a (table (valued 10 0 255 ∷ [])) (replicate 256 0) 26
    ∷ record { call = large 4017; room = 0; number = 27 }
    ∷ record { call = large 4016; room = 0; number = 28 }
    ∷ []

pub each_in_order : All Refused in_order_lem
unfolding writing writing_as content_as are_rows are_short is_day publish signed_bytes header_zone message_zone signature_zone date be c40 triple
    the_chart value_of form numbers row_at table first_rows rows_of
each_in_order = (refl, (refl, (refl, (refl, (refl, (refl, (refl, (refl, (refl, tt)))))))))
