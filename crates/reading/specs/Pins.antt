-- Computed examples of what the calls answer and write, for Seal A and for a refusal, and when 12 is told.
-- Assumes nothing.
use Rattle.std.specs.Prelude.{◌≡◌, refl, ℕ, List, [], ◌∷◌}
use Rattle.std.proofs.Common.{ap}
use Rattle.std.proofs.Math.Option.{none, map}
use Rattle.format.specs.BigEndian.{val}
use Rattle.pairs.specs.Chart.{the_chart, value_of}
use Rattle.pairs.specs.Pairs.{pair_of, single, values}
use Rattle.c40.specs.Decode.{decode}
use Rattle.dates.specs.Days.{is_day}
use Rattle.dates.specs.Calls.{no_date}
use Rattle.der.specs.Length.{read_length, long_form}
use Rattle.grammar.specs.Examples.{header_a, seal_a}
use Rattle.rows.specs.Rows.{width, numbers, table}
use Rattle.verdict.specs.Judge.{accepted, refused, header, tag, row, features, signature, reading, judging, judge}
use Rattle.verdict.specs.Judge.Pins.{report_a}
use Rattle.versions.specs.Versions.{version_of}
use Rattle.reading.specs.Answer.{content_as, content_in}
use Rattle.reading.specs.declared.Reading.{Reading}
use Rattle.reading.specs.Calls.{answer_of, reading as asked, rows_in, text_in, then}

-- what the calls answer for Seal A and for a refusal
a_answered :
    answer_of (accepted report_a)
    ≡ record {
      number = 0;
      place = 0;
      header =
          record {
            version = 3;
            country = header_a.country;
            length = 5;
            issued = header_a.issued;
            signed = header_a.signed;
            definition = 1;
            category = 2;
          };
      ends = record { header = 18; message = 24; seal = 82 };
      signature = record { place = 26; length = 56 };
      count = 1;
    }
a_answered = refl

refusal_answered :
    answer_of (refused 9 24)
    ≡ record {
      number = 9;
      place = 24;
      header =
          record { version = 0; country = 0 ∷ 0 ∷ 0 ∷ []; length = 0; issued = no_date; signed = no_date; definition = 0; category = 0 };
      ends = record { header = 0; message = 0; seal = 0 };
      signature = record { place = 0; length = 0 };
      count = 0;
    }
refusal_answered = refl

-- a caller holds no content after a refusal, nor from an answer whose version is neither 3 nor 4
no_content : (s table text : List ℕ) → content_in s (answer_of (refused 9 24)) table text ≡ none
unfolding content_in
no_content s table text = refl

version_7 : (s table text : List ℕ) (r : Reading) → r.header.version ≡ 7 → content_in s r table text ≡ none
unfolding content_in
version_7 s table text r e = ap (λ n. map (content_as s r table text) (version_of n)) e

-- 12, and the room that is just enough: 4 numbers a feature
table_short : asked seal_a 3 9 ≡ refused 12 0
unfolding judge judging reading header tag row features signature decode pair_of single values the_chart value_of is_day read_length long_form val
table_short = refl

text_short : asked seal_a width 8 ≡ refused 12 0
unfolding judge judging reading header tag row features signature decode pair_of single values the_chart value_of is_day read_length long_form val
text_short = refl

enough : asked seal_a 4 9 ≡ accepted report_a
unfolding judge judging reading header tag row features signature decode pair_of single values the_chart value_of is_day read_length long_form val
enough = refl

verdict_first : asked [] 0 0 ≡ refused 2 0
unfolding judge judging reading header
verdict_first = refl

-- what is written: the row, signer and reference; a refusal writes nothing, and memory past what is written stays
a_rows : rows_in (accepted report_a) ≡ 10 ∷ 18 ∷ 20 ∷ 4 ∷ []
unfolding table numbers
a_rows = refl

a_text : text_in (accepted report_a) ≡ 85 ∷ 84 ∷ 65 ∷ 66 ∷ 48 ∷ 48 ∷ 48 ∷ 48 ∷ 49 ∷ []
a_text = refl

nothing_written : (rows_in (refused 9 24) ≡ []) × (text_in (refused 9 24) ≡ [])
nothing_written = (refl, refl)

rest_stays : then (1 ∷ 2 ∷ []) (7 ∷ 8 ∷ 9 ∷ []) ≡ 1 ∷ 2 ∷ 9 ∷ []
rest_stays = refl
