-- Computed examples of the verdict: Seal A, and document 01's refusals of it; each number at a place that tells it from the others.
-- Assumes nothing.
use Rattle.std.specs.Prelude.{◌≡◌, refl, [], ◌∷◌, ◌++◌, take, replicate}
use Rattle.format.specs.BigEndian.{val}
use Rattle.pairs.specs.Chart.{the_chart, value_of}
use Rattle.pairs.specs.Pairs.{pair_of, single, values}
use Rattle.c40.specs.Decode.{decode}
use Rattle.dates.specs.Days.{is_day}
use Rattle.der.specs.Length.{read_length, long_form}
use Rattle.grammar.specs.Examples.{header_a, content_a, seal_a, header_b, signed_b, header_c, signed_c}
use Rattle.rows.specs.Rows.{row_of}
use Rattle.verdict.specs.Judge.{Report, accepted, refused, header, tag, row, features, signature, reading, judging, judge}
use Rattle.verdict.specs.Report.{content_of}

abbrev pub report_a : Report
report_a = record {
  header = header_a;
  rows = row_of 10 18 20 4 ∷ [];
  header_end = 18;
  message_end = 24;
  seal_end = 82;
  signature_place = 26;
  signature_size_lem = 56;
}

a_accepted : judge seal_a ≡ accepted report_a
unfolding judge judging reading header tag row features signature decode pair_of single values the_chart value_of is_day read_length long_form val
a_accepted = refl

a_reported : content_of seal_a report_a ≡ content_a
unfolding content_of
a_reported = refl

-- empty input: 2 at 0; one byte more: 11 at 82; one less: 2 at 26; a second tag 0A at 24: 9 at 24
empty : judge [] ≡ refused 2 0
unfolding judge judging reading header
empty = refl

one_more : judge (seal_a ++ (0 ∷ [])) ≡ refused 11 82
unfolding judge judging reading header tag row features signature decode pair_of single values the_chart value_of is_day read_length long_form val
one_more = refl

one_less : judge (take 81 seal_a) ≡ refused 2 26
unfolding judge judging reading header tag row features signature decode pair_of single values the_chart value_of is_day read_length long_form val
one_less = refl

tag_again : judge (take 24 seal_a ++ (0x0A ∷ [])) ≡ refused 9 24
unfolding judge judging reading header tag row features signature decode pair_of single values the_chart value_of is_day read_length long_form val
tag_again = refl

too_long_lem : judge (replicate 4097 0) ≡ refused 1 4096
unfolding judge judging
too_long_lem = refl

-- a version 4 seal, and one of version 3 whose lengths 80 and FF are plain bytes
b_accepted :
    judge (signed_b ++ (0xFF ∷ 0x81 ∷ 0x80 ∷ replicate 128 0xAA))
    ≡ accepted
    (record {
      header = header_b;
      rows = row_of 254 24 27 128 ∷ row_of 0 155 157 0 ∷ [];
      header_end = 24;
      message_end = 157;
      seal_end = 288;
      signature_place = 160;
      signature_size_lem = 128;
    })
unfolding judge judging reading header tag row features signature decode pair_of single values the_chart value_of is_day read_length long_form val
b_accepted = refl

c_accepted :
    judge (signed_c ++ (0xFF ∷ 0x81 ∷ 0x84 ∷ replicate 132 0xAA))
    ≡ accepted
    (record {
      header = header_c;
      rows = row_of 254 18 20 128 ∷ row_of 0 148 150 255 ∷ row_of 3 405 407 0 ∷ [];
      header_end = 18;
      message_end = 407;
      seal_end = 542;
      signature_place = 410;
      signature_size_lem = 132;
    })
unfolding judge judging reading header tag row features signature decode pair_of single values the_chart value_of is_day read_length long_form val
c_accepted = refl

-- 10 comes before a missing byte: a length of 57, and no signature at all
size_first : judge (take 24 seal_a ++ (0xFF ∷ 0x39 ∷ [])) ≡ refused 10 25
unfolding judge judging reading header tag row features signature decode pair_of single values the_chart value_of is_day read_length long_form val
size_first = refl
