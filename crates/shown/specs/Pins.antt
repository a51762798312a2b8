-- Look-ups worked out, by reports: Seal A's, which has feature 10, and one that has it with an empty value, and 11 too.
-- Assumes nothing.
use Rattle.std.specs.Prelude.{◌≡◌, refl, [], ◌∷◌}
use Rattle.rows.specs.Rows.{row_of}
use Rattle.verdict.specs.Judge.{Row, Verdict, accepted, refused}
use Rattle.verdict.specs.Judge.Pins.{report_a}
use Rattle.shown.specs.Where.{look_up, showing, empty, answer_of}

-- Seal A's report with other rows
abbrev other : Row → Row → Verdict
other r q = accepted (record {
  header = report_a.header;
  rows = r ∷ q ∷ [];
  header_end = 18;
  message_end = 30;
  seal_end = 88;
  signature_place = 32;
  signature_size_lem = 56;
})

abbrev main : Verdict
main = accepted report_a

-- 10 again, with an empty value, and 11
abbrev extension : Verdict
extension = other (row_of 10 18 20 0) (row_of 11 20 22 8)

-- the tag of both is shown out of the extension, though it is empty there; that of one out of it; and else 50
in_both : answer_of (look_up 10 main extension) ≡ showing 2 (record { place = 20; length = 0 })
in_both = refl

in_extension : answer_of (look_up 11 main extension) ≡ showing 2 (record { place = 22; length = 8 })
in_extension = refl

in_main : answer_of (look_up 11 extension main) ≡ showing 1 (record { place = 22; length = 8 })
in_main = refl

in_none : answer_of (look_up 12 main extension) ≡ empty 50 0 0
in_none = refl

-- the main seal's refusal first, though the other one has the tag
both_refused : answer_of (look_up 10 (refused 9 24) (refused 2 0)) ≡ empty 9 24 1
both_refused = refl

main_refused : answer_of (look_up 10 (refused 9 24) extension) ≡ empty 9 24 1
main_refused = refl

extension_refused : answer_of (look_up 10 main (refused 2 26)) ≡ empty 2 26 2
extension_refused = refl
