-- Texts worked out: Seal A's, two features in order, none, and a refusal's.
-- Assumes nothing.
use Rattle.std.specs.Prelude.{◌≡◌, refl, [], ◌∷◌}
use Rattle.rows.specs.Rows.{row_of}
use Rattle.verdict.specs.Judge.{accepted, refused}
use Rattle.verdict.specs.Judge.Pins.{report_a}
use Rattle.lines.specs.Line.{decimal_of, digits, ascii, ◌then◌}
use Rattle.walk_lines.specs.Lines.{feature, feature_lines, text_of}

pub seal_a : text_of (accepted report_a) ≡ ascii "feature 10 at 18 value at 20 length 4\n"
unfolding text_of feature_lines feature decimal_of digits
seal_a = refl

pub two_features : feature_lines (row_of 254 18 20 0 ∷ row_of 0 20 23 128 ∷ []) ≡
    ascii "feature 254 at 18 value at 20 length 0\n" then ascii "feature 0 at 20 value at 23 length 128\n"
unfolding feature_lines feature decimal_of digits
two_features = refl

-- document 01, "such as"
pub second_tag : text_of (refused 9 24) ≡ ascii "refused 9 at 24\n"
unfolding text_of decimal_of digits
second_tag = refl
