-- Listings worked out: Seal A's, byte for byte as document 01 has it, a refusal's, and the parts that Seal A does not show.
-- Assumes nothing.
use Rattle.std.specs.Prelude.{◌≡◌, refl, [], ◌∷◌}
use Rattle.rows.specs.Rows.{valued}
use Rattle.verdict.specs.Judge.{accepted, refused}
use Rattle.verdict.specs.Judge.Pins.{report_a}
use Rattle.lines.specs.Line.{decimal_of, digits, ascii, ◌then◌}
use Rattle.listing.specs.Listed.{listed, feature_lines}

pub seal_a : listed (accepted report_a) ≡
    ascii "accepted\n"
    then ascii "version 3\n"
    then ascii "country UTO\n"
    then ascii "signer UTAB\n"
    then ascii "reference 00001\n"
    then ascii "issued 1957-03-25\n"
    then ascii "signed 1957-03-25\n"
    then ascii "definition 1\n"
    then ascii "category 2\n"
    then ascii "feature 10 at 20 length 4\n"
    then ascii "signature at 26 length 56\n"
unfolding listed feature_lines decimal_of digits
seal_a = refl

-- document 01, "such as"
pub second_tag : listed (refused 9 24) ≡ ascii "refused 9 at 24\n"
unfolding listed decimal_of digits
second_tag = refl

-- two rows in order
pub two_rows : feature_lines (valued 254 20 0 ∷ valued 0 24 128 ∷ []) ≡
    ascii "feature 254 at 20 length 0\n" then ascii "feature 0 at 24 length 128\n"
unfolding feature_lines decimal_of digits
two_rows = refl
