-- Lines worked out, as document 01 has them: names, dates and a refusal.
-- Assumes nothing.
use Rattle.std.specs.Prelude.{◌≡◌, refl}
use Rattle.lines.specs.Line.{decimal_of, digits, ascii, ◌then◌}
use Rattle.list_lines.specs.ListLine.{name_lines, date_lines, refusal}

-- what stands in the text after the reference is not listed
pub seal_a_names : name_lines 3 (ascii "UTO") (ascii "UTAB00001??") 5 ≡
    ascii "version 3\n"
    then ascii "country UTO\n"
    then ascii "signer UTAB\n"
    then ascii "reference 00001\n"
unfolding name_lines decimal_of digits
seal_a_names = refl

-- years have four digits, months and days two
pub early_and_last_day :
    date_lines (record { month = 1; day = 2; year = 3 }) (record { month = 12; day = 31; year = 9999 }) 1 254 ≡
    ascii "issued 0003-01-02\n"
    then ascii "signed 9999-12-31\n"
    then ascii "definition 1\n"
    then ascii "category 254\n"
unfolding date_lines decimal_of digits
early_and_last_day = refl

-- document 01, "such as"
pub second_tag : refusal 9 24 ≡ ascii "refused 9 at 24\n"
unfolding decimal_of digits
second_tag = refl
