-- Texts worked out: Seal A's, that of the seal with a second tag 0A, and those where bytes are missing.
-- Assumes nothing.
use Rattle.std.specs.Prelude.{◌≡◌, refl, [], ◌++◌, take, drop}
use Rattle.format.specs.BigEndian.{val}
use Rattle.pairs.specs.Chart.{the_chart, value_of}
use Rattle.pairs.specs.Pairs.{pair_of, single, values}
use Rattle.c40.specs.Decode.{decode}
use Rattle.dates.specs.Days.{is_day}
use Rattle.der.specs.Length.{read_length, long_form}
use Rattle.grammar.specs.Examples.{seal_a}
use Rattle.verdict.specs.Judge.{header, tag, row, features, signature, reading, judging}
use Rattle.lines.specs.Line.{decimal_of, digits, ascii, ◌then◌}
use Rattle.pages.specs.Rows.{sought}
use Rattle.why.specs.Told.{told}
use Rattle.hex_bytes.specs.Shown.{hex_bytes}
use Rattle.grammar.proofs.Sizes.{has}
use Rattle.front_pairs.specs.Pairs.{pair_front, fits, opens}
use Rattle.front_days.specs.Days.{day_front, some_day}
use Rattle.front_message.specs.Message.{message_front, turn, length_front, signature_front}
use Rattle.front_header.specs.Header.{front, past, byte_front, version_front, country_front, names_front, text_front, dates_front, rest_front}
use Rattle.why_lines.specs.Lines.{reason_lines, front_line, why_text}

pub seal_a_text : why_text seal_a ≡ ascii "accepted\n"
unfolding why_text told judging reading header tag row features signature decode pair_of single values the_chart value_of is_day read_length
    long_form val
seal_a_text = refl

pub second_tag : why_text (take 24 seal_a ++ drop 18 seal_a) ≡
    ascii "number 9\n"
    then ascii "item tag\n"
    then ascii "place 24\n"
    then ascii "bytes 0A\n"
    then ascii "rule a tag is used once only\n"
    then ascii "good up to 24, no seal has 0A there\n"
unfolding why_text told judging reading header tag row features signature decode pair_of single values the_chart value_of is_day read_length
    long_form val reason_lines hex_bytes decimal_of digits sought front_line front past byte_front version_front country_front names_front
    text_front dates_front rest_front pair_front fits opens day_front some_day message_front turn length_front signature_front has
second_tag = refl

pub one_less : why_text (take 81 seal_a) ≡
    ascii "number 2\n"
    then ascii "item signature\n"
    then ascii "place 26\n"
    then ascii "bytes AA AA AA AA AA AA AA AA AA AA AA AA AA AA AA AA and 39 more\n"
    then ascii "rule all its bytes are there\n"
    then ascii "good up to 81, the input ends too early\n"
unfolding why_text told judging reading header tag row features signature decode pair_of single values the_chart value_of is_day read_length
    long_form val reason_lines hex_bytes decimal_of digits sought front_line front past byte_front version_front country_front names_front
    text_front dates_front rest_front pair_front fits opens day_front some_day message_front turn length_front signature_front has
one_less = refl

pub no_bytes : why_text [] ≡
    ascii "number 2\n"
    then ascii "item mark\n"
    then ascii "place 0\n"
    then ascii "bytes none\n"
    then ascii "rule all its bytes are there\n"
    then ascii "good up to 0, the input ends too early\n"
unfolding why_text told judging reading header reason_lines decimal_of digits sought front_line front past byte_front
no_bytes = refl
