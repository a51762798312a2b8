-- Every case that document 01 marks P, and the two of document 02, Ticket 3, as one list under one statement, which the checker computes.
-- Assumes nothing.
use Rattle.std.specs.Prelude.{◌≡◌, refl, List, ◌++◌, map}
use Rattle.format.specs.Order.{in_room}
use Rattle.format.specs.BigEndian.{be, val}
use Rattle.pairs.specs.Chart.{the_chart, value_of}
use Rattle.c40.specs.Text.{publish}
use Rattle.pairs.specs.Pairs.{single, values, pair_of, triple}
use Rattle.c40.specs.Decode.{decode}
use Rattle.c40.specs.Calls.{reading, known, writing}
use Rattle.dates.specs.Days.{is_day, publish as date}
use Rattle.dates.specs.Calls.{from_number}
use Rattle.der.specs.Length.{form, long_form, read_length}
use Rattle.der.specs.Element.{element_in}
use Rattle.der.specs.Content.{shortest, strict}
use Rattle.integers.specs.Calls.{reading as read_integer, writing as write_integer}
use Rattle.ecdsa.specs.Signature.{is_size}
use Rattle.ecdsa.specs.Strict.{digits_in, number_in, raw_of}
use Rattle.ecdsa.specs.Calls.{to_der, to_raw}
use Rattle.grammar.specs.Publish.{header_zone, message_zone, signature_zone, signed_bytes, publish as publish_seal}
use Rattle.grammar.specs.Legal.{Legal}
use Rattle.grammar.specs.Examples.{content_a}
use Rattle.grammar.proofs.Pins.{seal_a_legal}
use Rattle.cases.specs.Case.{Case}
use Rattle.cases.specs.C40.{c40_cases}
use Rattle.cases.specs.Numbers.{number_cases}
use Rattle.cases.specs.Signatures.{signature_cases}
use Rattle.cases.specs.Seals.{seal_cases}

abbrev pub cases : List Case
cases = c40_cases ++ number_cases ++ signature_cases ++ seal_cases

-- each is as the documents say, and Seal A's content is legal
pub cases_hold : (map (λ (c : Case). c.found) cases ≡ map (λ (c : Case). c.expected) cases) × Legal content_a
unfolding in_room be val the_chart value_of triple publish single values pair_of decode reading known writing is_day date from_number form
    long_form read_length element_in shortest strict read_integer write_integer is_size to_der digits_in number_in raw_of to_raw header_zone
    message_zone signature_zone signed_bytes publish_seal
cases_hold = (refl, seal_a_legal)
