-- `put_country` meets its contract: three letters or fillers, each with its value, are one pair.
-- Assumes nothing.
use mathlib.Core.Path.{refl, ap, ◌∙◌}
use lib.ListN.{get_or}
use Rattle.format.specs.Buffer.{over}
use Rattle.grammar.specs.Legal.{Country}
use Rattle.grammar.specs.Publish.{carried}
use Rattle.write_given.specs.Given.{three_of}
use Rattle.writer.specs.Legal.Names.{country_legal}
use Rattle.writer.specs.PutNames.{value_below, three_form}
use Rattle.writer.proofs.names.put_country.Goals as goal
use Rattle.writer.proofs.names.put_country.Goals.{Start}

legal : (s : Start) → Country (three_of s.args.code)
legal c = country_legal (three_of c.args.code) refl c.requires.0

pub value_in_country-requires : goal.value_in_country-requires
value_in_country-requires c = (legal (goal.at.value_in_country-requires c).Start).letters.0

pub value_in_country-requires-2 : goal.value_in_country-requires-2
value_in_country-requires-2 c = (legal (goal.at.value_in_country-requires-2 c).Start).letters.1.0

pub value_in_country-requires-3 : goal.value_in_country-requires-3
value_in_country-requires-3 c = (legal (goal.at.value_in_country-requires-3 c).Start).letters.1.1.0

pub put_values-requires : goal.put_values-requires
put_values-requires c = (
  value_below _ _ c.value_in_country.ensures,
  value_below _ _ c.value_in_country-2.ensures,
  value_below _ _ c.value_in_country-3.ensures,
  c.requires.1,
)

pub returns : goal.returns
returns c =
    let a = c.args in record {
      place = c.put_values.ensures.place;
      buffer = c.put_values.ensures.buffer
          ∙ ap (over a.out.now a.at)
          (three_form _ _ _ (carried (get_or a.code 0 0)) (carried (get_or a.code 1 0)) (carried (get_or a.code 2 0))
          c.value_in_country.ensures c.value_in_country-2.ensures c.value_in_country-3.ensures);
    }
