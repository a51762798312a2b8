-- `put_three` meets its contract: three letters or digits, each with its value, are one pair.
-- Assumes nothing.
use native.Mathlib.Omega.{arith}
use mathlib.Core.Path.{ap, ◌∙◌}
use Prim.Native.Nat.{ℕ, ◌+◌, ◌<◌}
use lib.ListN.{length, get_or}
use Rattle.format.specs.Bytes.Laws.{all_at}
use Rattle.format.specs.Buffer.{over}
use Rattle.c40.specs.Text.{publish as c40}
use Rattle.grammar.specs.Legal.{LetterOrDigit}
use Rattle.writer.specs.PutNames.{value_below, three_form, three_at}
use Rattle.writer.proofs.names.put_three.Goals as goal
use Rattle.writer.proofs.names.put_three.Goals.{Start}

-- a character of the text
character : (s : Start) (i : ℕ) → i < length s.args.text.now → LetterOrDigit (get_or s.args.text.now i 0)
character c i h = all_at LetterOrDigit 0 c.args.text.now c.requires.0 i h

pub value-requires : goal.value-requires
value-requires c = character (goal.at.value-requires c).Start c.args.i (omega (arith, c.requires.1))

pub value-requires-2 : goal.value-requires-2
value-requires-2 c = character (goal.at.value-requires-2 c).Start (c.args.i + 1) (omega (arith, c.requires.1))

pub value-requires-3 : goal.value-requires-3
value-requires-3 c = character (goal.at.value-requires-3 c).Start (c.args.i + 2) (omega (arith, c.requires.1))

pub put_values-requires : goal.put_values-requires
put_values-requires c = (
  value_below _ _ c.value.ensures,
  value_below _ _ c.value-2.ensures,
  value_below _ _ c.value-3.ensures,
  c.requires.2,
)

pub returns : goal.returns
returns c =
    let s = (c) in
    let a = s.args in
    let t = a.text.now in record {
      place = c.put_values.ensures.place;
      buffer = c.put_values.ensures.buffer
          ∙ ap (over a.out.now a.at)
          (three_form _ _ _ (get_or t a.i 0) (get_or t (a.i + 1) 0) (get_or t (a.i + 2) 0) c.value.ensures
          c.value-2.ensures c.value-3.ensures
          ∙ ap c40 (three_at t a.i s.requires.1));
    }
