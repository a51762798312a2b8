-- `number_of_left` meets its contract.
-- Assumes nothing.
use native.Mathlib.Omega.{arith}
use mathlib.Core.Path.{◌∙◌, ap, sym}
use Rattle.format.specs.BigEndian.{be}
use Rattle.write_text.specs.Coded.Laws.{coded_one, coded_two}
use Rattle.write_text.proofs.number_of_left.Goals as goal

pub returns-then-left-eq2 : goal.returns-then-left-eq2
returns-then-left-eq2 c = (ap (be 2) c.number_of_two.ensures.0 ∙ sym (coded_two _ (omega arith)), omega (arith, c.number_of_two.ensures.1))

pub returns : goal.returns
returns c = (
  ap (be 2) c.number_of_one.ensures ∙ sym (coded_one _ (omega arith)),
  omega (arith, c.number_of_one.ensures, c.type_inv.left 0),
)
