-- `der::read_length` meets its contract: each `return` is one case of the definition, with the tests that led there.
-- Assumes nothing.
use native.Mathlib.Omega.{arith}
use mathlib.Core.Path.{◌∙◌}
use Rattle.der.proofs.Lengths.Laws.{length_none, length_short, length_bad, length_high, length_long}
use Rattle.der.proofs.read_length.Goals as goal

pub returns-then-s-eq0 : goal.returns-then-s-eq0
returns-then-s-eq0 c = length_none _ (omega arith)

pub returns-then-x-lt128 : goal.returns-then-x-lt128
returns-then-x-lt128 c = length_short _ _ c.wide-x.ensures (omega arith) (omega arith)

pub returns-then-x-eq128 : goal.returns-then-x-eq128
returns-then-x-eq128 c = length_bad _ _ c.wide-x.ensures (omega arith) (omega arith)

pub returns-then-x-ge133 : goal.returns-then-x-ge133
returns-then-x-ge133 c = length_high _ _ c.wide-x.ensures (omega arith) (omega arith)

pub returns : goal.returns
returns c =
    c.long_form.ensures
    ∙ length_long _ _ c.wide-x.ensures (omega arith) (omega (arith, c.if-x-eq128.false)) (omega arith)
