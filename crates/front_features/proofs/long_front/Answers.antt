-- `long_front` meets its contract: no byte, one of the two sizes, or another byte.
-- Assumes nothing.
use mathlib.Core.Path.{◌∙◌}
use native.Mathlib.Omega.{arith}
use borrow.Author.Rules.{rules}
use Rattle.front_features.specs.Signature.{long_end, long_size, long_other, has_two, has_no_two}
use Rattle.front_features.proofs.long_front.Goals as goal

pub returns-then-seal-at : goal.returns-then-seal-at
returns-then-seal-at c = long_end _ _ _ (omega arith)

pub returns-in-128 : goal.returns-in-128
returns-in-128 c =
    c.sized_front.ensures
    ∙ long_size _ _ _ _ (omega arith) c.wide-size.ensures (has_two _ _ _ c.in-128.is)

pub returns-in_default : goal.returns-in_default
returns-in_default c =
    long_other _ _ _ _ (omega arith) c.wide-size.ensures (has_no_two _ _ _ (λ o. search (rules, o)))
