-- `signature_front` meets its contract: no byte, one of the three sizes, 81, with room and without it, or another byte.
-- Assumes nothing.
use mathlib.Core.Path.{◌∙◌}
use native.Mathlib.Omega.{arith}
use borrow.Author.Rules.{rules}
use Rattle.front_features.specs.Signature.{signature_end, signature_size_lem, signature_other, signature_cramped, signature_long}
use Rattle.front_features.specs.Signature.{has_three, has_no_three, long_not_short}
use Rattle.front_features.proofs.signature_front.Goals as goal

pub returns-then-seal-at : goal.returns-then-seal-at
returns-then-seal-at c = signature_end _ _ _ (omega arith)

pub returns-in-56 : goal.returns-in-56
returns-in-56 c =
    c.sized_front.ensures
    ∙ signature_size_lem _ _ _ _ (omega arith) c.wide-size.ensures (has_three _ _ _ _ c.in-56.is)

pub returns-in-129 : goal.returns-in-129
returns-in-129 c =
    c.long_front.ensures
    ∙ signature_long _ _ _ _ (omega arith) c.wide-size.ensures (long_not_short _ c.in-129.is) _ (omega arith) c.in-129.is (omega arith)

pub returns-in_default : goal.returns-in_default
returns-in_default c =
    signature_cramped _ _ _ _ (omega arith) c.wide-size.ensures (long_not_short _ c.in-129.is) c.in-129.is (omega arith)

pub returns-in_default-2 : goal.returns-in_default-2
returns-in_default-2 c =
    signature_other _ _ _ _ (omega arith) c.wide-size.ensures
    (has_no_three _ _ _ _ (λ o. search (rules, o))) (λ e. search (rules, e))
