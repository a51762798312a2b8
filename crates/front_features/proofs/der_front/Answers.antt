-- `der_front` meets its contract, by the first byte and by whether 81 and 82 have room.
-- Assumes nothing.
use mathlib.Core.Path.{◌∙◌}
use native.Mathlib.Omega.{arith}
use Rattle.front_features.specs.Lengths.{der_small, der_one_cramped, der_one, der_two_cramped, der_two, der_other}
use Rattle.front_features.proofs.der_front.Goals as goal

pub returns-in-0-to-127 : goal.returns-in-0-to-127
returns-in-0-to-127 c = c.last_front.ensures ∙ der_small _ _ _ _ (omega arith)

pub returns-in-129 : goal.returns-in-129
returns-in-129 c = c.after_one.ensures ∙ der_one _ _ _ _ (omega arith) c.in-129.is (omega arith)

pub returns-in_default : goal.returns-in_default
returns-in_default c = der_one_cramped _ _ _ _ (omega arith) c.in-129.is (omega arith)

pub returns-in-130 : goal.returns-in-130
returns-in-130 c = c.after_two.ensures ∙ der_two _ _ _ _ (omega arith) (λ e. omega (arith, e)) c.in-130.is (omega arith)

pub returns-in_default-2 : goal.returns-in_default-2
returns-in_default-2 c = der_two_cramped _ _ _ _ (omega arith) (λ e. omega (arith, e)) c.in-130.is (omega arith)

pub returns-in_default-3 : goal.returns-in_default-3
returns-in_default-3 c = der_other _ _ _ _ (omega arith) (λ e. omega (arith, e)) (λ e. omega (arith, e))
