-- `raw_form::number_in` meets its contract: what is read for so few bytes has one byte of length.
-- Assumes nothing.
use native.Mathlib.Omega.{arith}
use mathlib.Core.Path.{◌∙◌}
use Rattle.ecdsa_to_raw.specs.Short.{number_few, number_other, number_cut, number_digits}
use Rattle.ecdsa_to_raw.proofs.raw_form.number_in.Goals as goal

pub returns-then-m-lt3 : goal.returns-then-m-lt3
returns-then-m-lt3 c = number_few _ _ c.requires.1 (λ i. (c.type_inv.t i).fits) c.if-m-lt3.true

pub returns-then-t-ne2 : goal.returns-then-t-ne2
returns-then-t-ne2 c =
    number_other _ _ c.requires.1 (λ i. (c.type_inv.t i).fits) c.if-t-ne2.true

pub returns-then-m-size : goal.returns-then-m-size
returns-then-m-size c =
    number_cut _ _ c.requires.1 (λ i. (c.type_inv.t i).fits) (omega (arith, c.if-m-size.true, c.wide-size.ensures))

pub returns : goal.returns
returns c =
    c.digits_of.ensures
    ∙ number_digits _ _ c.requires.1 (λ i. (c.type_inv.t i).fits) _ c.wide-size.ensures (omega (arith, c.if-m-size.false)) c.if-t-ne2.false
