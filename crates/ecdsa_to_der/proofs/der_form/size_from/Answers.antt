-- `der_form::size_from` meets its contract.
-- Assumes nothing.
use Rattle.ecdsa.specs.Signature.Laws.{size_low, size_high}
use Rattle.ecdsa_to_der.proofs.der_form.size_from.Goals as goal

pub returns-then-number-start-lt128 : goal.returns-then-number-start-lt128
returns-then-number-start-lt128 c = let a = c.args in size_low a.number.now a.start c.if-number-start-lt128.true

pub returns : goal.returns
returns c = let a = c.args in size_high a.number.now a.start c.if-number-start-lt128.false
