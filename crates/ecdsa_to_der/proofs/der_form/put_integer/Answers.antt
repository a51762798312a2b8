-- `der_form::put_integer` meets its contract: tag, size, where needed a zero, and the digits, one after another.
-- Assumes nothing.
use native.Mathlib.Omega.{arith}
use mathlib.Core.Path.{◌∙◌}
use lib.ListN.{length-set}
use Rattle.format.specs.Places.{to_end}
use Rattle.ecdsa.specs.Signature.Laws.{size_high}
use Rattle.ecdsa_to_der.specs.Places.Laws.{content_small, put_low, place_low, put_high, place_high}
use Rattle.ecdsa_to_der.proofs.der_form.put_integer.Goals as goal

pub overflow_cast-out : goal.overflow_cast-out
overflow_cast-out c =
    let r = c.requires in
    let a = c.args in omega (arith, content_small a.number.now a.start r.small r.inside)

pub bounds-out-at-2 : goal.bounds-out-at-2
bounds-out-at-2 c = simp length-set (omega (arith, c.requires.room))

pub returns-then-number-start-lt128 : goal.returns-then-number-start-lt128
returns-then-number-start-lt128 c =
    let a = c.args in
    let part = to_end a.number.now a.start in
    record {
      place = c.put_digits.ensures.place
          ∙ place_low _ _ a.out.now a.at c.requires c.size_from-size.result c.size_from-size.ensures c.if-number-start-lt128.true _ part;
      buffer = c.put_digits.ensures.buffer
          ∙ put_low _ _ a.out.now a.at c.requires c.size_from-size.result c.size_from-size.ensures c.if-number-start-lt128.true _ part;
    }

pub bounds-out-at-3 : goal.bounds-out-at-3
bounds-out-at-3 c =
    let r = c.requires in
    simp length-set
    (omega (
      arith,
      r.room,
      size_high c.args.number.now c.args.start
          c.if-number-start-lt128.false,
      r.inside,
    ))

pub returns : goal.returns
returns c =
    let a = c.args in
    let part = to_end a.number.now a.start in
    record {
      place = c.put_digits-2.ensures.place
          ∙ place_high _ _ a.out.now a.at c.requires c.size_from-size.result c.size_from-size.ensures c.if-number-start-lt128.false _ part;
      buffer = c.put_digits-2.ensures.buffer
          ∙ put_high _ _ a.out.now a.at c.requires c.size_from-size.result c.size_from-size.ensures c.if-number-start-lt128.false _ part;
    }
