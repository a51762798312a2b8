-- `der_form::put_digits` meets its contract. The loop's invariant: the first i bytes stand in `out`.
-- Assumes nothing.
use native.Mathlib.Omega.{arith}
use mathlib.Core.Path.{◌≡◌, ◌∙◌, ap, sym}
use Prim.Native.Nat.{◌+◌, ◌-◌, ◌≤◌}
use lib.ListN.{length, take, set, get_or}
use lib.Seq.{length-take-le, take_all}
use Rattle.format.specs.Buffer.{over}
use Rattle.format.proofs.Buffer.Laws.{over_none, length_over}
use Rattle.octets.specs.Copy.Laws.{copied_not, copied_all, reached_not, reached_all, one_more}
use Rattle.ecdsa_to_der.proofs.der_form.put_digits.Goals as goal
use Rattle.ecdsa_to_der.proofs.der_form.put_digits.Goals.{At-loop-i}

-- the buffer keeps its length
kept : (c : At-loop-i) → length c.loop-i.out ≡ length c.args.out.now
kept c =
    let a = c.args in
    let many = length-take-le c.loop-i.i a.from.now c.loop-i.invariant.0 in
    ap length c.loop-i.invariant.1 ∙ length_over a.out.now a.at (take c.loop-i.i a.from.now) (omega arith)

pub returns-then-room-at : goal.returns-then-room-at
returns-then-room-at c =
    let a = c.args in
    record { place = reached_not a.from.now a.out.now a.at (omega arith); buffer = copied_not a.from.now a.out.now a.at (omega arith) }

pub returns-then-room-at-2 : goal.returns-then-room-at-2
returns-then-room-at-2 c =
    let a = c.args in
    record { place = reached_not a.from.now a.out.now a.at (omega arith); buffer = copied_not a.from.now a.out.now a.at (omega arith) }

pub loop-i-init : goal.loop-i-init
loop-i-init c = (omega arith, sym (over_none _ _))

pub bounds-from-i : goal.bounds-from-i
bounds-from-i c = omega arith

pub overflow_add-out : goal.overflow_add-out
overflow_add-out c = omega arith

pub bounds-out-at : goal.bounds-out-at
bounds-out-at c = omega (arith, kept (goal.at.bounds-out-at c).At-loop-i)

pub overflow_add-i : goal.overflow_add-i
overflow_add-i c = omega arith

pub loop-i-smaller : goal.loop-i-smaller
loop-i-smaller c = omega arith

pub loop-i-preserved : goal.loop-i-preserved
loop-i-preserved c =
    let a = c.args in (
      omega arith,
      ap (λ o. set o (a.at + c.loop-i.i) (get_or a.from.now c.loop-i.i 0)) c.loop-i.invariant.1
          ∙ one_more a.from.now a.out.now a.at c.loop-i.i (omega arith) (omega arith),
    )

pub overflow_add-result : goal.overflow_add-result
overflow_add-result c = omega arith

pub shape_of-out : goal.shape_of-out
shape_of-out c = kept (goal.at.shape_of-out c).At-loop-i

pub returns : goal.returns
returns c =
    let a = c.args in record {
      place = reached_all a.from.now a.out.now a.at (omega arith);
      buffer = c.loop-i.invariant.1
          ∙ ap (over a.out.now a.at) (take_all c.loop-i.i a.from.now (omega arith))
          ∙ copied_all a.from.now a.out.now a.at (omega arith);
    }
