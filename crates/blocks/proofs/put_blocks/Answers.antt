-- `blocks::put_blocks` meets its contract. The loops' invariant: the first i bytes stand in `out`.
-- Assumes nothing.
use native.Mathlib.Omega.{arith}
use mathlib.Core.Path.{◌≡◌, ap, sym, ◌∙◌}
use Prim.Native.Nat.{◌+◌, ◌-◌}
use lib.ListN.{length, take, drop, set, get_or}
use lib.Seq.{length-take-le, take_all}
use Rattle.format.specs.Buffer.{over}
use Rattle.format.proofs.Buffer.Laws.{over_none, length_over}
use Rattle.octets.specs.Copy.Laws.{one_more}
use Rattle.blocks.specs.Blocks.{over_again, block}
use Rattle.blocks.proofs.put_blocks.Goals as goal
use Rattle.blocks.proofs.put_blocks.Goals.{At-loop-i, At-loop-i-2}

-- the first i bytes stand in the buffer as it came
stand :
    (c : At-loop-i) →
    let first = c in
    let a = first.args in
    c.loop-i.out ≡ over a.out.now a.at (take c.loop-i.i a.from.now)
stand c =
    let a = c.args in
    let from = a.from.now in
    let some = length-take-le 16 from (omega arith) in
    let many = length-take-le c.loop-i.i from c.loop-i.invariant.1 in
    c.loop-i.invariant.2
    ∙ ap (λ o. over o a.at (take c.loop-i.i from)) c.copy_sixteen.ensures
    ∙ over_again a.out.now a.at (take 16 from) (take c.loop-i.i from) (omega arith) (omega arith)

-- the buffer keeps its length
kept :
    (c : At-loop-i) →
    let first = c in
    length c.loop-i.out ≡ length first.args.out.now
kept c =
    let a = c.args in
    let many = length-take-le c.loop-i.i a.from.now c.loop-i.invariant.1 in
    ap length (stand c) ∙ length_over a.out.now a.at (take c.loop-i.i a.from.now) (omega arith)

kept2 :
    (c : At-loop-i-2) →
    length c.loop-i-2.out ≡ length c.args.out.now
kept2 c =
    let a = c.args in
    let many = length-take-le c.loop-i-2.i a.from.now c.loop-i-2.invariant.0 in
    ap length c.loop-i-2.invariant.1 ∙ length_over a.out.now a.at (take c.loop-i-2.i a.from.now) (omega arith)

pub loop-i-init : goal.loop-i-init
loop-i-init c =
    let a = c.args in
    let p = take 16 a.from.now in
    let some = length-take-le 16 a.from.now (omega arith) in
    let e = c.copy_sixteen.ensures in (
      omega arith,
      omega arith,
      e ∙ sym (over_again a.out.now a.at p p (omega arith) (omega arith)) ∙ ap (λ o. over o a.at p) (sym e),
    )

pub copy_sixteen-requires-in-loop-i : goal.copy_sixteen-requires-in-loop-i
copy_sixteen-requires-in-loop-i c = (omega arith, omega (arith, kept (goal.at.copy_sixteen-requires-in-loop-i c).At-loop-i))

pub loop-i-preserved : goal.loop-i-preserved
loop-i-preserved c =
    let a = c.args in
    let i = c.loop-i.i in
    let from = a.from.now in (
      omega arith,
      omega arith,
      c.copy_sixteen-in-loop-i.ensures
          ∙ ap (λ o. over o (a.at + i) (take 16 (drop i from))) c.loop-i.invariant.2
          ∙ block from _ a.at i i 16 (omega arith) (omega arith) (omega arith) (omega arith),
    )

pub copy_sixteen-requires-then-n-gt16 : goal.copy_sixteen-requires-then-n-gt16
copy_sixteen-requires-then-n-gt16 c = (omega arith, omega (arith, kept (goal.at.copy_sixteen-requires-then-n-gt16 c).At-loop-i))

pub shape_of-out-then-n-gt16 : goal.shape_of-out-then-n-gt16
shape_of-out-then-n-gt16 c = omega (arith, kept (goal.at.shape_of-out-then-n-gt16 c).At-loop-i)

pub returns-then-n-gt16 : goal.returns-then-n-gt16
returns-then-n-gt16 c =
    let a = c.args in
    let from = a.from.now in
    let last = length from - 16 in
    c.copy_sixteen-then-n-gt16.ensures
    ∙ ap (λ o. over o (a.at + last) (take 16 (drop last from))) (stand (goal.at.returns-then-n-gt16 c).At-loop-i)
    ∙ block from a.out.now a.at last c.loop-i.i 16 (omega arith) (omega arith) (omega arith) (omega arith)
    ∙ ap (over a.out.now a.at) (take_all (last + 16) from (omega arith))

pub returns-then-n-ge8 : goal.returns-then-n-ge8
returns-then-n-ge8 c =
    let a = c.args in
    let from = a.from.now in
    let last = length from - 8 in
    c.copy_eight-then-n-ge8.ensures
    ∙ ap (λ o. over o (a.at + last) (take 8 (drop last from))) c.copy_eight.ensures
    ∙ block from a.out.now a.at last 8 8 (omega arith) (omega arith) (omega arith) (omega arith)
    ∙ ap (over a.out.now a.at) (take_all (last + 8) from (omega arith))

pub loop-i-2-init : goal.loop-i-2-init
loop-i-2-init c = (omega arith, sym (over_none _ _))

pub bounds-out-at : goal.bounds-out-at
bounds-out-at c = omega (arith, kept2 (goal.at.bounds-out-at c).At-loop-i-2)

pub loop-i-2-preserved : goal.loop-i-2-preserved
loop-i-2-preserved c =
    let a = c.args in (
      omega arith,
      ap (λ o. set o (a.at + c.loop-i-2.i) (get_or a.from.now c.loop-i-2.i 0)) c.loop-i-2.invariant.1
          ∙ one_more a.from.now a.out.now a.at c.loop-i-2.i (omega arith) (omega arith),
    )

pub shape_of-out : goal.shape_of-out
shape_of-out c = kept2 (goal.at.shape_of-out c).At-loop-i-2

pub returns : goal.returns
returns c =
    let a = c.args in
    c.loop-i-2.invariant.1 ∙ ap (over a.out.now a.at) (take_all c.loop-i-2.i a.from.now (omega arith))
