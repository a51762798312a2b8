-- `put_pairs` meets its contract. The loop's invariant: the full pairs before stand in `out`.
-- Assumes nothing.
use native.Mathlib.Omega.{arith}
use mathlib.Core.Path.{◌≡◌, ◌∙◌, ap, refl}
use Prim.Native.Nat.{ℕ, ◌-◌}
use mathlib.Core.List.{List}
use lib.ListN.{length, take, drop, length-drop}
use Rattle.format.specs.Places.{to_end}
use Rattle.write_text.specs.Coded.Laws.{texting_start, texting_length, texting_room, texting_last, texting_end, texting_more}
use Rattle.write_text.proofs.put_pairs.Goals as goal
use Rattle.write_text.proofs.put_pairs.Goals.{At-loop-i}

-- the loop, back to the entry
abbrev text : At-loop-i → List ℕ
text c = c.args.text.now

-- the part that is lent is what is left
left :
    (on : At-loop-i) →
    take (length (text on) - on.loop-i.i) (drop on.loop-i.i (text on)) ≡ drop on.loop-i.i (text on)
left c = to_end (text c) c.loop-i.i

pub loop-i-init : goal.loop-i-init
loop-i-init c = texting_start c.args.text.now c.args.out.now c.args.start c.requires

pub overflow_add-i : goal.overflow_add-i
overflow_add-i c = omega (arith, c.loop-i.invariant.inside)

pub put_two-requires : goal.put_two-requires
put_two-requires c = texting_room _ _ _ _ _ _ c.loop-i.invariant (omega arith)

pub loop-i-preserved : goal.loop-i-preserved
loop-i-preserved c =
    let on = (goal.at.loop-i-preserved c).At-loop-i in
    let packed = c.number_of in
    texting_more _ _ _ _ _ _ on.loop-i.invariant (omega arith) packed.result packed.ensures.0 _ _ refl c.put_two.ensures

pub number_of_left-requires : goal.number_of_left-requires
number_of_left-requires c =
    let many = ap length (left (goal.at.number_of_left-requires c).At-loop-i) ∙ length-drop c.loop-i.i (text (goal.at.number_of_left-requires c).At-loop-i) in
    (omega (arith, many), omega (arith, many))

pub put_two-requires-then-i-n : goal.put_two-requires-then-i-n
put_two-requires-then-i-n c = texting_room _ _ _ _ _ _ c.loop-i.invariant (omega arith)

pub shape_of-out-then-i-n : goal.shape_of-out-then-i-n
shape_of-out-then-i-n c = c.put_two-then-i-n.auto.out ∙ texting_length _ _ _ _ _ _ c.loop-i.invariant

pub returns-then-i-n : goal.returns-then-i-n
returns-then-i-n c =
    let on = (goal.at.returns-then-i-n c).At-loop-i in
    let form = c.number_of_left in
    let e = texting_last _ _ _ _ _ _ on.loop-i.invariant form.result _ (left on) form.ensures.0 _ _ refl c.put_two-then-i-n.ensures in
    record { place = e.0; buffer = e.1 }

pub shape_of-out : goal.shape_of-out
shape_of-out c = texting_length _ _ _ _ _ _ c.loop-i.invariant

pub returns : goal.returns
returns c =
    let e = texting_end _ _ _ _ _ _ c.loop-i.invariant (omega arith) in
    record { place = e.0; buffer = e.1 }
