-- `Chart::put` meets its contract. The loop's invariant: these characters stand in `out`, and the rest is still to be decoded.
-- Assumes nothing.
use native.Mathlib.Omega.{arith}
use mathlib.Core.Path.{◌∙◌, refl, ap, sym, subst}
use Prim.Native.Nat.{◌+◌}
use mathlib.Core.List.{[], ◌++◌}
use lib.ListN.{length}
use Rattle.format.specs.Buffer.{over}
use Rattle.format.proofs.Buffer.Laws.{held_start, held_more, held_length}
use Rattle.std.specs.Prelude.{Ok}
use Rattle.pairs.specs.Pairs.{chars_of}
use Rattle.c40.specs.Decode.{text_of, decode}
use Rattle.c40.proofs.Decode.Laws.{Sofar, Inner, Last, sofar_start, sofar_inner, sofar_last, sofar_end}
use Rattle.c40_read.proofs.decode.Chart.put.Goals as goal
use Rattle.c40_read.proofs.decode.Chart.put.Goals.{In-loop-i, Then-i-n}

-- at a pair that is not the last: it carries three characters, which there is room for
inner : (c : In-loop-i) →
    let s = c.args.bytes.now in
    Inner s c.loop-i.i c.loop-i.invariant.3 (text_of (decode 0 s))
inner c = sofar_inner _ _ _ c.loop-i.invariant.4 _ c.requires.is_text_lem (omega arith)

-- at the last pair: there is room for what it carries, and the text then is whole
last : (c : Then-i-n) →
    let s = c.args.bytes.now in
    Last s c.loop-i.i c.loop-i.invariant.3 (text_of (decode 0 s))
last c = sofar_last _ _ _ c.loop-i.invariant.4 _ c.requires.is_text_lem (omega arith)

pub loop-i-init : goal.loop-i-init
loop-i-init c = (omega arith, omega arith, omega arith, [], sofar_start _, held_start _)

pub shape_of-out-else-i-n : goal.shape_of-out-else-i-n
shape_of-out-else-i-n c =
    let inv = c.loop-i.invariant in
    held_length _ _ _ _ inv.5 inv.2

pub returns-else-i-n : goal.returns-else-i-n
returns-else-i-n c =
    let inv = c.loop-i.invariant in
    inv.5.is
    ∙ ap (λ d. over c.args.out.now 0 (text_of d))
    (sym (sofar_end _ _ _ inv.4 (omega arith)))

pub three-requires : goal.three-requires
three-requires c = (inner (goal.at.three-requires c).In-loop-i).three

pub last-requires : goal.last-requires
last-requires c = (last (goal.at.last-requires c).Then-i-n).some

pub shape_of-out-then-i-n : goal.shape_of-out-then-i-n
shape_of-out-then-i-n c =
    let inv = c.loop-i.invariant in
    c.put_pair-then-i-n.auto.out ∙ held_length _ _ _ _ inv.5 inv.2

pub put_pair-requires : goal.put_pair-requires
put_pair-requires c =
    let many = ap (λ p. length (chars_of p)) c.three.ensures in
    let inv = c.loop-i.invariant in
    omega (arith, (inner (goal.at.put_pair-requires c).In-loop-i).three, (inner (goal.at.put_pair-requires c).In-loop-i).room, many, inv.5.many, held_length _ _ _ _ inv.5 inv.2)

pub put_pair-requires-then-i-n : goal.put_pair-requires-then-i-n
put_pair-requires-then-i-n c =
    let inv = c.loop-i.invariant in
    let many = ap (λ p. length (chars_of p)) c.last.ensures in
    let room = (last (goal.at.put_pair-requires-then-i-n c).Then-i-n).room in
    omega (arith, many, inv.5.many, held_length _ _ _ _ inv.5 inv.2)

pub overflow_add-at : goal.overflow_add-at
overflow_add-at c =
    omega (arith, (inner (goal.at.overflow_add-at c).In-loop-i).room, c.loop-i.invariant.5.many)

pub returns-then-i-n : goal.returns-then-i-n
returns-then-i-n c =
    let out = c.args.out.now in
    let inv = c.loop-i.invariant in
    let pair = c.last in
    let many = ap (λ p. length (chars_of p)) pair.ensures in
    let room = (last (goal.at.returns-then-i-n c).Then-i-n).room in
    let held = held_more _ _ _ _ inv.5 (chars_of (Ok pair.result)) _ _ c.put_pair-then-i-n.ensures refl
    (omega (arith, many, inv.5.many)) in
    held.is ∙ ap (λ p. over out 0 (inv.3 ++ chars_of p)) pair.ensures ∙ ap (over out 0) (sym (last (goal.at.returns-then-i-n c).Then-i-n).whole)

pub loop-i-preserved : goal.loop-i-preserved
loop-i-preserved c =
    let full = c.three in
    let inv = c.loop-i.invariant in
    let many = ap (λ p. length (chars_of p)) full.ensures in
    let room = (inner (goal.at.loop-i-preserved c).In-loop-i).room in (
      omega arith,
      omega arith,
      omega (arith, inv.5.many),
      inv.3 ++ chars_of (Ok full.result),
      subst (λ p. Sofar c.args.bytes.now (c.loop-i.i + 2) (inv.3 ++ chars_of p))
          (sym full.ensures) (inner (goal.at.loop-i-preserved c).In-loop-i).next,
      held_more _ _ _ _ inv.5 (chars_of (Ok full.result)) _ _ c.put_pair.ensures (omega (arith, (inner (goal.at.loop-i-preserved c).In-loop-i).three))
          (omega (arith, inv.5.many)),
    )
