-- `decode::put_pair` meets its contract: one, two or three stores in a row are one write.
-- Assumes nothing.
use native.Mathlib.Omega.{arith}
use mathlib.Core.Path.{◌∙◌, ap, sym}
use Prim.Native.Nat.{◌+◌, ◌≤◌}
use lib.ListN.{length, length-set}
use Rattle.format.specs.Buffer.{over}
use Rattle.format.proofs.Buffer.Laws.{set_over, over_two, over_three}
use Rattle.std.specs.Prelude.{Ok}
use Rattle.pairs.specs.Pairs.{chars_of}
use Rattle.c40_read.proofs.decode.put_pair.Goals as goal
use Rattle.c40_read.proofs.decode.put_pair.Goals.{In-One, In-Three, In-Two}

-- the room that each case has
three : (c : In-Three) → c.args.at + 3 ≤ length c.args.out.now
three c = omega (arith, ap (λ p. length (chars_of (Ok p))) c.in-Three.is)

two : (c : In-Two) → c.args.at + 2 ≤ length c.args.out.now
two c = omega (arith, ap (λ p. length (chars_of (Ok p))) c.in-Two.is)

one : (c : In-One) → c.args.at + 1 ≤ length c.args.out.now
one c = omega (arith, ap (λ p. length (chars_of (Ok p))) c.in-One.is)

pub bounds-out-at : goal.bounds-out-at
bounds-out-at c = omega (arith, three c)

pub bounds-out-at-in-Three : goal.bounds-out-at-in-Three
bounds-out-at-in-Three c = simp length-set (omega (arith, three c))

pub bounds-out-at-in-Three-2 : goal.bounds-out-at-in-Three-2
bounds-out-at-in-Three-2 c = simp length-set (omega (arith, three c))

pub bounds-out-at-in-Two : goal.bounds-out-at-in-Two
bounds-out-at-in-Two c = omega (arith, two c)

pub bounds-out-at-in-Two-2 : goal.bounds-out-at-in-Two-2
bounds-out-at-in-Two-2 c = simp length-set (omega (arith, two c))

pub bounds-out-at-in-One : goal.bounds-out-at-in-One
bounds-out-at-in-One c = omega (arith, one c)

pub returns-in-Three : goal.returns-in-Three
returns-in-Three c =
    let a = c.args in
    let g = c.in-Three in
    over_three a.out.now a.at g.a g.b g.c (three c)
    ∙ ap (λ p. over a.out.now a.at (chars_of (Ok p))) (sym c.in-Three.is)

pub returns-in-Two : goal.returns-in-Two
returns-in-Two c =
    let a = c.args in
    let g = c.in-Two in
    over_two a.out.now a.at g.a g.b (two c)
    ∙ ap (λ p. over a.out.now a.at (chars_of (Ok p))) (sym c.in-Two.is)

pub returns-in-One : goal.returns-in-One
returns-in-One c =
    let a = c.args in
    set_over a.out.now a.at c.in-One.a (omega (arith, one c))
    ∙ ap (λ p. over a.out.now a.at (chars_of (Ok p))) (sym c.in-One.is)
