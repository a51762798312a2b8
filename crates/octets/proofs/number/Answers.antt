-- `octets::number` meets its contract.
-- Assumes nothing.
use Rattle.std.proofs.Common.{◌≡◌, arith, refl, ◌<◌, ◌≤◌, ◌^◌, length, take, get_or, min, length-take, List, ℕ, ◌+◌, ◌*◌}
use Rattle.std.proofs.lemmas.List.{get_or-take}
use Rattle.std.proofs.Math.Nat.{pow-le-pow_right}
use lib.Dec.{lit≤}
use Rattle.format.specs.BigEndian.{val}
use Rattle.format.specs.Bytes.{Bytes}
use Rattle.format.specs.BigEndian.Laws.{val_below, val_more}
use Rattle.octets.proofs.number.Goals as goal
use Rattle.octets.proofs.number.Goals.{In-loop-x, After-wide}

-- eight bytes at most, and so below the width
small : (i : ℕ) (s : List ℕ) → Bytes s → i < 8 → val s (i + 1) < 2 ^ 64
small i s b h =
    let many : i + 1 ≤ 8 = omega arith in
    let most : 256 ^ (i + 1) ≤ 256 ^ 8 = pow-le-pow_right (lit≤ tt) many in
    omega (arith, val_below (i + 1) s b)

room : (n i : ℕ) (s : List ℕ) → n ≡ min (length s) 8 → i < length (take n s) → i < 8
room n i s e h = omega (arith, length-take n s)

-- a byte more
more : (n i value byte : ℕ) (s : List ℕ) → value ≡ val s i → i < length (take n s) → byte ≡ get_or (take n s) i 0 → value * 256 + byte ≡ val s (i + 1)
more n i value byte s e h b =
    let at : get_or (take n s) i 0 ≡ get_or s i 0 = get_or-take n s i 0 (omega (arith, length-take n s)) in
    omega (arith, val_more s i)

pub loop-x-init : goal.loop-x-init
unfolding val
loop-x-init c = refl

-- what the turn makes of the value
turn : (c : After-wide) → c.loop-x.value * 256 + c.wide.result ≡ val c.args.s.now (c.loop-x.x-index + 1)
turn c = more c.min.result c.loop-x.x-index _ _ c.args.s.now c.loop-x.invariant c.loop-x-test.true c.wide.ensures

fits : (c : In-loop-x) → val c.args.s.now (c.loop-x.x-index + 1) < 2 ^ 64
fits c = small c.loop-x.x-index c.args.s.now (λ k. (c.type_inv.s k).fits) (room _ c.loop-x.x-index c.args.s.now c.min.ensures c.loop-x-test.true)

pub overflow_mul-value : goal.overflow_mul-value
overflow_mul-value c = omega (arith, fits c, val_more c.args.s.now c.loop-x.x-index)

pub overflow_add-value : goal.overflow_add-value
overflow_add-value c = omega (arith, fits (goal.at.overflow_add-value c).In-loop-x, turn c)

pub loop-x-preserved : goal.loop-x-preserved
loop-x-preserved c = turn c
