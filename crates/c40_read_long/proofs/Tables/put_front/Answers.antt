-- `Tables::put_front` meets its contract. The loop's invariant: the pairs before the place are put down, and those up to the
-- last are an even number.
-- Assumes nothing.
use native.Mathlib.Omega.{arith}
use mathlib.Core.Path.{◌≡◌, refl, sym}
use Prim.Native.Nat.{ℕ, ◌+◌, ◌-◌, ◌%◌, ◌≤◌}
use mathlib.Core.List.{List}
use lib.ListN.{length}
use Rattle.pairs.proofs.Pairs.Laws.{apart}
use Rattle.c40_read_long.specs.Laid.{Come}
use Rattle.c40_read_long.specs.Laid.Laws.{come_start, come_same, come_more, bit_set, bit_clear}
use Rattle.c40_read_long.proofs.Tables.put_front.Goals as goal
use Rattle.c40_read_long.proofs.Tables.put_front.Goals.{then-last-eq2+else-not-put_full, else-last-eq2, At-loop-i, Else-not-put_full-2, Else-not-put_full-3, In-loop-i}

abbrev bytes : At-loop-i → List ℕ
bytes c = c.args.bytes.now

-- in a turn there are two pairs before the last, and room for them
turn : (c : In-loop-i)
    → let on = (goal.at.In-loop-i c).At-loop-i in (on.loop-i.i + 4 + 2 ≤ length (bytes on)) × (on.loop-i.at + 6 ≤ 6144)
turn c =
    let long = c.requires in
    let inside : c.loop-i.i + 4 + 2 ≤ length (bytes (goal.at.In-loop-i c).At-loop-i) = omega arith in
    (inside, omega (arith, c.loop-i.invariant.2.threes, long.size))

-- the first pair is put down, and the second
one_more : (c : Else-not-put_full-2)
    → let on = (goal.at.Else-not-put_full-2 c).At-loop-i in
    Come (bytes on) (on.loop-i.i + 2) c.put_full-in-loop-i.new.text (on.loop-i.at + 3)
one_more c =
    let h = turn (goal.at.Else-not-put_full-2 c).In-loop-i in
    come_more _ _ _ _ c.loop-i.invariant.2 _ _ refl (omega arith) (omega arith)
    (c.put_full-in-loop-i.ensures c.if-not-put_full-2.false)

two-more : (c : Else-not-put_full-3)
    → let on = (goal.at.Else-not-put_full-3 c).At-loop-i in
    Come (bytes on) (on.loop-i.i + 2 + 2) c.put_full-in-loop-i-2.new.text (on.loop-i.at + 3 + 3)
two-more c =
    let h = turn (goal.at.Else-not-put_full-3 c).In-loop-i in
    come_more _ _ _ _ (one_more (goal.at.Else-not-put_full-3 c).Else-not-put_full-2) _ (c.loop-i.i + 3) (omega arith) (omega arith) (omega arith)
    (c.put_full-in-loop-i-2.ensures c.if-not-put_full-3.false)

pub put_full-requires : goal.put_full-requires
put_full-requires c = record { whole = c.requires.whole; three = omega arith }

pub returns-then-not-put_full : goal.returns-then-not-put_full
returns-then-not-put_full c e = absurd (apart refl e)

pub loop-i-init : goal.loop-i-init
loop-i-init c =
    let s = c.args.bytes.now in
    let long = c.requires in
    let even : (length s - 2) % 2 ≡ 0 = omega (arith, long.some, long.even) in
    elim c.if-last-eq2.branch [
      | then-last-eq2+else-not-put_full w ↦
          let odd = bit_set (length s - 2) even w.if-last-eq2.true in
          let full = w.put_full.ensures w.if-not-put_full.false in
          let first = come_more _ _ _ _ (come_start s _ long.whole) _ 1 refl (omega arith) (omega arith) full in
          (omega (arith, w.i-is), omega (arith, w.i-is), come_same (sym w.text-is) (sym w.i-is) (sym w.at-is) first)
      | else-last-eq2 w ↦
          let none = bit_clear (length s - 2) even w.if-last-eq2.false in
          (omega (arith, w.i-is), omega (arith, w.i-is), come_same (sym w.text-is) (sym w.i-is) (sym w.at-is) (come_start s _ long.whole))
    ]

pub put_full-requires-in-loop-i : goal.put_full-requires-in-loop-i
put_full-requires-in-loop-i c =
    record { whole = c.loop-i.invariant.2.whole; three = omega (arith, turn (goal.at.put_full-requires-in-loop-i c).In-loop-i) }

pub returns-then-not-put_full-2 : goal.returns-then-not-put_full-2
returns-then-not-put_full-2 c e = absurd (apart refl e)

pub put_full-requires-in-loop-i-2 : goal.put_full-requires-in-loop-i-2
put_full-requires-in-loop-i-2 c =
    record {
      whole = (one_more (goal.at.put_full-requires-in-loop-i-2 c).Else-not-put_full-2).whole;
      three = omega (arith, turn (goal.at.put_full-requires-in-loop-i-2 c).In-loop-i);
    }

pub returns-then-not-put_full-3 : goal.returns-then-not-put_full-3
returns-then-not-put_full-3 c e = absurd (apart refl e)

pub loop-i-preserved : goal.loop-i-preserved
loop-i-preserved c =
    let h = turn (goal.at.loop-i-preserved c).In-loop-i in
    (omega arith, omega arith, come_same refl (omega arith) (omega arith) (two-more c))

pub returns : goal.returns
returns c e =
    let come = c.loop-i.invariant.2 in
    let end : c.loop-i.i ≡ length (bytes (goal.at.returns c).At-loop-i) - 2 = omega arith in
    come_same refl end (omega (arith, come.threes)) come
