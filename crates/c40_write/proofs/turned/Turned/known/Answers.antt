-- `Turned::known` meets its contract. The loop's invariant: all characters passed are known.
-- Assumes nothing.
use native.Mathlib.Omega.{arith}
use Prim.Native.Nat.{ℕ, ◌<◌}
use lib.ListN.{get_or}
use Rattle.c40.proofs.Calls.Laws.{known_more, known_here, known_end}
use Rattle.c40_write.specs.Turned.Laws.{no_mark, a_mark}
use Rattle.c40_write.proofs.turned.Turned.known.Goals as goal
use Rattle.c40_write.proofs.turned.Turned.known.Goals.{After-entry}

-- the character, which is a byte
abbrev this : After-entry → ℕ
this c = get_or c.args.text.now c.loop-i.i 0

byte : (c : After-entry) → this c < 256
byte c = (c.type_inv.text c.loop-i.i).fits

pub loop-i-init : goal.loop-i-init
loop-i-init c = (omega arith, omega arith)

pub returns-then-entry-ge128 : goal.returns-then-entry-ge128
returns-then-entry-ge128 c =
    let on = (goal.at.returns-then-entry-ge128 c).After-entry in
    known_here _ _ (omega arith) (a_mark (this on) _ (byte on) c.entry.ensures.is c.if-entry-ge128.true) c.loop-i.invariant.1

pub loop-i-preserved : goal.loop-i-preserved
loop-i-preserved c =
    let on = (goal.at.loop-i-preserved c).After-entry in
    (omega arith, known_more _ _ (omega arith) (no_mark (this on) _ (byte on) c.entry.ensures.is c.if-entry-ge128.false) c.loop-i.invariant.1)

pub returns : goal.returns
returns c = omega (arith, known_end _ _ (omega arith) c.loop-i.invariant.1)
