-- `raw_form::digits_of` meets its contract: each `return` is one case of the definition, with the tests that led there.
-- Assumes nothing.
use native.Mathlib.Omega.{arith}
use Prim.Native.Nat.{◌<◌}
use Rattle.ecdsa_to_raw.specs.Short.{digits_none, digits_below_zero, digits_one, digits_loose, digits_zero_big, digits_zero}
use Rattle.ecdsa_to_raw.specs.Short.{digits_all_big, digits_all}
use Rattle.ecdsa_to_raw.proofs.raw_form.digits_of.Goals as goal
use Rattle.ecdsa_to_raw.proofs.raw_form.digits_of.Goals.{Else-size-eq1}

pub returns-then-size-eq0 : goal.returns-then-size-eq0
returns-then-size-eq0 c = digits_none _ c.args.t.now _ c.requires.2 c.if-size-eq0.true

pub bounds-t-2 : goal.bounds-t-2
bounds-t-2 c = omega (arith, c.if-size-eq0.false)

pub returns-then-t-ge128 : goal.returns-then-t-ge128
returns-then-t-ge128 c =
    digits_below_zero _ c.args.t.now _ c.requires.2 (omega (arith, c.if-size-eq0.false)) (omega arith)

pub returns-then-size-eq1 : goal.returns-then-size-eq1
returns-then-size-eq1 c =
    digits_one _ c.args.t.now _ c.requires.2 (omega arith) c.if-size-eq1.true c.requires.0

-- more than one byte, of which the first is below 80
several : (c : Else-size-eq1) → 1 < c.args.size
several c = omega (arith, c.if-size-eq1.false, c.if-size-eq0.false)

pub bounds-t-2-2 : goal.bounds-t-2-2
bounds-t-2-2 c = omega (arith, several (goal.at.bounds-t-2-2 c).Else-size-eq1)

pub bounds-t-3 : goal.bounds-t-3
bounds-t-3 c = omega (arith, several (goal.at.bounds-t-3 c).Else-size-eq1)

pub returns-then-t-lt128 : goal.returns-then-t-lt128
returns-then-t-lt128 c =
    digits_loose _ c.args.t.now _ c.requires.2 (omega arith) (several (goal.at.returns-then-t-lt128 c).Else-size-eq1) c.if-t-eq0.true (omega arith)

pub returns-then-n-size : goal.returns-then-n-size
returns-then-n-size c =
    digits_zero_big _ c.args.t.now _ c.requires.2 (omega arith) (several (goal.at.returns-then-n-size c).Else-size-eq1) c.if-t-eq0.true (omega arith)

pub returns-then-t-eq0 : goal.returns-then-t-eq0
returns-then-t-eq0 c =
    digits_zero _ c.args.t.now _ c.requires.2 (omega arith) (several (goal.at.returns-then-t-eq0 c).Else-size-eq1) c.if-t-eq0.true
    (omega arith) (omega arith)

pub returns-then-n-size-2 : goal.returns-then-n-size-2
returns-then-n-size-2 c =
    digits_all_big _ c.args.t.now _ c.requires.2 (omega arith) (several (goal.at.returns-then-n-size-2 c).Else-size-eq1) c.if-t-eq0.false (omega arith)

pub returns : goal.returns
returns c =
    digits_all _ c.args.t.now _ c.requires.2 (omega arith) (several (goal.at.returns c).Else-size-eq1) c.if-t-eq0.false (omega arith)
