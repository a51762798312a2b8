-- `after_two` meets its contract: no byte behind 82, 0, a byte without room for what it tells, or another.
-- Assumes nothing.
use mathlib.Core.Path.{◌∙◌}
use native.Mathlib.Omega.{arith}
use Prim.Native.Nat.{◌-◌}
use Rattle.front_features.specs.Lengths.{two_end, two_zero, two_cramped, two_high}
use Rattle.front_features.proofs.after_two.Goals as goal

pub returns-then-seal-next : goal.returns-then-seal-next
returns-then-seal-next c = two_end _ _ _ (omega arith)

pub returns-then-high-eq0 : goal.returns-then-high-eq0
returns-then-high-eq0 c = two_zero _ _ _ _ (omega arith) c.wide-high.ensures c.if-high-eq0.true

pub returns-then-at-high : goal.returns-then-at-high
returns-then-at-high c =
    two_cramped _ _ _ _ (omega arith) c.wide-high.ensures c.if-high-eq0.false (omega arith)

pub returns : goal.returns
returns c =
    let a = c.args in
    c.after_high.ensures
    ∙ two_high (4096 - a.at) a.at a.seal.now _ (omega arith) c.wide-high.ensures c.if-high-eq0.false (omega arith)
