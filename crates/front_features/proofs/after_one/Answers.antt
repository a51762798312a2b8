-- `after_one` meets its contract: no byte behind 81, one below 128, or another.
-- Assumes nothing.
use mathlib.Core.Path.{◌∙◌}
use native.Mathlib.Omega.{arith}
use Prim.Native.Nat.{◌-◌}
use Rattle.front_features.specs.Lengths.{one_end, one_small, one_last}
use Rattle.front_features.proofs.after_one.Goals as goal

pub returns-then-seal-next : goal.returns-then-seal-next
returns-then-seal-next c = one_end _ _ _ (omega arith)

pub returns-then-size-lt128 : goal.returns-then-size-lt128
returns-then-size-lt128 c =
    let a = c.args in
    one_small (4096 - a.at) a.at a.seal.now c.wide-size.result (omega arith) c.wide-size.ensures (omega arith)

pub returns : goal.returns
returns c = c.last_front.ensures ∙ one_last _ _ _ _ (omega arith) c.wide-size.ensures (omega arith)
