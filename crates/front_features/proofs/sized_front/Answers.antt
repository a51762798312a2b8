-- `sized_front` meets its contract, by whether the signature has room.
-- Assumes nothing.
use native.Mathlib.Omega.{arith}
use Prim.Native.Nat.{◌-◌}
use Rattle.front_features.specs.Signature.{sized_cramped, sized_is}
use mathlib.Core.Path.{◌∙◌}
use Rattle.front_features.proofs.sized_front.Goals as goal

pub returns-then-at-size : goal.returns-then-at-size
returns-then-at-size c =
    let a = c.args in
    sized_cramped (4096 - a.at) a.size a.at a.seal.now (omega arith)

pub returns : goal.returns
returns c =
    let a = c.args in
    c.any_front.ensures ∙ sized_is (4096 - a.at) a.size a.at a.seal.now (omega arith)
