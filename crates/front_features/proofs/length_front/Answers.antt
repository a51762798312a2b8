-- `length_front` meets its contract, by whether there is a byte, and by the version.
-- Assumes nothing.
use mathlib.Core.Path.{◌∙◌}
use native.Mathlib.Omega.{arith}
use Prim.Native.Nat.{◌-◌}
use Rattle.front_features.specs.Lengths.{length_end, length_three, length_four}
use Rattle.front_features.proofs.length_front.Goals as goal

pub returns-then-seal-at : goal.returns-then-seal-at
returns-then-seal-at c = length_end _ _ _ _ (omega arith)

pub returns-in-Three : goal.returns-in-Three
returns-in-Three c = c.last_front.ensures ∙ length_three _ _ _ _ (omega arith) c.wide-first.ensures _ c.in-Three.is

pub returns-in-Four : goal.returns-in-Four
returns-in-Four c =
    let a = c.args in
    c.der_front.ensures ∙ length_four (4096 - a.at) a.at a.seal.now _ (omega arith) c.wide-first.ensures _ c.in-Four.is
