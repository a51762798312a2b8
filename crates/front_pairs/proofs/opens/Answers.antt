-- `opens` meets its contract: the first and the last of the 256 numbers tell, unless it is one character left over.
-- Assumes nothing.
use native.Mathlib.Omega.{arith}
use mathlib.Core.Path.{◌≡◌, ◌∙◌, ap, sym}
use Prim.Native.Nat.{◌+◌, ◌*◌, ◌-◌}
use Rattle.pairs.specs.Pairs.{number}
use Rattle.front_pairs.specs.Pairs.{opens}
use Rattle.front_pairs.specs.Pairs.Laws.{opens_values, opens_none}
use Rattle.front_pairs.proofs.opens.Goals as goal

pub returns-in-One : goal.returns-in-One
unfolding opens
returns-in-One c = cc

pub returns-then-x-eq0 : goal.returns-then-x-eq0
returns-then-x-eq0 c = opens_none _ ∙ ap (opens c.args.kind) (sym c.if-x-eq0.true)

pub returns : goal.returns
returns c =
    let a = c.args in
    let low = c.wide-low.result * 256 in
    let e : low - 1 + 1 ≡ number a.x 0 = omega arith in
    let f : low + 254 + 1 ≡ number a.x 255 = omega arith in
    cc (opens_values a.kind a.x c.in_default.not-One)
