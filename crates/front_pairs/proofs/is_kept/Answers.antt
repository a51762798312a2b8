-- `is_kept` meets its contract: a number in range is told by its three values.
-- Assumes nothing.
use native.Mathlib.Omega.{arith}
use mathlib.Core.Path.{◌≡◌}
use Prim.Native.Nat.{◌+◌, ◌*◌, ◌-◌}
use Rattle.pairs.specs.Pairs.{number}
use Rattle.front_pairs.specs.Pairs.Laws.{kept_none, kept_large, kept_values}
use Rattle.front_pairs.proofs.is_kept.Goals as goal

pub returns-then-number-eq0 : goal.returns-then-number-eq0
returns-then-number-eq0 c = let a = c.args in kept_none a.kind (number a.x a.y) (omega arith)

pub returns-then-number-gt64000 : goal.returns-then-number-gt64000
returns-then-number-gt64000 c = let a = c.args in kept_large a.kind (number a.x a.y) (omega arith)

pub returns : goal.returns
returns c =
    let a = c.args in
    let less = c.wide.result * 256 + c.wide-2.result - 1 in
    let e : less + 1 ≡ number a.x a.y = omega arith in
    cc (kept_values a.kind (number a.x a.y) (omega arith) (omega arith))
