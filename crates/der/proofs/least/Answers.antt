-- `der::least` meets its contract, one width a case.
-- Assumes nothing.
use native.Mathlib.Omega.{arith}
use Prim.Native.Nat.{ℕ, ◌<◌}
use mathlib.Core.Path.{◌≡◌, ap, sym}
use Rattle.der.specs.Length.{least}
use Rattle.der.proofs.least.Goals as goal

four : (k : ℕ) → 0 < k → k < 5 → (k ≡ 1 → ⊥) → (k ≡ 2 → ⊥) → (k ≡ 3 → ⊥) → 4 ≡ k
four k low high one two three = omega arith

pub returns-in-1 : goal.returns-in-1
returns-in-1 c = ap least (sym c.in-1.is)

pub returns-in-2 : goal.returns-in-2
returns-in-2 c = ap least (sym c.in-2.is)

pub returns-in-3 : goal.returns-in-3
returns-in-3 c = ap least (sym c.in-3.is)
