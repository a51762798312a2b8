-- `Turned::put` meets its contract. The loop's invariant: these bytes stand in `out`, and what is left of the text
-- is still to be published.
use mathlib.Core.Path.{◌≡◌}
use Prim.Native.Nat.{ℕ, ◌*◌, ◌-◌, ◌/◌, ◌%◌, ◌≤◌}
use mathlib.Core.List.{List, ◌++◌}
use lib.ListN.{length, drop}
use Rattle.format.proofs.Buffer.Laws.{Held}
use Rattle.c40.specs.Text.{publish}
use Rattle.c40_write.proofs.turned.Turned.put.Given as goal

abbrev pub invariant-loop-i : goal.invariant-loop-i
invariant-loop-i l = (l.i ≤ length l.text)
    × (l.i % 3 ≡ 0)
    × (l.at ≡ 2 * (l.i / 3))
    × (before : List ℕ)
    × (publish l.text ≡ before ++ publish (drop l.i l.text))
    × Held l.initial.out l.out l.at before

abbrev pub decreases-loop-i : goal.decreases-loop-i
decreases-loop-i l = length l.text - l.i
