-- The outer loop's invariant: the features are those of the rows before and of what stands from the place on, and the
-- rows' tags stand at the start of the array, with the bit of each set in the marks. The inner loop's: none of the tags
-- before is this one.
use mathlib.Core.Path.{◌≡◌}
use Prim.Native.Nat.{ℕ, ◌-◌, ◌<◌}
use lib.ListN.{get_or}
use Rattle.read_features.proofs.Turn.{Kept, Marked}
use Rattle.read_features.proofs.read_features.Given as goal

abbrev pub invariant-loop-used : goal.invariant-loop-used
invariant-loop-used l = (k : ℕ) → k < l.used-index → get_or l.used-items k 0 ≡ l.tag → ⊥

abbrev pub invariant-rows : goal.invariant-rows
invariant-rows l = Kept l.version l.seal l.initial.here.place l.tags l.count l.here.place × Marked l.marks l.tags l.count

abbrev pub decreases-rows : goal.decreases-rows
decreases-rows l = 255 - l.count
