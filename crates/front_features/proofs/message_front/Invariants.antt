-- `message_front` meets its contract. The loop's invariant: the whole goes on from the place with the tags used before it,
-- and the marks are those of these tags.
use Prim.Native.Nat.{◌-◌}
use lib.ListN.{length}
use Rattle.front_features.proofs.Turn.{Kept}
use Rattle.front_features.proofs.message_front.Given as goal

abbrev pub invariant-loop-at : goal.invariant-loop-at
invariant-loop-at l = Kept l.version l.seal l.start l.marks l.at

abbrev pub decreases-loop-at : goal.decreases-loop-at
decreases-loop-at l = length l.seal - l.at
