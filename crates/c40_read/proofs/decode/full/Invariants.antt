-- `decode::full` meets its contract. The loop's invariant: all pairs before the place are full.
use Prim.Native.Nat.{◌-◌, ◌≤◌}
use Rattle.c40_read.specs.Full.{FullTo}
use Rattle.c40_read.proofs.decode.full.Given as goal

abbrev pub invariant-loop-i : goal.invariant-loop-i
invariant-loop-i l = (l.i ≤ l.last) × FullTo l.bytes l.i

abbrev pub decreases-loop-i : goal.decreases-loop-i
decreases-loop-i l = l.last - l.i
