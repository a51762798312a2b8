-- `Chart::put` meets its contract. The loop's invariant: these characters stand in `out`, and the rest is still to be decoded.
use mathlib.Core.Path.{◌≡◌}
use Prim.Native.Nat.{ℕ, ◌-◌, ◌%◌, ◌≤◌}
use mathlib.Core.List.{List}
use lib.ListN.{length}
use Rattle.format.proofs.Buffer.Laws.{Held}
use Rattle.c40.proofs.Decode.Laws.{Sofar}
use Rattle.c40_read.proofs.decode.Chart.put.Given as goal

abbrev pub invariant-loop-i : goal.invariant-loop-i
invariant-loop-i l = (l.i ≤ length l.bytes) × (l.i % 2 ≡ 0) × (l.at ≤ length l.initial.out) × (before : List ℕ) × Sofar l.bytes l.i before × Held l.initial.out l.out l.at before

abbrev pub decreases-loop-i : goal.decreases-loop-i
decreases-loop-i l = length l.bytes - l.i
