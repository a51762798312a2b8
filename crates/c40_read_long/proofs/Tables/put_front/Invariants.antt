-- `Tables::put_front` meets its contract. The loop's invariant: the pairs before the place are put down, and those up to the
-- last are an even number.
use mathlib.Core.Path.{◌≡◌}
use Prim.Native.Nat.{◌-◌, ◌%◌, ◌≤◌}
use Rattle.c40_read_long.specs.Laid.{Come}
use Rattle.c40_read_long.proofs.Tables.put_front.Given as goal

abbrev pub invariant-loop-i : goal.invariant-loop-i
invariant-loop-i l = (l.i ≤ l.last) × ((l.last - l.i) % 4 ≡ 0) × Come l.bytes l.i l.text l.at

abbrev pub decreases-loop-i : goal.decreases-loop-i
decreases-loop-i l = l.last - l.i
