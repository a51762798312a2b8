-- `blocks::put_blocks` meets its contract. The loops' invariant: the first i bytes stand in `out`.
use mathlib.Core.Path.{◌≡◌}
use Prim.Native.Nat.{◌-◌, ◌≤◌}
use lib.ListN.{length, take}
use Rattle.format.specs.Buffer.{over}
use Rattle.blocks.proofs.put_blocks.Given as goal

abbrev pub invariant-loop-i : goal.invariant-loop-i
invariant-loop-i l = (16 ≤ l.i) × (l.i ≤ length l.from) × (l.out ≡ over l.initial.out l.at (take l.i l.from))

abbrev pub decreases-loop-i : goal.decreases-loop-i
decreases-loop-i l = length l.from - l.i

abbrev pub invariant-loop-i-2 : goal.invariant-loop-i-2
invariant-loop-i-2 l = (l.i ≤ length l.from) × (l.out ≡ over l.initial.out l.at (take l.i l.from))
