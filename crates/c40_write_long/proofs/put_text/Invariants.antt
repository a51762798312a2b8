-- `put_text` meets its contract. The loop's invariant: the characters passed are judged by their marks together, and with no mark their
-- form stands in `bytes`.
use Prim.Native.Nat.{◌-◌}
use lib.ListN.{length}
use Rattle.c40_write_long.specs.Passed.{Passed}
use Rattle.c40_write_long.proofs.put_text.Given as goal

abbrev pub invariant-loop-i : goal.invariant-loop-i
invariant-loop-i l = Passed l.text l.i l.marks l.initial.bytes l.bytes l.at

abbrev pub decreases-loop-i : goal.decreases-loop-i
decreases-loop-i l = length l.text - l.i
