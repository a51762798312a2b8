-- `put_pairs` meets its contract. The loop's invariant: the full pairs before stand in `out`.
use Prim.Native.Nat.{◌-◌}
use lib.ListN.{length}
use Rattle.write_text.specs.Coded.Laws.{Texting}
use Rattle.write_text.proofs.put_pairs.Given as goal

abbrev pub invariant-loop-i : goal.invariant-loop-i
invariant-loop-i l = Texting l.text l.initial.out l.start l.out l.at l.i

abbrev pub decreases-loop-i : goal.decreases-loop-i
decreases-loop-i l = length l.text - l.i
