-- `case_walk::steps::put_walk` meets its contract. The loop's invariant: the line was written on.
use Prim.Native.Nat.{◌-◌}
use lib.ListN.{length}
use Rattle.case_file.specs.Line.{Onward}
use Rattle.case_walk.proofs.steps.put_walk.Given as goal

abbrev pub invariant-loop-start : goal.invariant-loop-start
invariant-loop-start l = Onward l.initial.out l.out

abbrev pub decreases-loop-start : goal.decreases-loop-start
decreases-loop-start l = length l.seal - l.at
