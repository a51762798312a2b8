-- `vectors::run_all` meets its contract. The loop's invariant: the line was written on.
-- Assumes nothing.
use Prim.Native.Nat.{◌-◌}
use lib.ListN.{length}
use Rattle.case_file.specs.Line.{Onward}
use Rattle.vectors.proofs.run_all.Given as goal

abbrev pub invariant-loop-from : goal.invariant-loop-from
invariant-loop-from g l = Onward l.initial.lines l.lines

abbrev pub decreases-loop-from : goal.decreases-loop-from
decreases-loop-from g l = length l.cases - l.from
