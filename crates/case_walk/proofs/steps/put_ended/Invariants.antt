-- `case_walk::steps::put_ended` meets its contract. The loop's invariant: the line was written on.
-- Assumes nothing.
use Rattle.case_file.specs.Line.{Onward}
use Rattle.case_walk.proofs.steps.put_ended.Given as goal

abbrev pub invariant-loop : goal.invariant-loop
invariant-loop l = Onward l.initial.out l.out
