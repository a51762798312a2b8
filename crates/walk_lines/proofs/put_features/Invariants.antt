-- `walk_lines::put_features` meets its contract. The loop's invariant: the lines of the rows before are put down, and those of the rows
-- that are still to be found are left; the line keeps its buffer. What is left of the seal falls.
use Prim.Native.Nat.{◌-◌}
use mathlib.Core.Path.{◌≡◌}
use lib.ListN.{length}
use Rattle.walk_lines.specs.Lines.Laws.{Telling}
use Rattle.walk_lines.proofs.put_features.Given as goal

abbrev pub invariant-loop-step : goal.invariant-loop-step
invariant-loop-step l =
    Telling l.seal l.start l.initial.line.out.now l.initial.line.at l.line.out.now l.line.at l.place
    × (l.line.out.ghost_name ≡ l.initial.line.out.ghost_name)

abbrev pub decreases-loop-step : goal.decreases-loop-step
decreases-loop-step l = length l.seal - l.place
