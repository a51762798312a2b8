-- The loop's invariant: the rows before stand in the table, and those that are left are read from the place on.
use Prim.Native.Nat.{◌*◌, ◌-◌}
use Rattle.rows.specs.Rows.{width}
use Rattle.reader.proofs.Turn.{Put}
use Rattle.reader.proofs.table.put_rows.Given as goal

abbrev pub invariant-loop-to : goal.invariant-loop-to
invariant-loop-to l = Put l.version l.seal l.count l.initial.at l.initial.table l.table l.at l.to

abbrev pub decreases-loop-to : goal.decreases-loop-to
decreases-loop-to l = width * l.count - l.to
