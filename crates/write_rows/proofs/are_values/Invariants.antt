-- `are_values` meets its contract. The loop's invariant: no row before has a value over 255 bytes.
use mathlib.Core.Path.{◌≡◌}
use Rattle.rows.specs.Rows.{rows_of}
use Rattle.rows.specs.Left.{rows_left}
use Rattle.write_rows.specs.Tests.{are_short}
use Rattle.write_rows.proofs.are_values.Given as goal

abbrev pub invariant-loop-row : goal.invariant-loop-row
invariant-loop-row l = are_short (rows_of l.table) ≡ are_short (rows_left l.row-iterator)
