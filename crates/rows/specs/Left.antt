-- What a walk over a table has left: the rows of the numbers that are left.
-- Assumes nothing.
use Rattle.std.specs.Prelude.{List, drop}
use Rattle.rows.specs.declared.Row.{Row}
use Rattle.rows.specs.declared.TableRows.{TableRows}
use Rattle.rows.specs.Rows.{rows_of}

abbrev pub rows_left : TableRows → List Row
rows_left s = rows_of (drop s.at s.table.now)
