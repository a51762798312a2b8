-- `rows_size` meets its contract. The loop's invariant: what is left of the sum is the size of the rows left, and the sum has not passed
-- 4,096.
use Rattle.rows.specs.Rows.{rows_of}
use Rattle.rows.specs.Left.{rows_left}
use Rattle.write_size.specs.SealSize.Laws.{Summed}
use Rattle.write_size.proofs.rows_size.Given as goal

abbrev pub invariant-loop-row : goal.invariant-loop-row
invariant-loop-row l = Summed l.version (rows_of l.rows) l.start l.total (rows_left l.row-iterator)
