-- `put_rows` meets its contract. The loop's invariant: the features of the rows before stand in `out`.
use Rattle.rows.specs.Left.{rows_left}
use Rattle.writer.specs.Put.{Putting}
use Rattle.writer.proofs.put.put_rows.Given as goal

abbrev pub invariant-loop-row : goal.invariant-loop-row
invariant-loop-row l = Putting l.version l.values l.rows l.initial.out l.start l.out l.at (rows_left l.row-iterator)
