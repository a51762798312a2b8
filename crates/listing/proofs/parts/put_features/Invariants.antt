-- `listing::parts::put_features` meets its contract. The loop's invariant: the lines of the rows before are put down, and those of the rows
-- that the walk has left are left.
use Rattle.std.specs.Iterator.Adapters.{take_source, take_count}
use Rattle.rows.specs.Left.{rows_left}
use Rattle.listing.specs.Listing.Laws.{Listing}
use Rattle.listing.proofs.parts.put_features.Given as goal

abbrev pub invariant-loop-row : goal.invariant-loop-row
invariant-loop-row l =
    Listing l.count l.table l.initial.line l.line (take_count l.row-iterator) (rows_left (take_source l.row-iterator))
