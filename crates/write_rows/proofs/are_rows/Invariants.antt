-- `are_rows` meets its contract. The loop's invariant: the rows before are good, the table is as good as the rest, and the tags before are
-- marked.
use Prim.Native.Nat.{◌-◌}
use lib.ListN.{length}
use Rattle.write_rows.specs.Table.{Judged}
use Rattle.write_rows.proofs.are_rows.Given as goal

abbrev pub invariant-loop-row : goal.invariant-loop-row
invariant-loop-row l = Judged l.size l.table l.at l.marks

abbrev pub decreases-loop-row : goal.decreases-loop-row
decreases-loop-row l = length l.table - l.at
