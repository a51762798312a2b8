-- `put_row` meets its contract: nothing is put down where the row does not fit, and else a store for each of its numbers.
-- Assumes nothing.
use native.Mathlib.Omega.{arith}
use mathlib.Core.Path.{refl, ◌∙◌}
use lib.ListN.{length-set}
use Rattle.format.proofs.Buffer.Laws.{over_four}
use Rattle.rows.specs.Rows.{numbers}
use Rattle.rows.proofs.Rows.Laws.{put_none, put_row}
use Rattle.rows.proofs.put_row.Goals as goal

pub returns-then-n-at : goal.returns-then-n-at
returns-then-n-at c = let a = c.args in record { written = put_none a.table.now a.at a.row (omega arith); wide = (refl, refl) }

pub returns-then-n-at-lt-WIDTH : goal.returns-then-n-at-lt-WIDTH
returns-then-n-at-lt-WIDTH c = let a = c.args in record { written = put_none a.table.now a.at a.row (omega arith); wide = (refl, refl) }

pub bounds-table-at-2 : goal.bounds-table-at-2
bounds-table-at-2 c = simp length-set (omega arith)

pub bounds-table-at-3 : goal.bounds-table-at-3
bounds-table-at-3 c = simp length-set (omega arith)

pub bounds-table-at-4 : goal.bounds-table-at-4
bounds-table-at-4 c = simp length-set (omega arith)

pub returns : goal.returns
unfolding numbers
returns c =
    let a = c.args in record {
      written = over_four a.table.now a.at a.row.tag a.row.start a.row.place a.row.size (omega arith)
          ∙ put_row a.table.now a.at a.row (omega arith);
      wide = (refl, refl);
    }
