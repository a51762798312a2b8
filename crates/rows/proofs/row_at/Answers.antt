-- `row_at` meets its contract: each number of the row stands at its place.
-- Assumes nothing.
use native.Mathlib.Omega.{arith}
use Rattle.rows.specs.Rows.{row_at}
use Rattle.rows.proofs.Rows.Laws.{no_row, one_row}
use Rattle.rows.proofs.row_at.Goals as goal

pub returns-then-n-lt-WIDTH : goal.returns-then-n-lt-WIDTH
returns-then-n-lt-WIDTH c = let a = c.args in no_row a.table.now a.at (omega arith)

pub returns-then-n-at : goal.returns-then-n-at
returns-then-n-at c = let a = c.args in no_row a.table.now a.at (omega arith)

pub returns : goal.returns
unfolding row_at
returns c = let a = c.args in one_row a.table.now a.at (omega arith)
