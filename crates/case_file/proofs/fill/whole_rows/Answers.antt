-- `case_file::fill::whole_rows` meets its contract.
-- Assumes nothing.
use native.Mathlib.Omega.{arith}
use Rattle.case_file.specs.Line.Laws.{counts}
use Rattle.case_file.proofs.fill.whole_rows.Goals as goal

pub returns-then-most-count : goal.returns-then-most-count
returns-then-most-count c = record { counts = counts _ _ (omega arith); value = omega arith }

pub returns : goal.returns
returns c = record { counts = counts _ _ (omega arith); value = omega arith }
