-- `case_file::fill::reach` meets its contract.
-- Assumes nothing.
use native.Mathlib.Omega.{arith}
use Rattle.case_file.specs.Line.Laws.{counts}
use Rattle.case_file.proofs.fill.reach.Goals as goal

pub returns-then-end-from : goal.returns-then-end-from
returns-then-end-from c = record { counts = counts _ _ (omega arith); value = omega arith }

pub returns-then-end-from-2 : goal.returns-then-end-from-2
returns-then-end-from-2 c = record { counts = counts _ _ (omega arith); value = omega arith }

pub returns : goal.returns
returns c = record { counts = counts _ _ (omega arith); value = omega arith }
