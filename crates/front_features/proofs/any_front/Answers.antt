-- `any_front` meets its contract, by whether all of the bytes are there.
-- Assumes nothing.
use native.Mathlib.Omega.{arith}
use Rattle.front_features.specs.Places.{any_short, any_whole}
use Rattle.front_features.proofs.any_front.Goals as goal

pub returns-then-n-at : goal.returns-then-n-at
returns-then-n-at c = any_short _ _ _ (omega arith) (omega arith)

pub returns : goal.returns
returns c = any_whole _ _ _ (omega arith)
