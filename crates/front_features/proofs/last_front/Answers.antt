-- `last_front` meets its contract, by whether the value and a signature zone have room.
-- Assumes nothing.
use native.Mathlib.Omega.{arith}
use Rattle.front_features.specs.Lengths.{last_cramped, last_is}
use Rattle.front_features.proofs.last_front.Goals as goal

pub returns-then-at-width : goal.returns-then-at-width
returns-then-at-width c = last_cramped _ _ _ _ (omega arith)

pub returns : goal.returns
returns c = last_is _ _ _ _ (omega arith)
