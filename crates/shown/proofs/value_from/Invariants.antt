-- `shown::value_from` meets its contract: the loop keeps that the rows passed do not have the tag; what is left of the seal falls.
-- Assumes nothing.
use Rattle.std.proofs.Common.{◌-◌, length}
use Rattle.shown.proofs.Found.Laws.{Left}
use Rattle.shown.proofs.value_from.Given as goal

abbrev pub invariant-loop-step : goal.invariant-loop-step
invariant-loop-step l = Left l.seal l.start l.tag l.at

abbrev pub decreases-loop-step : goal.decreases-loop-step
decreases-loop-step l = length l.seal - l.at
