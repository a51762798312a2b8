-- `walk_steps::quick_step` meets its contract: no step at place 0; then what the short way finds, or what `step_at` finds.
-- Assumes nothing.
use mathlib.Core.Path.{◌∙◌}
use Rattle.walk_steps.proofs.Steps.Laws.{step_closed}
use Rattle.walk_steps.proofs.quick_step.Goals as goal

pub returns-then-at-eq0 : goal.returns-then-at-eq0
returns-then-at-eq0 c = c.no_more.ensures ∙ step_closed _ _ c.if-at-eq0.true
