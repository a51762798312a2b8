-- `walk_steps::step_at` meets its contract: no step at place 0, none without a version, and else the feature there.
-- Assumes nothing.
use mathlib.Core.Path.{ap, sym, ◌∙◌}
use Rattle.read_items.specs.Meaning.{item_of}
use Rattle.walk_steps.proofs.Steps.Laws.{step_closed, no_version, step_versioned}
use Rattle.walk_steps.proofs.step_at.Goals as goal

pub returns-then-at-eq0 : goal.returns-then-at-eq0
returns-then-at-eq0 c = c.no_more.ensures ∙ step_closed _ _ c.if-at-eq0.true

pub returns-in_default : goal.returns-in_default
returns-in_default c =
    c.no_more-in_default.ensures
    ∙ no_version _ _ c.if-at-eq0.false _ _ (sym (ap item_of c.in_default.is) ∙ c.version.ensures)

pub returns : goal.returns
returns c =
    c.feature_at.ensures
    ∙ step_versioned _ _ c.if-at-eq0.false _ _ (sym (ap item_of c.in-Ok.is) ∙ c.version.ensures)
