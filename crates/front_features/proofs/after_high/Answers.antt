-- `after_high` meets its contract: no byte behind 82 and another, or one.
-- Assumes nothing.
use mathlib.Core.Path.{◌∙◌}
use native.Mathlib.Omega.{arith}
use Rattle.front_features.specs.Lengths.{high_end, high_last}
use Rattle.front_features.proofs.after_high.Goals as goal

pub returns-then-seal-next : goal.returns-then-seal-next
returns-then-seal-next c = high_end _ _ _ _ (omega arith)

pub returns : goal.returns
returns c = c.last_front.ensures ∙ high_last _ _ _ _ _ (omega arith) c.wide-low.ensures
