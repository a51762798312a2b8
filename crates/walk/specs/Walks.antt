-- The walk as a caller holds it: the lent seal and a place. Opened, it is where the first step is made; asked, it is where the next one is.
-- Assumes nothing.
use Rattle.std.specs.Prelude.{ℕ, zero, suc, List, [], ◌∷◌}
use Rattle.std.specs.Borrow.{Bor}
use Rattle.verdict.specs.Judge.{judge}
use Rattle.walk_steps.specs.declared.Step.{Step}
use Rattle.walk.specs.declared.Walk.{Walk}
use Rattle.walk.specs.declared.Opened.{Opened}
use Rattle.walk.specs.declared.Found.{Found}
use Rattle.walk_steps.specs.Steps.{start_of, step_at}

-- the walk over a lent seal that is at a place
abbrev pub walk_at : Bor (List ℕ) → ℕ → Walk
walk_at s at = record { seal = s; at = at }

abbrev pub opened_of : Bor (List ℕ) → Opened
opened_of s = let start = start_of (judge s.now) in record { start = start; walk = walk_at s start.at }

-- "asked for its features one after another"
abbrev pub next_of : Walk → Found
next_of w = let step = step_at w.seal.now w.at in record { step = step; walk = walk_at w.seal step.at }

-- what a walk answers that is asked so many times, one after another
unfoldable pub asked : ℕ → Walk → List Step
asked zero w = []
asked (suc times) w = (next_of w).step ∷ asked times (next_of w).walk
