-- "It gives exactly the rows of the full reading, in order" (document 02, Ticket 2).
-- Assumes nothing.
use Rattle.std.specs.Prelude.{◌≡◌, ℕ, List, [], ◌∷◌}
use Rattle.rows.specs.declared.Row.{Row}
use Rattle.verdict.specs.Frames.{end_of}
use Rattle.walk_steps.specs.Steps.{no_more, found, step_at}

-- from a place on these rows are found, each where the one before ends, and then no more
abbrev pub Finds : List ℕ → ℕ → List Row → Type 0
Finds s at [] = step_at s at ≡ no_more
Finds s at (r ∷ rows) = (step_at s at ≡ found r (end_of r)) × Finds s (end_of r) rows
