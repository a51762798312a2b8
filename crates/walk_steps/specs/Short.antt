-- What the short way says of a step that is not made at place 0: what it finds, or nothing.
-- Assumes nothing.
use Rattle.std.specs.Prelude.{◌≡◌, ℕ, List, Option, Some, None}
use Rattle.walk_steps.specs.declared.Step.{Step}
use Rattle.walk_steps.specs.Steps.{step_at}

abbrev pub IsShort : List ℕ → ℕ → Option Step → Type 0
IsShort s at (Some step) = (at ≡ 0 → ⊥) → step ≡ step_at s at
IsShort s at None = Unit
