-- What the search by the walk's steps finds, wherever it starts: the value of the tag among the rows that the walk finds from there on.
-- Assumes nothing.
use Rattle.std.specs.Prelude as std
use Rattle.std.specs.Prelude.{◌≡◌, ℕ, List, Some, None, Result}
use Rattle.std.proofs.Math.Option.{Option, none, some}
use Rattle.rows.specs.declared.Row.{Row}
use Rattle.reading.specs.declared.Part.{Part}
use Rattle.walk_steps.specs.Rows.{Finds}
use Rattle.shown.specs.declared.Where.{Where}
use Rattle.shown.specs.declared.NotShown.{NotShown}
use Rattle.shown.specs.Where.{value_in, first_of}

-- what each case means
abbrev pub meaning_of : std.Option Part → Option Part
meaning_of (Some part) = some part
meaning_of None = none

abbrev pub HasValue : List ℕ → ℕ → ℕ → std.Option Part → Type 0
HasValue s start tag v = (rows : List Row) → Finds s start rows → meaning_of v ≡ value_in tag rows

abbrev pub IsFirst : List ℕ → ℕ → List ℕ → ℕ → ℕ → Result Where NotShown → Type 0
IsFirst main main-start extension extension-start tag w =
    (rows others : List Row) → Finds main main-start rows → Finds extension extension-start others
    → w ≡ first_of (value_in tag others) (value_in tag rows)
