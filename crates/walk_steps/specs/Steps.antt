-- The walk over the features of a seal (document 02, Ticket 2): where it starts, and what a step finds at a place.
-- Assumes nothing.
use Rattle.std.specs.Prelude.{ℕ, List, eqb}
use Rattle.format.specs.Choice.{pick}
use Rattle.grammar.specs.Content.{Version}
use Rattle.rows.specs.declared.Row.{Row}
use Rattle.rows.specs.Rows.{row_of}
use Rattle.verdict.specs.Items.{Read, is, not, byte, version, plain_in}
use Rattle.verdict.specs.Judge.{Verdict, accepted, refused, row}
use Rattle.walk_steps.specs.declared.Start.{Start}
use Rattle.walk_steps.specs.declared.Step.{Step}

-- "a reader opened on one seal": the first feature of an accepted one begins where its header ends. "A refused seal gives its number and
-- place" and "opens no walk": its steps would be made at place 0, where no feature begins.
abbrev pub start_of : Verdict → Start
start_of (accepted r) = record { number = 0; place = 0; at = r.header_end }
start_of (refused number place) = record { number = number; place = place; at = 0 }

-- a feature, and the place after it
abbrev pub found : Row → ℕ → Step
found r at = record { number = 0; place = 0; row = r; at = at }

-- "51 no further feature": every other field is 0, so that the walk stays ended
abbrev pub no_more : Step
no_more = record { number = 51; place = 0; row = row_of 0 0 0 0; at = 0 }

-- where an item is not read there is no feature
abbrev pub unless : {R A : Type 0} → Read R A → (A → ℕ → Step) → Step
unless (is a at) rest = rest a at
unless (not why place) rest = no_more

-- the feature whose tag stands at a place: its tag, which is not FF, its length by the version and its whole value, as in the full reading
unfoldable pub feature_at : Version → List ℕ → ℕ → Step
feature_at v s at =
    unless (byte at s (plain_in at))
    (λ tag at'. pick (eqb tag 0xFF) no_more (unless (row v tag at at' s) found))

-- what a step finds at a place of any byte string: none at place 0, and none in one without a version
unfoldable pub step_at : List ℕ → ℕ → Step
step_at s at = pick (eqb at 0) no_more (unless (version 1 s) (λ v after. feature_at v s at))
