-- What the features' answer means.
-- Assumes nothing.
pub mod Laws
use Rattle.std.specs.Prelude.{ℕ, Result, Ok, Err}
use Rattle.verdict.specs.Items.{Way, is, not}
use Rattle.read_features.specs.declared.Features.{Features}
use Rattle.read_items.specs.declared.cursor.Refusal.{Refusal}

-- how many there are, at the place of FF
abbrev pub features_of : Result Features Refusal → Way ℕ
features_of (Ok features) = is features.count features.mark.place
features_of (Err why) = not why.why why.place
