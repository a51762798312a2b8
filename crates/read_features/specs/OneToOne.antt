-- The answer of the features is settled by what `features_of` says of it.
-- Assumes nothing.
use Rattle.std.specs.Prelude.{◌≡◌, refl, ℕ, Result, Ok, Err}
use Rattle.format.specs.OneToOne.{OneToOne, one_back}
use Rattle.verdict.specs.Items.{Way, is, not}
use Rattle.read_features.specs.Meaning.{features_of}
use Rattle.read_features.specs.declared.Features.{Features}
use Rattle.read_items.specs.declared.cursor.Refusal.{Refusal}

features_back : Way ℕ → Result Features Refusal
features_back (is count at) = Ok (record { count = count; mark = record { place = at } })
features_back (not why place) = Err (record { why = why; place = place })

features_back_lem : (a : Result Features Refusal) → features_back (features_of a) ≡ a
unfolding features_back
features_back_lem (Ok features) = refl
features_back_lem (Err why) = refl

pub features_one : OneToOne features_of
features_one = one_back features_of features_back features_back_lem
