-- What a number or a byte states is settled by what `stated_of` says of it.
-- Assumes nothing.
use Rattle.std.specs.Prelude.{◌≡◌, refl, Result, Ok, Err}
use Rattle.std.proofs.Math.Option.{Option, none, some}
use Rattle.format.specs.OneToOne.{OneToOne, one_back}
use Rattle.versions.specs.Versions.{stated_of}
use Rattle.versions.specs.declared.Version.{Version}
use Rattle.versions.specs.declared.NoSuchVersion.{NoSuchVersion}

stated_back : Option Version → Result Version NoSuchVersion
stated_back (some v) = Ok v
stated_back none = Err (record {})

stated_back_lem : (a : Result Version NoSuchVersion) → stated_back (stated_of a) ≡ a
unfolding stated_back
stated_back_lem (Ok v) = refl
stated_back_lem (Err e) = refl

pub stated_one : OneToOne stated_of
stated_one = one_back stated_of stated_back stated_back_lem
