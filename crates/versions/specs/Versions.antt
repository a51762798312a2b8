-- The versions of a seal, their numbers and their bytes (document 01, Layout; Doc 9303-13, 2.2, Table 1): 02 is version 3, 03 is version 4.
-- Assumes nothing.
use Rattle.std.specs.Prelude.{ℕ, Result, Ok, Err, eqb}
use Rattle.std.proofs.Math.Option.{Option, none, some}
use Rattle.format.specs.Choice.{pick}
use Rattle.versions.specs.declared.Version.{Version}
use Rattle.versions.specs.declared.NoSuchVersion.{NoSuchVersion}
use Rattle.versions.specs.declared.Version.TheVariants.{Three as three, Four as four}

abbrev pub version_number : Version → ℕ
version_number three = 3
version_number four = 4

abbrev pub version_byte : Version → ℕ
version_byte three = 0x02
version_byte four = 0x03

-- the version of a number, and of a byte; any other is none
abbrev pub version_of : ℕ → Option Version
version_of n = pick (eqb n 3) (some three) (pick (eqb n 4) (some four) none)

abbrev pub version_of_byte : ℕ → Option Version
version_of_byte x = pick (eqb x 0x02) (some three) (pick (eqb x 0x03) (some four) none)

abbrev pub stated_of : Result Version NoSuchVersion → Option Version
stated_of (Ok v) = some v
stated_of (Err e) = none
