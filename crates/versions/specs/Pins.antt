-- Computed examples: each version's number and byte, and the numbers and bytes beside them, which are none.
-- Assumes nothing.
use Rattle.std.specs.Prelude.{◌≡◌, refl}
use Rattle.std.proofs.Math.Option.{none, some}
use Rattle.versions.specs.Versions.{version_number, version_byte, version_of, version_of_byte}
use Rattle.versions.specs.declared.Version.TheVariants.{Three as three, Four as four}

numbers : (version_number three ≡ 3) × (version_number four ≡ 4)
numbers = (refl, refl)

bytes : (version_byte three ≡ 0x02) × (version_byte four ≡ 0x03)
bytes = (refl, refl)

of_numbers : (version_of 2 ≡ none) × (version_of 3 ≡ some three) × (version_of 4 ≡ some four) × (version_of 5 ≡ none)
of_numbers = (refl, refl, refl, refl)

of_bytes : (version_of_byte 0x02 ≡ some three) × (version_of_byte 0x03 ≡ some four)
of_bytes = (refl, refl)

-- 258 is no byte 02 with a bit more
no_version : (version_of_byte 0x01 ≡ none) × (version_of_byte 0x04 ≡ none) × (version_of_byte 258 ≡ none)
no_version = (refl, refl, refl)
