-- Computed examples of the tests of characters, at their bounds.
-- Assumes nothing.
use Rattle.std.specs.Prelude.{◌≡◌, refl, true, false, [], ◌∷◌}
use Rattle.fields.specs.Characters.{is_letter, is_digit, is_letter_or_digit, is_reference, is_country, is_signer, shown}

-- A to Z, and the characters beside them
letters : (is_letter 64 ≡ false) × (is_letter 65 ≡ true) × (is_letter 90 ≡ true) × (is_letter 91 ≡ false) × (is_letter 97 ≡ false)
letters = (refl, refl, refl, refl, refl)

-- 0 to 9, and the characters beside them
digits : (is_digit 47 ≡ false) × (is_digit 48 ≡ true) × (is_digit 57 ≡ true) × (is_digit 58 ≡ false)
digits = (refl, refl, refl, refl)

-- G, Z and 9, a space and a filler
letters_or_digits : (is_letter_or_digit 71 ≡ true) × (is_letter_or_digit 90 ≡ true) × (is_letter_or_digit 57 ≡ true)
    × (is_letter_or_digit 32 ≡ false) × (is_letter_or_digit 60 ≡ false)
letters_or_digits = (refl, refl, refl, refl, refl)

-- of a reference, too
references : (is_reference 71 ≡ true) × (is_reference 90 ≡ true) × (is_reference 57 ≡ true)
    × (is_reference 32 ≡ false) × (is_reference 60 ≡ false)
references = (refl, refl, refl, refl, refl)

-- UTO, D and two fillers, UT and one; a filler first, a letter after a filler, a space for a filler
countries :
    (is_country 60 (85 ∷ 84 ∷ 79 ∷ []) ≡ true)
    × (is_country 60 (68 ∷ 60 ∷ 60 ∷ []) ≡ true)
    × (is_country 60 (85 ∷ 84 ∷ 60 ∷ []) ≡ true)
    × (is_country 60 (60 ∷ 60 ∷ 60 ∷ []) ≡ false)
    × (is_country 60 (68 ∷ 60 ∷ 65 ∷ []) ≡ false)
    × (is_country 60 (68 ∷ 32 ∷ 32 ∷ []) ≡ false)
    × (is_country 32 (68 ∷ 32 ∷ 32 ∷ []) ≡ true)
countries = (refl, refl, refl, refl, refl, refl, refl)

-- UTAB, UT42; a digit among the first two
signers :
    (is_signer (85 ∷ 84 ∷ 65 ∷ 66 ∷ []) ≡ true)
    × (is_signer (85 ∷ 84 ∷ 52 ∷ 50 ∷ []) ≡ true)
    × (is_signer (85 ∷ 52 ∷ 65 ∷ 66 ∷ []) ≡ false)
    × (is_signer (52 ∷ 84 ∷ 65 ∷ 66 ∷ []) ≡ false)
signers = (refl, refl, refl, refl)

fillers : (shown 32 ≡ 60) × (shown 65 ≡ 65)
fillers = (refl, refl)
