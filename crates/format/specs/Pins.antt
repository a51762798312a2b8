-- Computed examples that fix what the laws leave open.
-- Assumes nothing.
use Rattle.std.specs.Prelude.{◌≡◌, refl, [], ◌∷◌}
use Rattle.format.specs.BigEndian.{be, val}
use Rattle.format.specs.Buffer.{over}
use Rattle.format.specs.Hex.{hex_digit, hex_value}

-- the high byte comes first
high_first : be 3 0x010203 ≡ 1 ∷ 2 ∷ 3 ∷ []
unfolding be
high_first = refl

high_first_back : val (1 ∷ 2 ∷ 3 ∷ 4 ∷ []) 3 ≡ 0x010203
unfolding val
high_first_back = refl

-- two bytes written at 1: the first and the last two stay
others_stay : over (9 ∷ 9 ∷ 9 ∷ 8 ∷ 7 ∷ []) 1 (1 ∷ 2 ∷ []) ≡ 9 ∷ 1 ∷ 2 ∷ 8 ∷ 7 ∷ []
unfolding over
others_stay = refl

-- 0, 9, A and F both ways; /, :, @, G and a are no digits
hexadecimal_digits_lem : (hex_digit 0 ≡ 48) × (hex_digit 9 ≡ 57) × (hex_digit 10 ≡ 65) × (hex_digit 15 ≡ 70)
hexadecimal_digits_lem = (refl, refl, refl, refl)

hexadecimal_values : (hex_value 48 ≡ 0) × (hex_value 57 ≡ 9) × (hex_value 65 ≡ 10) × (hex_value 70 ≡ 15)
hexadecimal_values = (refl, refl, refl, refl)

no_hexadecimal : (hex_value 47 ≡ 16) × (hex_value 58 ≡ 16) × (hex_value 64 ≡ 16) × (hex_value 71 ≡ 16) × (hex_value 97 ≡ 16)
no_hexadecimal = (refl, refl, refl, refl, refl)
