-- The C40 chart (Doc 9303-13, 2.6.1, Table 2): forty entries from value to character. 0, 1 and 2 are shifts and no characters, marked 0.
-- Assumes nothing.
pub mod Laws
use Rattle.std.specs.Prelude.{◌≡◌, Bool, ℕ, ◌-◌, List, [], ◌∷◌, ltb, eqb, get_or}
use Rattle.format.specs.Choice.{pick}

unfoldable pub the_chart : List ℕ
the_chart =
    0 ∷ 0 ∷ 0 ∷ 32 ∷ 48 ∷ 49 ∷ 50 ∷ 51 ∷ 52 ∷ 53 ∷ 54 ∷ 55 ∷ 56 ∷ 57 ∷ 65 ∷ 66 ∷ 67 ∷ 68 ∷ 69 ∷ 70 ∷ 71 ∷ 72 ∷ 73 ∷ 74 ∷ 75 ∷ 76 ∷ 77 ∷ 78
    ∷ 79 ∷ 80 ∷ 81 ∷ 82 ∷ 83 ∷ 84 ∷ 85 ∷ 86 ∷ 87 ∷ 88 ∷ 89 ∷ 90 ∷ []

-- the character of a value, in a chart and in the chart
abbrev pub char_in : List ℕ → ℕ → ℕ
char_in chart v = get_or chart v 0

abbrev pub char : ℕ → ℕ
char v = char_in the_chart v

-- a shift is no character
abbrev pub shift : ℕ → Bool
shift v = ltb v 3

-- the value of a character: space is 3, digits 4 to 13, letters 14 to 39. What is no character gets a value too, and the chart tells.
unfoldable pub value_of : ℕ → ℕ
value_of c = pick (ltb c 48) 3 (pick (ltb c 65) (c - 44) (pick (ltb c 91) (c - 51) 3))

-- a chart has the character at its value, as a test; and the chart, as a test and as a fact
abbrev pub is_in : List ℕ → ℕ → Bool
is_in chart c = eqb (char_in chart (value_of c)) c

abbrev pub in_chart : ℕ → Bool
in_chart c = is_in the_chart c

abbrev pub InChart : ℕ → Type 0
InChart c = char (value_of c) ≡ c
