-- The characters of country, signer and reference (document 01, Layout), as tests.
-- Assumes nothing.
pub mod Laws
pub mod Grammar
pub mod Pins
use Rattle.std.specs.Prelude.{Bool, true, ℕ, List, [], ◌∷◌, eqb, take, drop, get_or}
use Rattle.format.specs.Choice.{pick, both, either, within}

abbrev pub is_letter : ℕ → Bool
is_letter = within 65 90

abbrev pub is_digit : ℕ → Bool
is_digit = within 48 57

abbrev pub is_letter_or_digit : ℕ → Bool
is_letter_or_digit c = either (is_letter c) (is_digit c)

-- Which characters a reference may have: the test of the grammar's `ReferenceCharacter`. Nothing else goes by it.
abbrev pub is_reference : ℕ → Bool
is_reference c = is_letter_or_digit c

abbrev pub all : (ℕ → Bool) → List ℕ → Bool
all test [] = true
all test (c ∷ t) = both (test c) (all test t)

-- a country, fillers as this character: a letter first, letters or fillers, and no letter after a filler
abbrev pub is_country : ℕ → List ℕ → Bool
is_country filler t =
    both (is_letter (get_or t 0 0))
    (either (both (is_letter (get_or t 1 0)) (either (is_letter (get_or t 2 0)) (eqb (get_or t 2 0) filler)))
    (both (eqb (get_or t 1 0) filler) (eqb (get_or t 2 0) filler)))

-- two letters, then two letters or digits
abbrev pub is_signer : List ℕ → Bool
is_signer t = both (all is_letter (take 2 t)) (all is_letter_or_digit (drop 2 t))

-- fillers are given as `<`
abbrev pub shown : ℕ → ℕ
shown c = pick (eqb c 32) 60 c
