-- Which pairs a header may have at each of its places, and with which first bytes they begin (document 02, Ticket 12; document 01, Layout
-- and C40). A character is told by its value: the filler is carried as a space and is 3, digits are 4 to 13, letters 14 to 39.
-- Assumes nothing.
pub mod Laws
use Rattle.std.specs.Prelude.{Bool, false, ℕ, ◌+◌, ◌-◌, ◌*◌, ◌%◌, List, [], ◌∷◌, ltb, leb, eqb}
use Rattle.format.specs.Choice.{pick, both, either, within}
use Rattle.pairs.specs.Pairs.{number, first, second, third}
use Rattle.front_pairs.specs.declared.Kind.{Kind}
use Rattle.front_pairs.specs.declared.Kind.TheVariants.{Country, Signer, Triple, Length, Two, One}

abbrev pub is_filler : ℕ → Bool
is_filler v = eqb v 3

abbrev pub is_letter : ℕ → Bool
is_letter v = leb 14 v

abbrev pub is_letter_or_digit : ℕ → Bool
is_letter_or_digit v = leb 4 v

-- 0 to 9 and A to F
abbrev pub is_hexadecimal : ℕ → Bool
is_hexadecimal v = within 4 19 v

-- three values that may stand there
abbrev pub kept : Kind → ℕ → ℕ → ℕ → Bool
kept Country a b c =
    both (is_letter a)
    (either (both (is_letter b) (either (is_letter c) (is_filler c)))
    (both (is_filler b) (is_filler c)))
kept Signer a b c = both (is_letter a) (both (is_letter b) (is_letter_or_digit c))
kept Triple a b c = both (is_letter_or_digit a) (both (is_letter_or_digit b) (is_letter_or_digit c))
-- the digits are not 00
kept Length a b c = both (is_letter_or_digit a) (both (is_hexadecimal b) (both (is_hexadecimal c) (ltb 8 (b + c))))
-- two left over are completed with 0
kept Two a b c = both (is_letter_or_digit a) (both (is_letter_or_digit b) (eqb c 0))
kept One a b c = false

-- one left over is FE and its ASCII code plus 1
abbrev pub is_single : ℕ → ℕ → Bool
is_single x y = both (eqb x 0xFE) (either (within 49 58 y) (within 66 91 y))

-- a number whose three values may stand there
abbrev pub kept_by : Kind → ℕ → Bool
kept_by kind n = both (within 1 64000 n) (kept kind (first n) (second n) (third n))

-- a pair that may stand there
unfoldable pub fits : Kind → ℕ → ℕ → Bool
fits Country x y = kept_by Country (number x y)
fits Signer x y = kept_by Signer (number x y)
fits Triple x y = kept_by Triple (number x y)
fits Length x y = kept_by Length (number x y)
fits Two x y = kept_by Two (number x y)
fits One x y = is_single x y

-- The numbers of one first value lie 1,600 together, and those that fit lie in runs longer than 256, with gaps of less than 256. So one of
-- the 256 numbers of a first byte fits exactly where the first or the last of them lies in a run; which numbers of the 1,600 do, and beside
-- them those from which the country's two fillers, at 123, are reached.
abbrev pub place : ℕ → ℕ
place n = (n - 1) % 1600

abbrev pub reached_in : Kind → Bool → ℕ → Bool
reached_in Country filled o = either filled (leb 563 o)
reached_in Signer filled o = leb 564 o
reached_in Triple filled o = leb 164 o
reached_in Length filled o = within 165 779 o
reached_in Two filled o = within 160 1560 o
reached_in One filled o = false

abbrev pub starts_in : Kind → ℕ → Bool
starts_in kind o = reached_in kind (leb o 123) o

abbrev pub ends_in : Kind → ℕ → Bool
ends_in kind o = reached_in kind (within 123 378 o) o

-- the first of three values: a letter in country and signer, else a letter or digit
abbrev pub leads : Kind → ℕ → Bool
leads Country a = within 14 39 a
leads Signer a = within 14 39 a
leads Triple a = within 4 39 a
leads Length a = within 4 39 a
leads Two a = within 4 39 a
leads One a = false

abbrev pub reaches : Kind → ℕ → ℕ → Bool
reaches kind low high =
    either
    (both (leads kind (first low)) (starts_in kind (place low)))
    (both (leads kind (first high)) (ends_in kind (place high)))

-- a first byte with which such a pair begins
unfoldable pub opens : Kind → ℕ → Bool
opens Country x = reaches Country (number x 0) (number x 255)
opens Signer x = reaches Signer (number x 0) (number x 255)
opens Triple x = reaches Triple (number x 0) (number x 255)
opens Length x = reaches Length (number x 0) (number x 255)
opens Two x = reaches Two (number x 0) (number x 255)
opens One x = eqb x 0xFE

-- how many of some bytes can be completed to such a pair
unfoldable pub pair_front : Kind → List ℕ → ℕ
pair_front kind [] = 0
pair_front kind (x ∷ []) = pick (opens kind x) 1 0
pair_front kind (x ∷ y ∷ s) = pick (fits kind x y) 2 (pick (opens kind x) 1 0)

-- the length that the two digits of a pair give
abbrev pub length_in : ℕ → ℕ → ℕ
length_in x y = 16 * (second (number x y) - 4) + (third (number x y) - 4)
