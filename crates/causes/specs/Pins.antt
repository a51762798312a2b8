-- The rules by their numbers, from 1 to 11: each list of rules that has one number.
-- Assumes nothing.
use Rattle.std.specs.Prelude.{◌≡◌, refl, List, [], ◌∷◌, map}
use Rattle.causes.specs.declared.Rule.{Rule}
use Rattle.causes.specs.declared.Rule.TheVariants as rule
use Rattle.causes.specs.Causes.{rule_number}

first : map rule_number (rule.NotTooLong ∷ rule.There ∷ rule.RestThere ∷ rule.IsMark ∷ rule.IsVersion ∷ []) ≡ 1 ∷ 2 ∷ 2 ∷ 3 ∷ 4 ∷ []
first = refl

-- 5: country, signer, L or reference wrongly coded or with a wrong character
texts : List Rule
texts = rule.WellCoded ∷ rule.CountryCode ∷ rule.SignerCharacters ∷ rule.ReferenceCharacters ∷ rule.HexadecimalDigits ∷ rule.NotZero ∷ []

five : map rule_number texts ≡ 5 ∷ 5 ∷ 5 ∷ 5 ∷ 5 ∷ 5 ∷ []
unfolding texts
five = refl

-- 8: DER length malformed or not shortest
then : map rule_number (rule.IsDay ∷ rule.OneTo254 ∷ rule.BeginsLength ∷ rule.Shortest ∷ rule.NotUsedBefore ∷ []) ≡ 6 ∷ 7 ∷ 8 ∷ 8 ∷ 9 ∷ []
then = refl

last : map rule_number (rule.SignatureSize ∷ rule.NothingAfter ∷ []) ≡ 10 ∷ 11 ∷ []
last = refl
