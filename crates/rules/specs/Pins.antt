-- The rules of each item in the order in which they are judged, by their codes and by the numbers that are answered.
-- Assumes nothing.
use Rattle.std.specs.Prelude.{◌≡◌, refl, ℕ, List, [], ◌∷◌, map}
use Rattle.grammar.specs.Content.{three, four}
use Rattle.causes.specs.Causes.{rule_code}
use Rattle.rules.specs.Rules.{called, number_of}
use Rattle.rules.specs.Layout.{Item, rules_of}

abbrev codes : Item → List ℕ
codes i = map (λ r. rule_code (called r)) (rules_of i)

abbrev numbers : Item → List ℕ
numbers i = map number_of (rules_of i)

before_names : map codes (Item.seal ∷ Item.mark ∷ Item.version ∷ Item.country three ∷ [])
    ≡ (1 ∷ []) ∷ (2 ∷ 3 ∷ []) ∷ (2 ∷ 4 ∷ []) ∷ (2 ∷ 5 ∷ 12 ∷ []) ∷ []
before_names = refl

names : map codes (Item.names ∷ Item.signer_and_length ∷ Item.reference 12 ∷ [])
    ≡ (2 ∷ 5 ∷ 13 ∷ 14 ∷ []) ∷ (2 ∷ 5 ∷ 13 ∷ 15 ∷ 16 ∷ []) ∷ (2 ∷ 5 ∷ 14 ∷ []) ∷ []
names = refl

names_numbers : map numbers (Item.country four ∷ Item.names ∷ Item.signer_and_length ∷ Item.reference 12 ∷ [])
    ≡ (2 ∷ 5 ∷ 5 ∷ []) ∷ (2 ∷ 5 ∷ 5 ∷ 5 ∷ []) ∷ (2 ∷ 5 ∷ 5 ∷ 5 ∷ 5 ∷ []) ∷ (2 ∷ 5 ∷ 5 ∷ []) ∷ []
names_numbers = refl

after_names : map codes (Item.issued three ∷ Item.signed four ∷ Item.definition three ∷ Item.category four ∷ [])
    ≡ (2 ∷ 6 ∷ []) ∷ (2 ∷ 6 ∷ []) ∷ (2 ∷ 7 ∷ []) ∷ (2 ∷ 7 ∷ []) ∷ []
after_names = refl

features : map codes (Item.tag three [] ∷ Item.value_length three [] ∷ Item.value_length four [] ∷ Item.value four [] 9 ∷ [])
    ≡ (2 ∷ 9 ∷ []) ∷ (2 ∷ []) ∷ (2 ∷ 8 ∷ 17 ∷ 18 ∷ []) ∷ (2 ∷ []) ∷ []
features = refl

signature : map codes (Item.signature_length ∷ Item.signature 56 ∷ Item.end ∷ []) ≡ (2 ∷ 8 ∷ 17 ∷ 18 ∷ 10 ∷ []) ∷ (2 ∷ []) ∷ (11 ∷ []) ∷ []
signature = refl

signature_numbers : map numbers (Item.value_length four [] ∷ Item.signature_length ∷ [])
    ≡ (2 ∷ 8 ∷ 2 ∷ 8 ∷ []) ∷ (2 ∷ 8 ∷ 2 ∷ 8 ∷ 10 ∷ []) ∷ []
signature_numbers = refl
