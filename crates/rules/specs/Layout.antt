-- The items of a seal in the order of document 01's Layout: the rules of each, in the order in which they are judged, and which item
-- follows, and where.
-- Assumes nothing.
use Rattle.std.specs.Prelude.{◌≡◌, ℕ, ◌+◌, List, [], ◌∷◌, ◌++◌, length, get_or}
use Rattle.format.specs.Bytes.{All}
use Rattle.c40.specs.Text.{width}
use Rattle.der.specs.Length.{Sized, form}
use Rattle.versions.specs.Versions.{version_byte}
use Rattle.grammar.specs.Content.{Version, three, four}
use Rattle.grammar.specs.Publish.{length_of}
use Rattle.causes.specs.declared.Item.{Item as Name}
use Rattle.causes.specs.declared.Item.TheVariants as name
use Rattle.rules.specs.Rules.{Here, Carries, Digits, Rule, Keeps}

-- An item, with what the items before have settled: the version, the reference's length, the tags used, the length of a value or of the
-- signature. Version 3 has one item for signer and reference, version 4 two.
pub data Item : Type 0 where
  seal : Item
  mark : Item
  version : Item
  country : Version → Item
  names : Item
  signer_and_length : Item
  reference : ℕ → Item
  issued : Version → Item
  signed : Version → Item
  definition : Version → Item
  category : Version → Item
  tag : Version → List ℕ → Item
  value_length : Version → List ℕ → Item
  value : Version → List ℕ → ℕ → Item
  signature_length : Item
  signature : ℕ → Item
  end : Item

-- a DER length: first byte there, then judged, then the rest there, then the shortest
abbrev pub der_rules : List Rule
der_rules = Rule.there 1 ∷ Rule.begins_length ∷ Rule.rest_there ∷ Rule.shortest ∷ []

-- the rules of each item, in order
abbrev pub rules_of : Item → List Rule
rules_of Item.seal = Rule.not_too_long ∷ []
rules_of Item.mark = Rule.there 1 ∷ Rule.is_mark ∷ []
rules_of Item.version = Rule.there 1 ∷ Rule.is_version ∷ []
rules_of (Item.country v) = Rule.there 2 ∷ Rule.well_coded 3 ∷ Rule.country_code ∷ []
rules_of Item.names = Rule.there 6 ∷ Rule.well_coded 9 ∷ Rule.signer_characters 9 ∷ Rule.reference_characters 9 4 ∷ []
rules_of Item.signer_and_length =
    Rule.there 4 ∷ Rule.well_coded 6 ∷ Rule.signer_characters 6 ∷ Rule.hexadecimal_digits ∷ Rule.not_zero ∷ []
rules_of (Item.reference n) = Rule.there (width n) ∷ Rule.well_coded n ∷ Rule.reference_characters n 0 ∷ []
rules_of (Item.issued v) = Rule.there 3 ∷ Rule.is_day ∷ []
rules_of (Item.signed v) = Rule.there 3 ∷ Rule.is_day ∷ []
rules_of (Item.definition v) = Rule.there 1 ∷ Rule.one_to254 ∷ []
rules_of (Item.category v) = Rule.there 1 ∷ Rule.one_to254 ∷ []
rules_of (Item.tag v tags) = Rule.there 1 ∷ Rule.not_used_before tags ∷ []
-- one plain byte in version 3, a DER length in version 4
rules_of (Item.value_length three tags) = Rule.there 1 ∷ []
rules_of (Item.value_length four tags) = der_rules
rules_of (Item.value v tags n) = Rule.there n ∷ []
rules_of Item.signature_length = der_rules ++ (Rule.signature_size ∷ [])
rules_of (Item.signature n) = Rule.there n ∷ []
rules_of Item.end = Rule.nothing_after ∷ []

-- Which item follows an item that keeps its rules, and where it stands: said from the bytes of that item.
pub data Follows (s : List ℕ) : Item → ℕ → Item → ℕ → Type 0 where
  to_mark : (p : ℕ) → Follows s Item.seal p Item.mark p
  to_version : (p : ℕ) → Follows s Item.mark p Item.version (p + 1)
  to_country : (p : ℕ) (v : Version) → get_or s p 0 ≡ version_byte v → Follows s Item.version p (Item.country v) (p + 1)
  -- version 3: nine characters
  to_names : (p : ℕ) → Follows s (Item.country three) p Item.names (p + 2)
  to_issued_3 : (p : ℕ) → Follows s Item.names p (Item.issued three) (p + 6)
  -- version 4: six characters, which give the reference's length, and the reference
  to_signer : (p : ℕ) → Follows s (Item.country four) p Item.signer_and_length (p + 2)
  to_reference : (p n : ℕ) → Carries s p 6 (Digits n) → Follows s Item.signer_and_length p (Item.reference n) (p + 4)
  to_issued_4 : (p n : ℕ) → Follows s (Item.reference n) p (Item.issued four) (p + width n)
  to_signed : (p : ℕ) (v : Version) → Follows s (Item.issued v) p (Item.signed v) (p + 3)
  to_definition : (p : ℕ) (v : Version) → Follows s (Item.signed v) p (Item.definition v) (p + 3)
  to_category : (p : ℕ) (v : Version) → Follows s (Item.definition v) p (Item.category v) (p + 1)
  to_tag : (p : ℕ) (v : Version) → Follows s (Item.category v) p (Item.tag v []) (p + 1)
  -- a feature, whose tag is used from then on
  to_length : (p : ℕ) (v : Version) (tags : List ℕ) → (get_or s p 0 ≡ 0xFF → ⊥)
      → Follows s (Item.tag v tags) p (Item.value_length v (get_or s p 0 ∷ tags)) (p + 1)
  to_value : (p : ℕ) (v : Version) (tags : List ℕ) (n : ℕ) → Sized n → Here s p (length_of v n)
      → Follows s (Item.value_length v tags) p (Item.value v tags n) (p + length (length_of v n))
  to_next : (p : ℕ) (v : Version) (tags : List ℕ) (n : ℕ) → Follows s (Item.value v tags n) p (Item.tag v tags) (p + n)
  -- or FF, and the signature
  to_signature_length : (p : ℕ) (v : Version) (tags : List ℕ) → get_or s p 0 ≡ 0xFF
      → Follows s (Item.tag v tags) p Item.signature_length (p + 1)
  to_signature : (p n : ℕ) → Sized n → Here s p (form n) → Follows s Item.signature_length p (Item.signature n) (p + length (form n))
  to_end : (p n : ℕ) → Follows s (Item.signature n) p Item.end (p + n)

-- An item stands at a place: each item before keeps each of its rules, and the next one follows.
pub data At (s : List ℕ) : Item → ℕ → Type 0 where
  start : At s Item.seal 0
  on : {i j : Item} {p q : ℕ} → At s i p → All (Keeps s p) (rules_of i) → Follows s i p j q → At s j q

-- the name of an item, by which its code is known
abbrev pub named : Item → Name
named Item.seal = name.Seal
named Item.mark = name.Mark
named Item.version = name.Version
named (Item.country v) = name.Country
named Item.names = name.Names
named Item.signer_and_length = name.SignerAndLength
named (Item.reference n) = name.Reference (width n)
named (Item.issued v) = name.Issued
named (Item.signed v) = name.Signed
named (Item.definition v) = name.Definition
named (Item.category v) = name.Category
named (Item.tag v tags) = name.Tag
named (Item.value_length v tags) = name.Length
named (Item.value v tags n) = name.Value
named Item.signature_length = name.SignatureLength
named (Item.signature n) = name.Signature
named Item.end = name.End
