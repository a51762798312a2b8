-- Which contents are legal: document 01's rules for fields, features and sizes, one a line.
-- Assumes nothing.
use Rattle.std.specs.Prelude.{◌≡◌, ◌⊎◌, ℕ, ◌+◌, ◌≤◌, ◌<◌, List, [], ◌∷◌, length, get_or}
use Rattle.format.specs.Bytes.{Bytes, All}
use Rattle.dates.specs.Days.{Day}
use Rattle.grammar.specs.Content.{Version, three, four, Header, Feature, Content}
use Rattle.grammar.specs.Publish.{publish}

abbrev pub Letter : ℕ → Type 0
Letter c = (65 ≤ c) × (c ≤ 90)

abbrev pub Digit : ℕ → Type 0
Digit c = (48 ≤ c) × (c ≤ 57)

abbrev pub LetterOrDigit : ℕ → Type 0
LetterOrDigit c = Letter c ⊎ Digit c

-- `<`
abbrev pub Filler : ℕ → Type 0
Filler c = c ≡ 60

-- Country (Layout): letters and fillers only, a letter first; a letter never follows a filler
pub record Country (t : List ℕ) : Type 0 where
  pub size : length t ≡ 3
  pub letters : All (λ c. Letter c ⊎ Filler c) t
  pub first : Letter (get_or t 0 0)
  pub filled : (i : ℕ) → i < 2 → Filler (get_or t i 0) → Filler (get_or t (i + 1) 0)

-- Signer (Layout): two letters, then two letters or digits
pub record Signer (t : List ℕ) : Type 0 where
  pub size : length t ≡ 4
  pub first : Letter (get_or t 0 0)
  pub second : Letter (get_or t 1 0)
  pub third : LetterOrDigit (get_or t 2 0)
  pub fourth : LetterOrDigit (get_or t 3 0)

-- Which characters a reference may have (Layout): letters and digits
abbrev pub ReferenceCharacter : ℕ → Type 0
ReferenceCharacter c = LetterOrDigit c

-- Certificate reference (Sizes): version 3: 5 characters; version 4: 1 to 255
abbrev pub ReferenceSize : Version → ℕ → Type 0
ReferenceSize three n = n ≡ 5
ReferenceSize four n = (1 ≤ n) × (n ≤ 255)

-- Definition reference and document category (Layout): 1 to 254
abbrev pub LastByte : ℕ → Type 0
LastByte n = (1 ≤ n) × (n ≤ 254)

pub record LegalHeader (h : Header) : Type 0 where
  pub country : Country h.country
  pub signer : Signer h.signer
  pub reference : All ReferenceCharacter h.reference
  pub size : ReferenceSize h.version (length h.reference)
  pub issued : Day h.issued
  pub signed : Day h.signed
  pub definition : LastByte h.definition
  pub category : LastByte h.category

-- Value (Sizes): version 3: 0 to 255 bytes; version 4: 0 and up, as the seal has room
abbrev pub ValueSize : Version → ℕ → Type 0
ValueSize three n = n ≤ 255
ValueSize four n = Unit

-- a tag that is none of these
abbrev pub Unused : ℕ → List ℕ → Type 0
Unused tag used = All (λ t. tag ≡ t → ⊥) used

-- Features (Sizes, Layout): tags 0 to 254, no tag twice; `used` are the tags before
abbrev pub LegalFeatures : Version → List ℕ → List Feature → Type 0
LegalFeatures v used [] = Unit
LegalFeatures v used (f ∷ fs) =
    (f.tag ≤ 254)
    × Unused f.tag used
    × ValueSize v (length f.value)
    × Bytes f.value
    × LegalFeatures v (f.tag ∷ used) fs

-- Signature (Sizes): n is 28, 32, 48, 64 or 66, and the raw length 2n
pub data SignatureSize : ℕ → Type 0 where
  n28 : SignatureSize 56
  n32 : SignatureSize 64
  n48 : SignatureSize 96
  n64 : SignatureSize 128
  n66 : SignatureSize 132

pub record Legal (c : Content) : Type 0 where
  pub header : LegalHeader c.header
  pub features : LegalFeatures c.header.version [] c.features
  pub signature : SignatureSize (length c.signature)
  pub bytes : Bytes c.signature
  -- Seal (Sizes): at most 4,096 bytes
  pub size : length (publish c) ≤ 4096
