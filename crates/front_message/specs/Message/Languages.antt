-- What may stand behind each item of the message and signature zones.
-- Assumes nothing.
use Rattle.std.specs.Prelude.{◌≡◌, List, ◌∷◌, ◌++◌, ℕ, length}
use Rattle.format.specs.Bytes.{Bytes}
use Rattle.der.specs.Length.{form}
use Rattle.grammar.specs.Content.{Version, Feature}
use Rattle.grammar.specs.Publish.{length_of, message_zone}
use Rattle.grammar.specs.Legal.{ValueSize, LegalFeatures, SignatureSize}

-- behind a signature's length: its bytes
abbrev pub Raw : ℕ → List ℕ → Type 0
Raw n t = (length t ≡ n) × Bytes t

-- behind FF: a length and a signature
pub record Sig (t : List ℕ) : Type 0 where
  pub sig : List ℕ
  pub size : SignatureSize (length sig)
  pub bytes : Bytes sig
  pub is : form (length sig) ++ sig ≡ t

-- behind the features whose tags are `used`
pub record Msg (v : Version) (used : List ℕ) (t : List ℕ) : Type 0 where
  pub fs : List Feature
  pub legal : LegalFeatures v used fs
  pub tail : List ℕ
  pub sig : Sig tail
  pub is : message_zone v fs ++ (0xFF ∷ tail) ≡ t

-- behind a length n: a value, and more
pub record Value (v : Version) (used : List ℕ) (n : ℕ) (t : List ℕ) : Type 0 where
  pub value : List ℕ
  pub size : length value ≡ n
  pub bytes : Bytes value
  pub rest : List ℕ
  pub more : Msg v used rest
  pub is : value ++ rest ≡ t

-- behind a tag: a length, a value, and more
pub record Tagged (v : Version) (used : List ℕ) (t : List ℕ) : Type 0 where
  pub n : ℕ
  pub fits : ValueSize v n
  pub rest : List ℕ
  pub more : Value v used n rest
  pub is : length_of v n ++ rest ≡ t
