-- The value of a tag among the features of a content: what it is to have one, and that a legal content has one at the most.
-- Assumes nothing.
use Rattle.std.specs.Prelude.{◌≡◌, ◌⊎◌, ℕ, List, [], ◌∷◌, Result, Ok, Err, eqb}
use Rattle.std.proofs.Math.Option.{Option, none, some}
use Rattle.format.specs.Choice.{pick}
use Rattle.grammar.specs.Content.{Feature, Content}
use Rattle.verdict.specs.Report.{part}
use Rattle.shown.specs.declared.Where.{Where}
use Rattle.shown.specs.declared.Where.TheVariants.{Extension, Main}
use Rattle.shown.specs.declared.NotShown.{NotShown}
use Rattle.shown.specs.Where.{answer_of}

-- one of these features has this tag and this value
abbrev pub Has : ℕ → List ℕ → List Feature → Type 0
Has tag value [] = ⊥
Has tag value (f ∷ fs) = ((f.tag ≡ tag) × (f.value ≡ value)) ⊎ Has tag value fs

-- the value of the first with a tag
abbrev pub value_of : ℕ → List Feature → Option (List ℕ)
value_of tag [] = none
value_of tag (f ∷ fs) = pick (eqb f.tag tag) (some f.value) (value_of tag fs)

-- what a caller is told and sees: the number, which seal it is out of (1 the main one, 2 the extension), and the bytes of the part
pub record Seen : Type 0 where
  pub number : ℕ
  pub which : ℕ
  pub bytes : List ℕ

-- the bytes of the part that is shown of two seals
abbrev pub bytes_of : List ℕ → List ℕ → Result Where NotShown → List ℕ
bytes_of main extension (Ok (Extension value)) = part value.place value.length extension
bytes_of main extension (Ok (Main value)) = part value.place value.length main
bytes_of main extension (Err e) = []

abbrev pub seen : List ℕ → List ℕ → Result Where NotShown → Seen
seen main extension w =
    record { number = (answer_of w).number; which = (answer_of w).which; bytes = bytes_of main extension w }

-- and by the contents: out of the extension if it has that feature, otherwise out of the main seal, or 50
abbrev pub seen_of : Option (List ℕ) → Option (List ℕ) → Seen
seen_of (some value) other = record { number = 0; which = 2; bytes = value }
seen_of none (some value) = record { number = 0; which = 1; bytes = value }
seen_of none none = record { number = 50; which = 0; bytes = [] }

abbrev pub seen_in : Content → Content → ℕ → Seen
seen_in main extension tag = seen_of (value_of tag extension.features) (value_of tag main.features)
