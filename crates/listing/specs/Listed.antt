-- The listing of a verdict (document 01, "A whole seal and its listing"), line by line as the example there has it.
-- Assumes nothing.
pub mod Laws
use Rattle.std.specs.Prelude.{◌≡◌, ℕ, List, [], ◌∷◌, take}
use Rattle.versions.specs.Versions.{version_number}
use Rattle.rows.specs.declared.Row.{Row}
use Rattle.verdict.specs.Judge.{Verdict, accepted, refused, judge}
use Rattle.lines.specs.Line.{decimal_of, ascii, ◌then◌}
use Rattle.list_lines.specs.ListLine.{line, day}

-- where a part of the seal stands
abbrev pub part : ℕ → ℕ → List ℕ
part place size = ascii " at " then decimal_of place then ascii " length " then decimal_of size

abbrev pub feature : ℕ → ℕ → ℕ → List ℕ
feature tag place size = line "feature " (decimal_of tag then part place size)

-- a line a feature, in the seal's order
unfoldable pub feature_lines : List Row → List ℕ
feature_lines [] = []
feature_lines (r ∷ rows) = feature r.tag r.place r.size then feature_lines rows

-- an accepted seal's lines, or the one line of a refusal
unfoldable pub listed : Verdict → List ℕ
listed (accepted r) =
    line "accepted" []
    then line "version " (decimal_of (version_number r.header.version))
    then line "country " r.header.country
    then line "signer " r.header.signer
    then line "reference " r.header.reference
    then line "issued " (day r.header.issued)
    then line "signed " (day r.header.signed)
    then line "definition " (decimal_of r.header.definition)
    then line "category " (decimal_of r.header.category)
    then feature_lines r.rows
    then line "signature" (part r.signature_place r.signature_size_lem)
listed (refused number place) = line "refused " (decimal_of number then ascii " at " then decimal_of place)

-- reading so many bytes of an input is enough: what is listed of them is what is listed of all
pub record Enough (n : ℕ) : Type 0 where
  pub same : (s : List ℕ) → listed (judge (take n s)) ≡ listed (judge s)
