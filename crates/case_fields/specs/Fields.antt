-- The fields of a reading but number and place, and when two readings are the same.
-- Assumes nothing.
use Rattle.std.specs.Prelude.{ℕ, ◌<◌, ◌≡◌, List, [], ◌∷◌, get_or}
use Rattle.reading.specs.declared.Reading.{Reading}

-- in their order, the country as three numbers
abbrev pub fields_of : Reading → List ℕ
fields_of r =
    let h = r.header in
    h.version ∷ get_or h.country 0 0 ∷ get_or h.country 1 0 ∷ get_or h.country 2 0 ∷ h.length
    ∷ h.issued.month ∷ h.issued.day ∷ h.issued.year ∷ h.signed.month ∷ h.signed.day ∷ h.signed.year
    ∷ h.definition ∷ h.category ∷ r.ends.header ∷ r.ends.message ∷ r.ends.seal
    ∷ r.signature.place ∷ r.signature.length ∷ r.count ∷ []

-- two lists have the same nineteen numbers
abbrev pub Same : List ℕ → List ℕ → Type 0
Same a b = (i : ℕ) → i < 19 → get_or a i 0 ≡ get_or b i 0

-- two readings are the same in number, place and every other field
abbrev pub Alike : Reading → Reading → Type 0
Alike a b = (a.number ≡ b.number) × ((a.place ≡ b.place) × (fields_of a ≡ fields_of b))
