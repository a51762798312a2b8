-- Nothing is lost on the way: from each struct of whole seals, what it was made of comes back whole.
-- Assumes nothing.
use Rattle.std.specs.Prelude.{◌≡◌, refl, ℕ}
use Rattle.fields.specs.declared.Header.{Header}
use Rattle.reading.specs.declared.Reading.{Reading}
use Rattle.face_seals.specs.declared.FrHeader.{FrHeader}
use Rattle.face_seals.specs.declared.FrReading.{FrReading}
use Rattle.face_seals.specs.Face.{header_of, reading_of, inner_header}

-- a header, out and in, and in and out
pub header_kept : (h : Header) → inner_header (header_of h) ≡ h
header_kept h = refl

pub header_back : (h : FrHeader) → header_of (inner_header h) ≡ h
header_back h = refl

-- a reading
abbrev pub reading_in : FrReading → Reading
reading_in f =
    record {
      number = f.number;
      place = f.place;
      header = inner_header f.header;
      ends = record { header = f.ends.header; message = f.ends.message; seal = f.ends.seal };
      signature = record { place = f.signature.place; length = f.signature.length };
      count = f.count;
    }

pub reading_kept : (r : Reading) (front : ℕ) → reading_in (reading_of r front) ≡ r
reading_kept r front = refl

pub front_kept : (r : Reading) (front : ℕ) → (reading_of r front).front ≡ front
front_kept r front = refl
