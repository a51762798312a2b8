-- The structs of the C face for whole seals, field by field: each holds what the layer beneath answers, and nothing is lost on the way
-- (Kept.antt beside this file).
-- Assumes nothing.
use Rattle.std.specs.Prelude.{ℕ}
use Rattle.fields.specs.declared.Header.{Header}
use Rattle.reading.specs.declared.Ends.{Ends}
use Rattle.reading.specs.declared.Part.{Part}
use Rattle.reading.specs.declared.Reading.{Reading}
use Rattle.face.specs.Face.{date_of, inner_date}
use Rattle.face_seals.specs.declared.FrHeader.{FrHeader}
use Rattle.face_seals.specs.declared.FrEnds.{FrEnds}
use Rattle.face_seals.specs.declared.FrPart.{FrPart}
use Rattle.face_seals.specs.declared.FrReading.{FrReading}

-- outwards: what a call beneath answers, as the face gives it
abbrev pub header_of : Header → FrHeader
header_of h =
    record {
      version = h.version;
      country = h.country;
      length = h.length;
      issued_on = date_of h.issued;
      signed_on = date_of h.signed;
      definition = h.definition;
      category = h.category;
    }

abbrev pub ends_of : Ends → FrEnds
ends_of e = record { header = e.header; message = e.message; seal = e.seal }

abbrev pub part_of : Part → FrPart
part_of p = record { place = p.place; length = p.length }

-- a reading, and the front part of its input beside it
abbrev pub reading_of : Reading → ℕ → FrReading
reading_of r front =
    record {
      number = r.number;
      place = r.place;
      header = header_of r.header;
      ends = ends_of r.ends;
      signature = part_of r.signature;
      count = r.count;
      front = front;
    }

-- inwards: what the face is given, as the call beneath takes it
abbrev pub inner_header : FrHeader → Header
inner_header h =
    record {
      version = h.version;
      country = h.country;
      length = h.length;
      issued = inner_date h.issued_on;
      signed = inner_date h.signed_on;
      definition = h.definition;
      category = h.category;
    }
