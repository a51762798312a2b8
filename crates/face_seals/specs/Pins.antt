-- Computed examples of the structs: a header and a reading in which no two fields are alike.
-- Assumes nothing.
use Rattle.std.specs.Prelude.{◌≡◌, refl, [], ◌∷◌}
use Rattle.fields.specs.declared.Header.{Header}
use Rattle.face_seals.specs.declared.FrHeader.{FrHeader}
use Rattle.face_seals.specs.Face.{header_of, reading_of, inner_header}

abbrev header : Header
header = record {
  version = 4;
  country = 68 ∷ 60 ∷ 61 ∷ [];
  length = 7;
  issued = record { month = 1; day = 2; year = 3 };
  signed = record { month = 12; day = 31; year = 9999 };
  definition = 8;
  category = 9;
}

abbrev face : FrHeader
face = record {
  version = 4;
  country = 68 ∷ 60 ∷ 61 ∷ [];
  length = 7;
  issued_on = record { month = 1; day = 2; year = 3 };
  signed_on = record { month = 12; day = 31; year = 9999 };
  definition = 8;
  category = 9;
}

header_out : header_of header ≡ face
header_out = refl

header_in : inner_header face ≡ header
header_in = refl

reading_out :
    reading_of
    (record {
      number = 10;
      place = 11;
      header = header;
      ends = record { header = 13; message = 14; seal = 15 };
      signature = record { place = 16; length = 17 };
      count = 18;
    })
    19
    ≡ record {
      number = 10;
      place = 11;
      header = face;
      ends = record { header = 13; message = 14; seal = 15 };
      signature = record { place = 16; length = 17 };
      count = 18;
      front = 19;
    }
reading_out = refl
