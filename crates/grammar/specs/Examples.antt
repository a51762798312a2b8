-- Contents to compute with: Seal A of document 01, the names of its version 4 examples, and one content more of each version.
-- Assumes nothing.
use Rattle.std.specs.Prelude.{ℕ, List, [], ◌∷◌, ◌++◌, replicate}
use Rattle.dates.specs.Days.{first_day, last_day}
use Rattle.dates.specs.declared.Date.{Date}
use Rattle.grammar.specs.Content.{three, four, Header, Feature, Content}

-- UTO, UTAB, 00001, D<<
abbrev pub uto : List ℕ
uto = 85 ∷ 84 ∷ 79 ∷ []

abbrev pub utab : List ℕ
utab = 85 ∷ 84 ∷ 65 ∷ 66 ∷ []

abbrev pub ref_00001 : List ℕ
ref_00001 = 48 ∷ 48 ∷ 48 ∷ 48 ∷ 49 ∷ []

abbrev pub d_fillers : List ℕ
d_fillers = 68 ∷ 60 ∷ 60 ∷ []

-- 25 March 1957
abbrev pub spring : Date
spring = record { month = 3; day = 25; year = 1957 }

abbrev pub header_a : Header
header_a = record {
  version = three;
  country = uto;
  signer = utab;
  reference = ref_00001;
  issued = spring;
  signed = spring;
  definition = 1;
  category = 2;
}

-- feature 10 is VISA01 in C40
abbrev pub visa01 : Feature
visa01 = record { tag = 10; value = 0xDE ∷ 0x51 ∷ 0x58 ∷ 0x26 ∷ [] }

abbrev pub content_a : Content
content_a = record { header = header_a; features = visa01 ∷ []; signature = replicate 56 0xAA }

abbrev pub seal_a : List ℕ
seal_a =
    (0xDC ∷ 0x02 ∷ 0xD9 ∷ 0xC5 ∷ 0xD9 ∷ 0xB7 ∷ 0x5E ∷ 0x65 ∷ 0x19 ∷ 0xA6 ∷ 0x31 ∷ 0x9E ∷ 0xF5 ∷ 0x31 ∷ 0x9E ∷ 0xF5 ∷ 0x01 ∷ 0x02 ∷ 0x0A
    ∷ 0x04 ∷ 0xDE ∷ 0x51 ∷ 0x58 ∷ 0x26 ∷ 0xFF ∷ 0x38 ∷ [])
    ++ replicate 56 0xAA

-- B, version 4: D<<, AZ09, F9A0ABCDEF, issued on the last day and signed on the first, 254 and 1; features 254 and then
-- 0; 128 signature bytes
abbrev pub header_b : Header
header_b = record {
  version = four;
  country = d_fillers;
  signer = 65 ∷ 90 ∷ 48 ∷ 57 ∷ [];
  reference = 70 ∷ 57 ∷ 65 ∷ 48 ∷ 65 ∷ 66 ∷ 67 ∷ 68 ∷ 69 ∷ 70 ∷ [];
  issued = last_day;
  signed = first_day;
  definition = 254;
  category = 1;
}

abbrev pub content_b : Content
content_b = record {
  header = header_b;
  features = record { tag = 254; value = replicate 128 7 } ∷ record { tag = 0; value = [] } ∷ [];
  signature = replicate 128 0xAA;
}

abbrev pub signed_b : List ℕ
signed_b =
    (0xDC ∷ 0x03 ∷ 0x6A ∷ 0xBC ∷ 0x5D ∷ 0x9D ∷ 0x51 ∷ 0xEF ∷ 0x78 ∷ 0xD7 ∷ 0x1B ∷ 0x40 ∷ 0x66 ∷ 0xBB ∷ 0xFE ∷ 0x47 ∷ 0xBB ∷ 0xFC ∷ 0xFF
    ∷ 0x0F ∷ 0x69 ∷ 0x51 ∷ 0xFE ∷ 0x01 ∷ [])
    ++ (0xFE ∷ 0x81 ∷ 0x80 ∷ replicate 128 7)
    ++ (0x00 ∷ 0x00 ∷ [])

-- C, version 3: DK<, ZA9Z, 0A9FB, issued on the first day and signed on the last, 1 and 254; features of 128, 255 and 0
-- bytes; 132 signature bytes
abbrev pub dk : List ℕ
dk = 68 ∷ 75 ∷ 60 ∷ []

abbrev pub header_c : Header
header_c = record {
  version = three;
  country = dk;
  signer = 90 ∷ 65 ∷ 57 ∷ 90 ∷ [];
  reference = 48 ∷ 65 ∷ 57 ∷ 70 ∷ 66 ∷ [];
  issued = first_day;
  signed = last_day;
  definition = 1;
  category = 254;
}

abbrev pub content_c : Content
content_c = record {
  header = header_c;
  features =
      record { tag = 254; value = replicate 128 7 } ∷ record { tag = 0; value = replicate 255 7 } ∷ record { tag = 3; value = [] } ∷ [];
  signature = replicate 132 0xAA;
}

abbrev pub signed_c : List ℕ
signed_c =
    (0xDC ∷ 0x02 ∷ 0x6E ∷ 0x04 ∷ 0xF5 ∷ 0xFE ∷ 0xF4 ∷ 0x6F ∷ 0x54 ∷ 0x48 ∷ 0x0F ∷ 0x69 ∷ 0x51 ∷ 0xBB ∷ 0xFC ∷ 0xFF ∷ 0x01 ∷ 0xFE ∷ [])
    ++ (0xFE ∷ 0x80 ∷ replicate 128 7)
    ++ (0x00 ∷ 0xFF ∷ replicate 255 7)
    ++ (0x03 ∷ 0x00 ∷ [])

-- Seal A's header with a field changed
abbrev pub with_last : ℕ → ℕ → Header
with_last definition category = record {
  version = three;
  country = uto;
  signer = utab;
  reference = ref_00001;
  issued = spring;
  signed = spring;
  definition = definition;
  category = category;
}

abbrev pub with_names : List ℕ → List ℕ → List ℕ → Header
with_names country signer reference = record {
  version = three;
  country = country;
  signer = signer;
  reference = reference;
  issued = spring;
  signed = spring;
  definition = 1;
  category = 2;
}

abbrev pub with_dates : Date → Date → Header
with_dates issued signed = record {
  version = three;
  country = uto;
  signer = utab;
  reference = ref_00001;
  issued = issued;
  signed = signed;
  definition = 1;
  category = 2;
}

-- Seal A with other features, and with another signature
abbrev pub with_features : List Feature → Content
with_features fs = record { header = header_a; features = fs; signature = replicate 56 0xAA }

abbrev pub with_signature : List ℕ → Content
with_signature s = record { header = header_a; features = visa01 ∷ []; signature = s }

-- version 4, reference 7, one value of n bytes
abbrev pub header_7 : Header
header_7 = record {
  version = four;
  country = uto;
  signer = utab;
  reference = 55 ∷ [];
  issued = spring;
  signed = spring;
  definition = 1;
  category = 2;
}

abbrev pub sized : ℕ → Content
sized n = record { header = header_7; features = record { tag = 10; value = replicate n 0 } ∷ []; signature = replicate 56 0xAA }
