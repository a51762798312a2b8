-- The published form of a content, part by part in the order of document 01's Layout (Doc 9303-13, 2.2, Table 1, 2.3 and 2.4).
-- Assumes nothing.
use Rattle.std.specs.Prelude.{ℕ, ◌+◌, ◌/◌, ◌%◌, List, [], ◌∷◌, ◌++◌, map, eqb, length}
use Rattle.format.specs.Choice.{pick}
use Rattle.format.specs.Cut.{counted, each}
use Rattle.format.specs.Hex.{hex_digit}
use Rattle.c40.specs.Text.{publish as c40}
use Rattle.dates.specs.Days.{publish as date}
use Rattle.versions.specs.Versions.{version_byte}
use Rattle.der.specs.Length.{form}
use Rattle.grammar.specs.Content.{Version, three, four, Header, Feature, Content}

-- fillers are carried in C40 as spaces
abbrev pub carried : ℕ → ℕ
carried c = pick (eqb c 60) 32 c

-- two upper-case hexadecimal digits giving a length
abbrev pub hex_digits : ℕ → List ℕ
hex_digits n = hex_digit (n / 16) ∷ hex_digit (n % 16) ∷ []

-- signer and reference. Version 3: nine characters; version 4: signer, the reference's length, the reference
abbrev pub names : Version → List ℕ → List ℕ → List ℕ
names three signer reference = c40 (signer ++ reference)
names four signer reference = c40 (signer ++ hex_digits (length reference) ++ reference)

unfoldable pub header_zone : Header → List ℕ
header_zone h =
    (0xDC ∷ [])
    ++ (version_byte h.version ∷ [])
    ++ c40 (map carried h.country)
    ++ names h.version h.signer h.reference
    ++ date h.issued
    ++ date h.signed
    ++ (h.definition ∷ [])
    ++ (h.category ∷ [])

-- a feature's length is one plain byte in version 3 and a DER length in version 4
abbrev pub length_of : Version → ℕ → List ℕ
length_of three n = n ∷ []
length_of four n = form n

abbrev pub feature : Version → Feature → List ℕ
feature v f = f.tag ∷ counted (length_of v) f.value

unfoldable pub message_zone : Version → List Feature → List ℕ
message_zone v fs = each (feature v) fs

-- FF, a DER length in both versions, the raw signature
unfoldable pub signature_zone : List ℕ → List ℕ
signature_zone signature = 0xFF ∷ counted form signature

-- the signed bytes are header and message, without FF, the length or the signature
unfoldable pub signed_bytes : Content → List ℕ
signed_bytes c = header_zone c.header ++ message_zone c.header.version c.features

unfoldable pub publish : Content → List ℕ
publish c = signed_bytes c ++ signature_zone c.signature
