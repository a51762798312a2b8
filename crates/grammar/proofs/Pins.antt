-- Computed examples that fix what the laws leave open: which bytes are published, and what is legal and what is not.
-- Assumes nothing.
use Rattle.std.specs.Prelude.{◌≡◌, refl, ◌⊎◌, ℕ, zero, suc, ◌+◌, ◌*◌, ◌<◌, [], ◌∷◌, ◌++◌, map, length, get_or, replicate}
use Rattle.std.proofs.Common.{ap, inl, inr, arith}
use Rattle.format.specs.BigEndian.{be}
use Rattle.format.specs.Bytes.{Bytes}
use Rattle.format.specs.Bytes.Laws.{bytes_nil, bytes_cons, bytes_replicate}
use Rattle.pairs.specs.Chart.{the_chart, value_of}
use Rattle.c40.specs.Text.{publish as c40}
use Rattle.pairs.specs.Pairs.{triple}
use Rattle.dates.specs.Days.{is_day, publish as date}
use Rattle.der.specs.Length.{form}
use Rattle.grammar.specs.Content.{three, four}
use Rattle.grammar.specs.Publish.{carried, hex_digits, names, header_zone, length_of, message_zone, signature_zone, signed_bytes, publish}
use Rattle.grammar.specs.Legal.{Filler, Country, Signer, ReferenceCharacter, ReferenceSize, LastByte, ValueSize, LegalHeader}
use Rattle.grammar.specs.Legal.{LegalFeatures, SignatureSize, n28, n32, n48, n64, n66, Legal}
use Rattle.grammar.proofs.Parts.{Hexadecimal, hexadecimal_references}
use Rattle.grammar.specs.Examples.{uto, utab, ref_00001, d_fillers, header_a, content_a, seal_a}

-- Seal A is the published form of its content
pub seal_a_published : publish content_a ≡ seal_a
unfolding publish signed_bytes header_zone message_zone signature_zone date be c40 triple the_chart value_of form
seal_a_published = refl

-- its signed bytes end before FF
pub seal_a_signed : signed_bytes content_a ++ (0xFF ∷ 0x38 ∷ []) ++ replicate 56 0xAA ≡ seal_a
unfolding signed_bytes header_zone message_zone date be c40 triple the_chart value_of
seal_a_signed = refl

-- `D<<` is 6A BC; version 4 names
pub d_published : c40 (map carried d_fillers) ≡ 0x6A ∷ 0xBC ∷ []
unfolding be c40 triple value_of
d_published = refl

pub names_four_00001 : names four utab ref_00001 ≡ 0xD9 ∷ 0xB7 ∷ 0x5E ∷ 0x6A ∷ 0x19 ∷ 0xA5 ∷ 0x19 ∷ 0xC9 ∷ []
unfolding be c40 triple value_of
names_four_00001 = refl

pub names_four_7 : names four utab (55 ∷ []) ≡ 0xD9 ∷ 0xB7 ∷ 0x5E ∷ 0x66 ∷ 0xFE ∷ 0x38 ∷ []
unfolding be c40 triple value_of
names_four_7 = refl

-- a version 3 length is a plain byte: 128 is 80; a version 4 length is DER
length_three : length_of three 128 ≡ 0x80 ∷ []
length_three = refl

length_three_most : length_of three 255 ≡ 0xFF ∷ []
length_three_most = refl

length_four : length_of four 128 ≡ 0x81 ∷ 0x80 ∷ []
unfolding form be
length_four = refl

length_four_127 : length_of four 127 ≡ 0x7F ∷ []
unfolding form be
length_four_127 = refl

length_four_255 : length_of four 255 ≡ 0x81 ∷ 0xFF ∷ []
unfolding form be
length_four_255 = refl

length_four_256 : length_of four 256 ≡ 0x82 ∷ 0x01 ∷ 0x00 ∷ []
unfolding form be
length_four_256 = refl

-- the digits of L: 0A, 1A, 9F, FF
hex_10 : hex_digits 10 ≡ 48 ∷ 65 ∷ []
hex_10 = refl

hex_26 : hex_digits 26 ≡ 49 ∷ 65 ∷ []
hex_26 = refl

hex_159 : hex_digits 159 ≡ 57 ∷ 70 ∷ []
hex_159 = refl

hex_255 : hex_digits 255 ≡ 70 ∷ 70 ∷ []
hex_255 = refl

-- the signature's length is DER in both versions
signature_length_lem : signature_zone (replicate 128 0xAA) ≡ 0xFF ∷ 0x81 ∷ 0x80 ∷ replicate 128 0xAA
unfolding signature_zone form be
signature_length_lem = refl

-- signature sizes: 2n for these five n and for no other
sizes_only : (n : ℕ) → SignatureSize n → (n ≡ 2 * 28) ⊎ (n ≡ 2 * 32) ⊎ (n ≡ 2 * 48) ⊎ (n ≡ 2 * 64) ⊎ (n ≡ 2 * 66)
sizes_only n n28 = inl refl
sizes_only n n32 = inr (inl refl)
sizes_only n n48 = inr (inr (inl refl))
sizes_only n n64 = inr (inr (inr (inl refl)))
sizes_only n n66 = inr (inr (inr (inr refl)))

size_28 : SignatureSize (2 * 28)
size_28 = n28

size_32 : SignatureSize (2 * 32)
size_32 = n32

size_48 : SignatureSize (2 * 48)
size_48 = n48

size_64 : SignatureSize (2 * 64)
size_64 = n64

size_66 : SignatureSize (2 * 66)
size_66 = n66

-- definition and category: 254 and not 255 nor 0
last_254 : LastByte 254
last_254 = (omega arith, omega arith)

last_255 : LastByte 255 → ⊥
last_255 l = omega (arith, l.1)

last_0 : LastByte 0 → ⊥
last_0 l = omega (arith, l.0)

-- references: 5 in version 3, 1 to 255 in version 4
reference_three : ReferenceSize three 6 → ⊥
reference_three e = omega arith

reference_four_0 : ReferenceSize four 0 → ⊥
reference_four_0 l = omega (arith, l.0)

reference_four_1 : ReferenceSize four 1
reference_four_1 = (omega arith, omega arith)

reference_four_255 : ReferenceSize four 255
reference_four_255 = (omega arith, omega arith)

reference_four_256 : ReferenceSize four 256 → ⊥
reference_four_256 l = omega (arith, l.1)

-- values: 255 bytes in version 3 and not 256
value_255 : ValueSize three 255
value_255 = omega arith

value_256 : ValueSize three 256 → ⊥
value_256 l = omega arith

-- countries: D<< is legal
pub filled_three :
    (a b c : ℕ) →
    (Filler a → Filler b) →
    (Filler b → Filler c) →
    (i : ℕ) →
    i < 2 →
    Filler (get_or (a ∷ b ∷ c ∷ []) i 0) →
    Filler (get_or (a ∷ b ∷ c ∷ []) (i + 1) 0)
filled_three a b c f g zero h e = f e
filled_three a b c f g (suc zero) h e = g e
filled_three a b c f g (suc (suc i)) h e = absurd (omega arith)

pub country_d : Country d_fillers
country_d = record {
  size = refl;
  letters = (inl (omega arith, omega arith), (inr refl, (inr refl, tt)));
  first = (omega arith, omega arith);
  filled = filled_three 68 60 60 (λ e. refl) (λ e. refl);
}

-- features: tag 254 and not 255, and no tag twice
tag_255 : LegalFeatures four [] (record { tag = 255; value = [] } ∷ []) → ⊥
tag_255 l = omega (arith, l.0)

tag_254 : LegalFeatures four [] (record { tag = 254; value = [] } ∷ [])
tag_254 = (omega arith, tt, tt, bytes_nil, tt)

tag_twice : LegalFeatures four [] (record { tag = 7; value = [] } ∷ record { tag = 7; value = [] } ∷ []) → ⊥
tag_twice l = l.4.1.0 refl

-- Seal A's content is legal
pub country_uto : Country uto
country_uto = record {
  size = refl;
  letters = (inl (omega arith, omega arith), (inl (omega arith, omega arith), (inl (omega arith, omega arith), tt)));
  first = (omega arith, omega arith);
  filled = filled_three 85 84 79 (λ e. absurd (omega arith)) (λ e. absurd (omega arith));
}

pub signer_utab : Signer utab
signer_utab = record {
  size = refl;
  first = (omega arith, omega arith);
  second = (omega arith, omega arith);
  third = inl (omega arith, omega arith);
  fourth = inl (omega arith, omega arith);
}

-- a reference may have any letter
reference_z : ReferenceCharacter 90
reference_z = inl (omega arith, omega arith)

zero_digit : Hexadecimal 48
zero_digit = inr (omega arith, omega arith)

header_a_legal : LegalHeader header_a
unfolding is_day
header_a_legal = record {
  country = country_uto;
  signer = signer_utab;
  reference = hexadecimal_references ref_00001 (zero_digit, (zero_digit, (zero_digit, (zero_digit, (inr (omega arith, omega arith), tt)))));
  size = refl;
  issued = refl;
  signed = refl;
  definition = (omega arith, omega arith);
  category = (omega arith, omega arith);
}

pub seal_a_legal : Legal content_a
seal_a_legal = record {
  header = header_a_legal;
  features = (omega arith, tt, omega arith, bytes_visa, tt);
  signature = n28;
  bytes = bytes_replicate 56 0xAA (omega arith);
  size = omega (arith, ap length seal_a_published);
}
  where
    bytes_visa : Bytes (0xDE ∷ 0x51 ∷ 0x58 ∷ 0x26 ∷ [])
    bytes_visa =
        bytes_cons 0xDE (0x51 ∷ 0x58 ∷ 0x26 ∷ []) (omega arith)
        (bytes_cons 0x51 (0x58 ∷ 0x26 ∷ []) (omega arith)
        (bytes_cons 0x58 (0x26 ∷ []) (omega arith) (bytes_cons 0x26 [] (omega arith) bytes_nil)))
