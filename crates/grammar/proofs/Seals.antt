-- Whole contents that are legal and their published forms, so that each field is seen to stand where it belongs; the
-- least seal, the largest, and the most features.
-- Assumes nothing.
use Rattle.std.specs.Prelude.{◌≡◌, refl, ℕ, zero, suc, ◌≤◌, List, [], ◌∷◌, ◌++◌, length, replicate}
use Rattle.std.proofs.Common.{inl, inr, arith}
use Rattle.format.specs.BigEndian.{be}
use Rattle.format.specs.Bytes.{All}
use Rattle.format.specs.Bytes.Laws.{bytes_nil, bytes_replicate}
use Rattle.pairs.specs.Chart.{the_chart, value_of}
use Rattle.c40.specs.Text.{publish as c40}
use Rattle.pairs.specs.Pairs.{triple}
use Rattle.dates.specs.Days.{is_day, publish as date}
use Rattle.der.specs.Length.{form}
use Rattle.grammar.specs.Content.{three, Feature}
use Rattle.grammar.specs.Publish.{header_zone, message_zone, signature_zone, signed_bytes, publish}
use Rattle.grammar.specs.Legal.{Country, Unused, LegalHeader, LegalFeatures, n28, n64, n66, Legal}
use Rattle.grammar.proofs.Parts.{hexadecimal_references}
use Rattle.grammar.specs.Examples.{dk, header_b, content_b, signed_b, header_c, content_c, signed_c, with_features, header_7, sized}
use Rattle.grammar.proofs.Pins.{filled_three, country_uto, country_d, signer_utab, seal_a_legal}

-- B and C
b_signed : signed_bytes content_b ≡ signed_b
unfolding signed_bytes header_zone message_zone date be c40 triple the_chart value_of form
b_signed = refl

b_published : publish content_b ≡ signed_b ++ (0xFF ∷ 0x81 ∷ 0x80 ∷ replicate 128 0xAA)
unfolding publish signed_bytes header_zone message_zone signature_zone date be c40 triple the_chart value_of form
b_published = refl

c_signed : signed_bytes content_c ≡ signed_c
unfolding signed_bytes header_zone message_zone date be c40 triple the_chart value_of form
c_signed = refl

c_published : publish content_c ≡ signed_c ++ (0xFF ∷ 0x81 ∷ 0x84 ∷ replicate 132 0xAA)
unfolding publish signed_bytes header_zone message_zone signature_zone date be c40 triple the_chart value_of form
c_published = refl

country_dk : Country dk
country_dk = record {
  size = refl;
  letters = (inl (omega arith, omega arith), (inl (omega arith, omega arith), (inr refl, tt)));
  first = (omega arith, omega arith);
  filled = filled_three 68 75 60 (λ e. absurd (omega arith)) (λ e. refl);
}

header_b_legal : LegalHeader header_b
unfolding is_day
header_b_legal = record {
  country = country_d;
  signer = record {
    size = refl;
    first = (omega arith, omega arith);
    second = (omega arith, omega arith);
    third = inr (omega arith, omega arith);
    fourth = inr (omega arith, omega arith);
  };
  reference =
      hexadecimal_references header_b.reference (
        inl (omega arith, omega arith),
        (
          inr (omega arith, omega arith),
          (
            inl (omega arith, omega arith),
            (
              inr (omega arith, omega arith),
              (
                inl (omega arith, omega arith),
                (
                  inl (omega arith, omega arith),
                  (
                    inl (omega arith, omega arith),
                    (inl (omega arith, omega arith), (inl (omega arith, omega arith), (inl (omega arith, omega arith), tt))),
                  ),
                ),
              ),
            ),
          ),
        ),
      );
  size = (omega arith, omega arith);
  issued = refl;
  signed = refl;
  definition = (omega arith, omega arith);
  category = (omega arith, omega arith);
}

header_c_legal : LegalHeader header_c
unfolding is_day
header_c_legal = record {
  country = country_dk;
  signer = record {
    size = refl;
    first = (omega arith, omega arith);
    second = (omega arith, omega arith);
    third = inr (omega arith, omega arith);
    fourth = inl (omega arith, omega arith);
  };
  reference =
      hexadecimal_references header_c.reference (
        inr (omega arith, omega arith),
        (
          inl (omega arith, omega arith),
          (inr (omega arith, omega arith), (inl (omega arith, omega arith), (inl (omega arith, omega arith), tt))),
        ),
      );
  size = refl;
  issued = refl;
  signed = refl;
  definition = (omega arith, omega arith);
  category = (omega arith, omega arith);
}

b_size : length (publish content_b) ≡ 288
unfolding publish signed_bytes header_zone message_zone signature_zone date be c40 triple form
b_size = refl

b_legal : Legal content_b
b_legal = record {
  header = header_b_legal;
  features = (omega arith, tt, tt, bytes_replicate 128 7 (omega arith), (omega arith, ((λ e. omega arith), tt), tt, bytes_nil, tt));
  signature = n64;
  bytes = bytes_replicate 128 0xAA (omega arith);
  size = omega (arith, b_size);
}

c_size : length (publish content_c) ≡ 542
unfolding publish signed_bytes header_zone message_zone signature_zone date be c40 triple form
c_size = refl

c_legal : Legal content_c
c_legal = record {
  header = header_c_legal;
  features = (
    omega arith,
    tt,
    omega arith,
    bytes_replicate 128 7 (omega arith),
    (
      omega arith,
      ((λ e. omega arith), tt),
      omega arith,
      bytes_replicate 255 7 (omega arith),
      (omega arith, ((λ e. omega arith), ((λ e. omega arith), tt)), omega arith, bytes_nil, tt),
    ),
  );
  signature = n66;
  bytes = bytes_replicate 132 0xAA (omega arith);
  size = omega (arith, c_size);
}

-- 4,096 bytes are legal, 4,097 are not
size_4096 : length (publish (sized 4016)) ≡ 4096
unfolding publish signed_bytes header_zone message_zone signature_zone date be c40 triple form
size_4096 = refl

size_4097 : length (publish (sized 4017)) ≡ 4097
unfolding publish signed_bytes header_zone message_zone signature_zone date be c40 triple form
size_4097 = refl

legal_7 : LegalHeader header_7
unfolding is_day
legal_7 = record {
  country = country_uto;
  signer = signer_utab;
  reference = hexadecimal_references header_7.reference (inr (omega arith, omega arith), tt);
  size = (omega arith, omega arith);
  issued = refl;
  signed = refl;
  definition = (omega arith, omega arith);
  category = (omega arith, omega arith);
}

legal_4096 : Legal (sized 4016)
legal_4096 = record {
  header = legal_7;
  features = (omega arith, tt, tt, bytes_replicate 4016 0 (omega arith), tt);
  signature = n28;
  bytes = bytes_replicate 56 0xAA (omega arith);
  size = omega (arith, size_4096);
}

not_4097 : Legal (sized 4017) → ⊥
not_4097 l = omega (arith, l.size, size_4097)

-- the least seal has no feature and 76 bytes
size_76 : length (publish (with_features [])) ≡ 76
unfolding publish signed_bytes header_zone message_zone signature_zone date be c40 triple form
size_76 = refl

no_feature_legal : Legal (with_features [])
no_feature_legal = record {
  header = seal_a_legal.header;
  features = tt;
  signature = n28;
  bytes = seal_a_legal.bytes;
  size = omega (arith, size_76);
}

-- 255 features: tags 254 down to 0, with empty values
down_from : ℕ → List Feature
down_from zero = []
down_from (suc n) = record { tag = n; value = [] } ∷ down_from n

above : (n : ℕ) (used : List ℕ) → All (λ t. suc n ≤ t) used → Unused n used
above n [] a = tt
above n (t ∷ used) a = ((λ e. omega (arith, a.0)), above n used a.1)

lower : (n : ℕ) (used : List ℕ) → All (λ t. suc n ≤ t) used → All (λ t. n ≤ t) used
lower n [] a = tt
lower n (t ∷ used) a = (omega (arith, a.0), lower n used a.1)

down_legal : (n : ℕ) (used : List ℕ) → n ≤ 255 → All (λ t. n ≤ t) used → LegalFeatures three used (down_from n)
unfolding down_from
down_legal zero used h a = tt
down_legal (suc n) used h a =
    (omega arith, above n used a, omega arith, bytes_nil, down_legal n (n ∷ used) (omega arith) (omega arith, lower n used a))

size_586 : length (publish (with_features (down_from 255))) ≡ 586
unfolding down_from publish signed_bytes header_zone message_zone signature_zone date be c40 triple form
size_586 = refl

all_tags_legal : Legal (with_features (down_from 255))
all_tags_legal = record {
  header = seal_a_legal.header;
  features = down_legal 255 [] (omega arith) tt;
  signature = n28;
  bytes = seal_a_legal.bytes;
  size = omega (arith, size_586);
}
