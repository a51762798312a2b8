-- What is not legal: Seal A with one field changed, each field by its own rule.
-- Assumes nothing.
use Rattle.std.specs.Prelude.{◌≡◌, refl, ℕ, ◌<◌, [], ◌∷◌, replicate}
use Rattle.std.proofs.Common.{⊎_elim, arith}
use Rattle.dates.specs.Days.{is_day}
use Rattle.grammar.specs.Content.{four}
use Rattle.grammar.specs.Legal.{LetterOrDigit, LegalHeader, LegalFeatures, Legal}
use Rattle.grammar.proofs.Parts.{reference_letter_or_digit}
use Rattle.grammar.specs.Examples.{uto, utab, ref_00001, spring, with_last, with_names, with_dates, with_features, with_signature}

-- definition and category: each its own rule
definition_0 : LegalHeader (with_last 0 2) → ⊥
definition_0 l = omega (arith, l.definition.0)

definition_255 : LegalHeader (with_last 255 2) → ⊥
definition_255 l = omega (arith, l.definition.1)

category_0 : LegalHeader (with_last 1 0) → ⊥
category_0 l = omega (arith, l.category.0)

category_255 : LegalHeader (with_last 1 255) → ⊥
category_255 l = omega (arith, l.category.1)

no_letter_or_digit : (c : ℕ) → c < 48 → LetterOrDigit c → ⊥
no_letter_or_digit c h e = ⊎_elim (λ l. omega (arith, l.0)) (λ d. omega (arith, d.0)) e

-- country: D1<, D<D, <<<, D and two spaces, Da<, DD
country_digit : LegalHeader (with_names (68 ∷ 49 ∷ 60 ∷ []) utab ref_00001) → ⊥
country_digit l = ⊎_elim (λ e. omega (arith, e.0)) (λ e. omega arith) l.country.letters.1.0

country_inside : LegalHeader (with_names (68 ∷ 60 ∷ 68 ∷ []) utab ref_00001) → ⊥
country_inside l = let e = l.country.filled 1 (omega arith) refl in omega arith

country_first : LegalHeader (with_names (60 ∷ 60 ∷ 60 ∷ []) utab ref_00001) → ⊥
country_first l = omega (arith, l.country.first.0)

country_space : LegalHeader (with_names (68 ∷ 32 ∷ 32 ∷ []) utab ref_00001) → ⊥
country_space l = ⊎_elim (λ e. omega (arith, e.0)) (λ e. omega arith) l.country.letters.1.0

country_lower : LegalHeader (with_names (68 ∷ 97 ∷ 60 ∷ []) utab ref_00001) → ⊥
country_lower l = ⊎_elim (λ e. omega (arith, e.1)) (λ e. omega arith) l.country.letters.1.0

country_two : LegalHeader (with_names (68 ∷ 68 ∷ []) utab ref_00001) → ⊥
country_two l = let e = l.country.size in omega arith

-- signer: 1TAB, U1AB, UT<B, UTA and a space, UTA
signer_1 : LegalHeader (with_names uto (49 ∷ 84 ∷ 65 ∷ 66 ∷ []) ref_00001) → ⊥
signer_1 l = omega (arith, l.signer.first.0)

signer_2 : LegalHeader (with_names uto (85 ∷ 49 ∷ 65 ∷ 66 ∷ []) ref_00001) → ⊥
signer_2 l = omega (arith, l.signer.second.0)

signer_3 : LegalHeader (with_names uto (85 ∷ 84 ∷ 60 ∷ 66 ∷ []) ref_00001) → ⊥
signer_3 l = ⊎_elim (λ e. omega (arith, e.0)) (λ e. omega (arith, e.1)) l.signer.third

signer_4 : LegalHeader (with_names uto (85 ∷ 84 ∷ 65 ∷ 32 ∷ []) ref_00001) → ⊥
signer_4 l = no_letter_or_digit 32 (omega arith) l.signer.fourth

signer_short : LegalHeader (with_names uto (85 ∷ 84 ∷ 65 ∷ []) ref_00001) → ⊥
signer_short l = let e = l.signer.size in omega arith

-- reference, version 3: four characters, six, one of them a space, a lower-case letter
reference_4 : LegalHeader (with_names uto utab (48 ∷ 48 ∷ 48 ∷ 49 ∷ [])) → ⊥
reference_4 l = let e = l.size in omega arith

reference_6 : LegalHeader (with_names uto utab (48 ∷ 48 ∷ 48 ∷ 48 ∷ 48 ∷ 49 ∷ [])) → ⊥
reference_6 l = let e = l.size in omega arith

reference_space : LegalHeader (with_names uto utab (48 ∷ 48 ∷ 48 ∷ 48 ∷ 32 ∷ [])) → ⊥
reference_space l = no_letter_or_digit 32 (omega arith) (reference_letter_or_digit 32 l.reference.1.1.1.1.0)

reference_lower : LegalHeader (with_names uto utab (97 ∷ 48 ∷ 48 ∷ 48 ∷ 48 ∷ [])) → ⊥
reference_lower l = ⊎_elim (λ e. omega (arith, e.1)) (λ e. omega (arith, e.1)) (reference_letter_or_digit 97 l.reference.0)

-- one past Z and one past 9
past_z : LetterOrDigit 91 → ⊥
past_z e = ⊎_elim (λ l. omega (arith, l.1)) (λ d. omega (arith, d.1)) e

past_9 : LetterOrDigit 58 → ⊥
past_9 e = ⊎_elim (λ l. omega (arith, l.0)) (λ d. omega (arith, d.1)) e

before_a : LetterOrDigit 64 → ⊥
before_a e = ⊎_elim (λ l. omega (arith, l.0)) (λ d. omega (arith, d.1)) e

before_0 : LetterOrDigit 47 → ⊥
before_0 e = no_letter_or_digit 47 (omega arith) e

-- dates: each of the two is judged, by the calendar
issued_february_30 : LegalHeader (with_dates (record { month = 2; day = 30; year = 2000 }) spring) → ⊥
unfolding is_day
issued_february_30 l = let e = l.issued in let z : ◌≡◌ {A = ℕ} 0 1 = cc in omega arith

signed_february_30 : LegalHeader (with_dates spring (record { month = 2; day = 30; year = 2000 })) → ⊥
unfolding is_day
signed_february_30 l = let e = l.signed in let z : ◌≡◌ {A = ℕ} 0 1 = cc in omega arith

-- features: 7, 8, 7; version 3 with 256 bytes; a value that is no byte
seven_again :
    LegalFeatures four [] (record { tag = 7; value = [] } ∷ record { tag = 8; value = [] } ∷ record { tag = 7; value = [] } ∷ []) →
    ⊥
seven_again l = l.4.4.1.1.0 refl

value_no_byte : LegalFeatures four [] (record { tag = 7; value = 256 ∷ [] } ∷ []) → ⊥
value_no_byte l = omega (arith, l.3 0)

three_256 : Legal (with_features (record { tag = 7; value = replicate 256 7 } ∷ [])) → ⊥
three_256 l = omega (arith, l.features.2)

-- the signature's bytes are bytes
signature_no_byte : Legal (with_signature (256 ∷ replicate 55 0xAA)) → ⊥
signature_no_byte l = omega (arith, l.bytes 0)
