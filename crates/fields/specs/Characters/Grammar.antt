-- The tests of characters against the grammar, both ways.
-- Assumes nothing.
use Rattle.std.specs.Prelude.{◌≡◌, refl, Bool, true, ℕ, List, [], ◌∷◌, length}
use Rattle.std.proofs.Common.{ap, ◌∙◌, inl, inr, ⊎_elim, arith}
use Rattle.format.specs.Choice.{both, either}
use Rattle.format.specs.Choice.Laws.{both_true, either_true, within_true, within_below, within_both}
use Rattle.format.specs.Bytes.{All}
use Rattle.grammar.specs.Legal.{Letter, LetterOrDigit, ReferenceCharacter, Signer}
use Rattle.fields.specs.Characters.{is_letter, is_digit, is_letter_or_digit, is_reference, all, is_signer}

-- letters and digits pass their tests
pub letter : (c : ℕ) → Letter c → is_letter c ≡ true
letter c l = within_true 65 90 c l.0 l.1

pub letter_or_digit : (c : ℕ) → LetterOrDigit c → is_letter_or_digit c ≡ true
letter_or_digit c e =
    ⊎_elim
    (λ l. ap (λ b. either b (is_digit c)) (letter c l))
    (λ d. ap (λ b. either b (is_digit c)) (within_below 65 90 c (omega (arith, d.1))) ∙ within_true 48 57 c d.0 d.1)
    e

-- a reference's characters, and only they, pass their test: with `reference_of` below the law of `is_reference`
pub reference_passes : (c : ℕ) → ReferenceCharacter c → is_reference c ≡ true
reference_passes c e = letter_or_digit c e

pub all_pass : (P : ℕ → Type 0) (test : ℕ → Bool) → ((c : ℕ) → P c → test c ≡ true) → (t : List ℕ) → All P t → all test t ≡ true
all_pass P test f [] a = refl
all_pass P test f (c ∷ t) a = ap (λ b. both b (all test t)) (f c a.0) ∙ all_pass P test f t a.1

-- a signer passes its test
pub signer_passes : (t : List ℕ) → Signer t → is_signer t ≡ true
signer_passes [] l = let e = l.size in absurd (omega arith)
signer_passes (a ∷ []) l = let e = l.size in absurd (omega arith)
signer_passes (a ∷ b ∷ []) l = let e = l.size in absurd (omega arith)
signer_passes (a ∷ b ∷ c ∷ []) l = let e = l.size in absurd (omega arith)
signer_passes (a ∷ b ∷ c ∷ d ∷ []) l =
    rw (letter a l.first, letter b l.second, letter_or_digit c l.third, letter_or_digit d l.fourth) refl
signer_passes (a ∷ b ∷ c ∷ d ∷ e ∷ t) l = let f = l.size in absurd (omega arith)

-- what passes the tests is legal
letter_or_digit_of : (c : ℕ) → is_letter_or_digit c ≡ true → LetterOrDigit c
letter_or_digit_of c e =
    ⊎_elim (λ f. inl (within_both 65 90 c f)) (λ f. inr (within_both 48 57 c f)) (either_true (is_letter c) (is_digit c) e)

pub reference_of : (c : ℕ) → is_reference c ≡ true → ReferenceCharacter c
reference_of c e = letter_or_digit_of c e

pub all_of : (P : ℕ → Type 0) (test : ℕ → Bool) → ((c : ℕ) → test c ≡ true → P c) → (t : List ℕ) → all test t ≡ true → All P t
all_of P test f [] e = tt
all_of P test f (c ∷ t) e = let p = both_true (test c) (all test t) e in (f c p.0, all_of P test f t p.1)

pub signer_of : (t : List ℕ) → length t ≡ 4 → is_signer t ≡ true → Signer t
signer_of [] l e = absurd (omega arith)
signer_of (a ∷ []) l e = absurd (omega arith)
signer_of (a ∷ b ∷ []) l e = absurd (omega arith)
signer_of (a ∷ b ∷ c ∷ []) l e = absurd (omega arith)
signer_of (a ∷ b ∷ c ∷ d ∷ x ∷ t) l e = absurd (omega arith)
signer_of (a ∷ b ∷ c ∷ d ∷ []) l e =
    let p = both_true (all is_letter (a ∷ b ∷ [])) (all is_letter_or_digit (c ∷ d ∷ [])) e in
    let f = all_of Letter is_letter (λ c. within_both 65 90 c) (a ∷ b ∷ []) p.0 in
    let g = all_of LetterOrDigit is_letter_or_digit letter_or_digit_of (c ∷ d ∷ []) p.1 in
    record { size = refl; first = f.0; second = f.1.0; third = g.0; fourth = g.1.0 }
