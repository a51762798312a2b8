-- Laws of the tests of characters: each by the tests that lead there, and all of a text by its characters.
-- Assumes nothing.
use Rattle.std.specs.Prelude.{◌≡◌, refl, Bool, true, false, ℕ, zero, suc, ◌+◌, ◌-◌, ◌≤◌, ◌<◌, List, [], ◌∷◌, eqb, length, drop, get_or}
use Rattle.std.specs.Bool.{MatchBool}
use Rattle.std.specs.List.{AllWithin, HoldsAt}
use Rattle.std.proofs.Common.{ap, sym, ◌∙◌, arith, eq-eqb, ne_eqb}
use Rattle.format.specs.Choice.{both}
use Rattle.format.specs.Choice.Laws.{both_true_right, either_absorbed}
use Rattle.format.specs.Places.{at_place, past_end}
use Rattle.fields.specs.Characters.{is_letter, is_digit, is_letter_or_digit, is_reference, all, is_country, is_signer, shown}

-- a letter or a digit, by the first test
pub first_letter : (c : ℕ) → is_letter c ≡ true → true ≡ is_letter_or_digit c
first_letter c e = rw e refl

pub then_digit : (c : ℕ) → is_letter c ≡ false → is_digit c ≡ is_letter_or_digit c
then_digit c e = rw e refl

-- a signer, character by character
module _ (a b c d : ℕ) where
  pub signer_first : is_letter a ≡ false → false ≡ is_signer (a ∷ b ∷ c ∷ d ∷ [])
  signer_first e = rw e refl

  pub signer_second : is_letter a ≡ true → is_letter b ≡ false → false ≡ is_signer (a ∷ b ∷ c ∷ d ∷ [])
  signer_second e f = rw (e, f) refl

  pub signer_third : is_letter a ≡ true → is_letter b ≡ true → is_letter_or_digit c ≡ false → false ≡ is_signer (a ∷ b ∷ c ∷ d ∷ [])
  signer_third e f g = rw (e, f, g) refl

  pub signer_fourth : is_letter a ≡ true → is_letter b ≡ true → is_letter_or_digit c ≡ true → is_letter_or_digit d ≡ is_signer (a ∷ b ∷ c ∷ d ∷ [])
  signer_fourth e f g = rw (e, f, g) (sym (both_true_right (is_letter_or_digit d)))

-- a country, character by character
module _ (filler a b c : ℕ) where
  pub country_first : is_letter a ≡ false → false ≡ is_country filler (a ∷ b ∷ c ∷ [])
  country_first e = rw e refl

  module _ (first : is_letter a ≡ true) where
    pub country_letters : is_letter b ≡ true → is_letter c ≡ true → true ≡ is_country filler (a ∷ b ∷ c ∷ [])
    country_letters f g = rw (first, f, g) refl

    pub country_two : is_letter b ≡ true → is_letter c ≡ false → eqb c filler ≡ is_country filler (a ∷ b ∷ c ∷ [])
    country_two f g = rw (first, f, g) (either_absorbed (eqb c filler) (eqb b filler))

    pub country_other : is_letter b ≡ false → (b ≡ filler → ⊥) → false ≡ is_country filler (a ∷ b ∷ c ∷ [])
    country_other f h = rw (first, f, ne_eqb b filler h) refl

    pub country_one : is_letter b ≡ false → b ≡ filler → eqb c filler ≡ is_country filler (a ∷ b ∷ c ∷ [])
    country_one f h = rw (first, f, eq-eqb b filler h) refl

-- a filler, and any other character
pub shown_filler : (c : ℕ) → c ≡ 32 → 60 ≡ shown c
shown_filler c h = rw (eq-eqb c 32 h) refl

pub shown_other : (c : ℕ) → (c ≡ 32 → ⊥) → c ≡ shown c
shown_other c h = rw (ne_eqb c 32 h) refl

-- all of a text, one character more: how far the test has come
abbrev pub Passed : List ℕ → ℕ → Type 0
Passed t i = all is_reference t ≡ all is_reference (drop i t)

module _ (t : List ℕ) (i : ℕ) (sofar : Passed t i) where
  pub all_more : i < length t → is_reference (get_or t i 0) ≡ true → Passed t (i + 1)
  all_more h e = sofar ∙ ap (all is_reference) (at_place t i 0 h) ∙ ap (λ b. both b (all is_reference (drop (i + 1) t))) e

  pub all_stops : i < length t → is_reference (get_or t i 0) ≡ false → false ≡ all is_reference t
  all_stops h e = sym (sofar ∙ ap (all is_reference) (at_place t i 0 h) ∙ ap (λ b. both b (all is_reference (drop (i + 1) t))) e)

  pub all_end : length t ≤ i → true ≡ all is_reference t
  all_end h = sym (sofar ∙ ap (all is_reference) (past_end t i h))

-- all of a text: each character passes, or one does not
both_false : (b : Bool) → false ≡ both b false
both_false true = refl
both_false false = refl

module _ (test : ℕ → Bool) where
  all_pass : (t : List ℕ) → AllWithin (λ c. test c ≡ true) t 0 (length t) → true ≡ all test t
  all_pass [] f = refl
  all_pass (c ∷ t) f =
      let rest = all_pass t (λ k d l h. f (suc k) d (omega arith) (omega arith)) in
      rest ∙ sym (ap (λ b. both b (all test t)) (f 0 0 (omega arith) (omega arith)))

  one_not : (t : List ℕ) (k : ℕ) → k < length t → HoldsAt (λ c. test c ≡ false) t k → false ≡ all test t
  one_not [] k h f = absurd (omega arith)
  one_not (c ∷ t) zero h f = sym (ap (λ b. both b (all test t)) (f 0))
  one_not (c ∷ t) (suc k) h f = both_false (test c) ∙ ap (both (test c)) (one_not t k (omega arith) f)

  pub all_by_cases :
      (t : List ℕ) (r : Bool) →
      MatchBool r (AllWithin (λ c. test c ≡ true) t 0 (length t)) ((k : ℕ) × (k < length t) × HoldsAt (λ c. test c ≡ false) t k) →
      r ≡ all test t
  all_by_cases t true f = all_pass t f
  all_by_cases t false (k, h, f) = one_not t k h f
