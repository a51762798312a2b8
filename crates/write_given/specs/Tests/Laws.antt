-- Laws of the tests of header and text: each by the tests that lead there.
-- Assumes nothing.
use Rattle.std.specs.Prelude.{◌≡◌, Bool, true, false, ℕ, ◌+◌, ◌≤◌, ◌-◌, List, eqb, length, take, drop}
use Rattle.std.proofs.Common.{ap, sym, ◌∙◌, arith, eq-eqb, ne_eqb, eqb-true}
use Rattle.format.specs.Choice.{both}
use Rattle.format.specs.Choice.Laws.{within_both}
use Rattle.grammar.specs.Content.{Version, three, four}
use Rattle.grammar.specs.Legal.{ReferenceSize}
use Rattle.fields.specs.Characters.{is_reference, all, is_country, is_signer}
use Rattle.fields.specs.declared.Header.{Header}
use Rattle.write_given.specs.Tests.{is_text_size, are_names}

-- signer and reference in one text, the reference of so many characters: what 21 asks beside the country
abbrev pub is_text : Version → ℕ → List ℕ → Bool
is_text v l text =
    both (both (is_text_size v (length text)) (eqb (l + 4) (length text))) (both (is_signer (take 4 text)) (all is_reference (drop 4 text)))

-- the country, and the text
module _ (v : Version) (h : Header) (text : List ℕ) where
  pub names_country : is_country 60 h.country ≡ false → false ≡ are_names v h text
  names_country e = sym (ap (λ b. both b (is_text v h.length text)) e)

  pub names_text : is_country 60 h.country ≡ true → is_text v h.length text ≡ are_names v h text
  names_text e = sym (ap (λ b. both b (is_text v h.length text)) e)

-- sizes, signer and reference, test by test
module _ (v : Version) (l : ℕ) (text : List ℕ) where
  abbrev characters : Bool
  characters = both (is_signer (take 4 text)) (all is_reference (drop 4 text))

  pub text_size : is_text_size v (length text) ≡ false → false ≡ is_text v l text
  text_size e = sym (ap (λ b. both (both b (eqb (l + 4) (length text))) characters) e)

  module _ (size : is_text_size v (length text) ≡ true) where
    past_size : is_text v l text ≡ both (eqb (l + 4) (length text)) characters
    past_size = ap (λ b. both (both b (eqb (l + 4) (length text))) characters) size

    pub text_length : (l + 4 ≡ length text → ⊥) → false ≡ is_text v l text
    text_length e = sym (past_size ∙ ap (λ b. both b characters) (ne_eqb (l + 4) (length text) e))

    module _ (long : l + 4 ≡ length text) where
      past_length : is_text v l text ≡ characters
      past_length = past_size ∙ ap (λ b. both b characters) (eq-eqb (l + 4) (length text) long)

      pub text_signer : is_signer (take 4 text) ≡ false → false ≡ is_text v l text
      text_signer e = sym (past_length ∙ ap (λ b. both b (all is_reference (drop 4 text))) e)

      pub text_reference : is_signer (take 4 text) ≡ true → all is_reference (drop 4 text) ≡ is_text v l text
      text_reference e = sym (past_length ∙ ap (λ b. both b (all is_reference (drop 4 text))) e)

-- the size of a text
pub size_three : (v : Version) (n : ℕ) → v ≡ three → is_text_size v n ≡ true → n ≡ 9
size_three v n e s = eqb-true n 9 (sym (ap (λ w. is_text_size w n) e) ∙ s)

pub size_four : (v : Version) (n : ℕ) → v ≡ four → is_text_size v n ≡ true → (5 ≤ n) × (n ≤ 259)
size_four v n e s = within_both 5 259 n (sym (ap (λ w. is_text_size w n) e) ∙ s)

pub size_any : (v : Version) (n : ℕ) → is_text_size v n ≡ true → (5 ≤ n) × (n ≤ 259)
size_any three n s = let nine = eqb-true n 9 s in (omega arith, omega arith)
size_any four n s = within_both 5 259 n s

-- and of its reference
pub reference_size : (v : Version) (n : ℕ) → is_text_size v n ≡ true → ReferenceSize v (n - 4)
reference_size three n s = let nine = eqb-true n 9 s in omega arith
reference_size four n s = let w = within_both 5 259 n s in (omega arith, omega arith)
