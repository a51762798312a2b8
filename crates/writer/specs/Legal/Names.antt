-- The tests of 21 against the grammar: country, signer and reference, both ways.
-- Assumes nothing.
use Rattle.std.specs.Prelude.{◌≡◌, refl, ◌⊎◌, true, ℕ, ◌+◌, ◌-◌, ◌≤◌, List, [], ◌∷◌, eqb, length, take, drop}
use Rattle.std.proofs.Common.{subst, inl, inr, ⊎_elim, arith, eqb-true, eq-eqb, length-drop}
use Rattle.format.specs.Choice.{both, either}
use Rattle.format.specs.Bytes.{All}
use Rattle.grammar.specs.Content.{Version, three, four}
use Rattle.grammar.specs.Legal.{Letter, Filler, Country, Signer, ReferenceCharacter, ReferenceSize}
use Rattle.grammar.proofs.Pins.{filled_three}
use Rattle.format.specs.Choice.Laws.{both_true, both_are, either_true, either_left, either_right, within_true, within_both}
use Rattle.fields.specs.Characters.Grammar.{letter, reference_passes, all_pass, signer_passes}
use Rattle.fields.specs.Characters.{is_letter, is_reference, all, is_signer, is_country}
use Rattle.fields.specs.declared.Header.{Header}
use Rattle.write_given.specs.Tests.{is_text_size, are_names}
use Rattle.write_given.specs.Given.{three_of}
use Rattle.write_judge.specs.Needs.Laws.{named_legal}
use Rattle.write_judge.specs.Size.{headed_named}

-- a country of three characters
third_is : (c : ℕ) → either (is_letter c) (eqb c 60) ≡ true → Letter c ⊎ Filler c
third_is c e = ⊎_elim (λ f. inl (within_both 65 90 c f)) (λ f. inr (eqb-true c 60 f)) (either_true (is_letter c) (eqb c 60) e)

letter_no_filler : (c : ℕ) → Letter c → Filler c → ⊥
letter_no_filler c l f = omega (arith, l.0)

country_of : (a b c : ℕ) → Letter a → Letter b ⊎ Filler b → Letter c ⊎ Filler c → (Filler b → Filler c) → Country (a ∷ b ∷ c ∷ [])
country_of a b c la eb ec f = record {
  size = refl;
  letters = (inl la, (eb, (ec, tt)));
  first = la;
  filled = filled_three a b c (λ g. absurd (letter_no_filler a la g)) f;
}

pub country_legal : (t : List ℕ) → length t ≡ 3 → is_country 60 t ≡ true → Country t
country_legal [] l e = absurd (omega arith)
country_legal (a ∷ []) l e = absurd (omega arith)
country_legal (a ∷ b ∷ []) l e = absurd (omega arith)
country_legal (a ∷ b ∷ c ∷ d ∷ t) l e = absurd (omega arith)
country_legal (a ∷ b ∷ c ∷ []) l e =
    let p = both_true (is_letter a) (either (both (is_letter b) (either (is_letter c) (eqb c 60))) (both (eqb b 60) (eqb c 60))) e in
    let la = within_both 65 90 a p.0 in
    ⊎_elim
    (λ f.
    let q = both_true (is_letter b) (either (is_letter c) (eqb c 60)) f in
    let lb = within_both 65 90 b q.0 in
    country_of a b c la (inl lb) (third_is c q.1) (λ g. absurd (letter_no_filler b lb g)))
    (λ f.
    let q = both_true (eqb b 60) (eqb c 60) f in
    let fc = eqb-true c 60 q.1 in
    country_of a b c la (inr (eqb-true b 60 q.0)) (inr fc) (λ g. fc))
    (either_true (both (is_letter b) (either (is_letter c) (eqb c 60))) (both (eqb b 60) (eqb c 60)) p.1)

pub country_passes : (t : List ℕ) → Country t → is_country 60 t ≡ true
country_passes [] l = let e = l.size in absurd (omega arith)
country_passes (a ∷ []) l = let e = l.size in absurd (omega arith)
country_passes (a ∷ b ∷ []) l = let e = l.size in absurd (omega arith)
country_passes (a ∷ b ∷ c ∷ d ∷ t) l = let e = l.size in absurd (omega arith)
country_passes (a ∷ b ∷ c ∷ []) l =
    let two = both (is_letter b) (either (is_letter c) (eqb c 60)) in
    let none = both (eqb b 60) (eqb c 60) in
    let third : either (is_letter c) (eqb c 60) ≡ true =
    ⊎_elim (λ x. either_left (is_letter c) (eqb c 60) (letter c x)) (λ f. either_right (is_letter c) (eqb c 60) (eq-eqb c 60 f))
    l.letters.1.1.0 in
    both_are (is_letter a) (either two none) (letter a l.first)
    (⊎_elim
    (λ x. either_left two none (both_are (is_letter b) (either (is_letter c) (eqb c 60)) (letter b x) third))
    (λ f. either_right two none (both_are (eqb b 60) (eqb c 60) (eq-eqb b 60 f) (eq-eqb c 60 (l.filled 1 (omega arith) f))))
    l.letters.1.0)

-- the size of the text, by the version
text_passes : (v : Version) (n : ℕ) → 4 ≤ n → ReferenceSize v (n - 4) → is_text_size v n ≡ true
text_passes three n h r = eq-eqb n 9 (omega arith)
text_passes four n h r = within_true 5 259 n (omega (arith, r.0)) (omega (arith, r.1))

-- the names of a call that passes, and back
pub record LegalNames (v : Version) (h : Header) (text : List ℕ) : Type 0 where
  pub country : Country (three_of h.country)
  pub signer : Signer (take 4 text)
  pub reference : All ReferenceCharacter (drop 4 text)
  pub size : ReferenceSize v (length (drop 4 text))
  pub measured : h.length + 4 ≡ length text

pub names_legal : (v : Version) (h : Header) (text : List ℕ) → are_names v h text ≡ true → LegalNames v h text
names_legal v h text e =
    let sized = both (is_text_size v (length text)) (eqb (h.length + 4) (length text)) in
    let p = both_true (is_country 60 h.country) _ e in
    let r = both_true (is_text_size v (length text)) _ (both_true sized _ p.1).0 in
    let n = named_legal v text (headed_named v h text e) in
    record {
      country = country_legal (three_of h.country) refl p.0;
      signer = n.signer;
      reference = n.reference;
      size = n.size;
      measured = eqb-true (h.length + 4) (length text) r.1;
    }

pub names_pass : (v : Version) (h : Header) (text : List ℕ) → LegalNames v h text → are_names v h text ≡ true
names_pass v h text l =
    let sized = both (is_text_size v (length text)) (eqb (h.length + 4) (length text)) in
    let spelt = both (is_signer (take 4 text)) (all is_reference (drop 4 text)) in
    let long : 4 ≤ length text = omega (arith, l.measured) in
    both_are (is_country 60 h.country) (both sized spelt) (country_passes (three_of h.country) l.country)
    (both_are sized spelt
    (both_are (is_text_size v (length text)) (eqb (h.length + 4) (length text))
    (text_passes v (length text) long (subst (ReferenceSize v) (length-drop 4 text) l.size))
    (eq-eqb (h.length + 4) (length text) l.measured))
    (both_are (is_signer (take 4 text)) (all is_reference (drop 4 text)) (signer_passes (take 4 text) l.signer)
    (all_pass ReferenceCharacter is_reference reference_passes (drop 4 text) l.reference)))

-- a country of three characters is all of them
pub three_of_lem : (c : List ℕ) → length c ≡ 3 → three_of c ≡ c
three_of_lem [] e = absurd (omega arith)
three_of_lem (x ∷ []) e = absurd (omega arith)
three_of_lem (x ∷ y ∷ []) e = absurd (omega arith)
three_of_lem (x ∷ y ∷ z ∷ []) e = refl
three_of_lem (x ∷ y ∷ z ∷ w ∷ t) e = absurd (omega arith)
