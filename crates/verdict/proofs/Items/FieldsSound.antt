-- Country, signer and reference, the other way: what is read is legal, and its published form stands there.
-- Assumes nothing.
use Rattle.std.specs.Prelude.{◌≡◌, refl, ◌⊎◌, Bool, true, false, ℕ, ◌+◌, ◌-◌, ◌*◌, ◌/◌, ◌%◌, ◌≤◌, List, [], ◌∷◌, ◌++◌, map, ltb, eqb, length, take, drop}
use Rattle.std.proofs.Common.{ap, sym, subst, ◌∙◌, inl, inr, ⊎_elim, arith, eqb-true, ltb-true, take-append-drop, length-drop, length-take-le}
use Rattle.std.proofs.Math.Option.{Option, none, some, none-ne-some}
use Rattle.format.specs.Choice.{pick, both, either}
use Rattle.format.specs.Choice.Laws.{by_test, both_true, either_true, within_both}
use Rattle.format.specs.Hex.{hex_digit, hex_value}
use Rattle.format.proofs.Hex.Laws.{value_digit}
use Rattle.format.specs.Bytes.{Bytes}
use Rattle.format.specs.Bytes.Laws.{bytes_drop, bytes_take}
use Rattle.c40.specs.Text.{TextOf, width, publish as c40}
use Rattle.c40.specs.Decode.{Decoded, text, wrong, decode}
use Rattle.c40.proofs.Exact.{decodes_published}
use Rattle.grammar.specs.Content.{Version, three, four}
use Rattle.grammar.specs.Publish.{carried, hex_digits}
use Rattle.grammar.specs.Publish as form
use Rattle.grammar.specs.Legal.{Letter, Filler, Country, Signer, ReferenceCharacter}
use Rattle.grammar.proofs.Parts.{Names as LegalNames, four_form}
use Rattle.grammar.proofs.Pins.{filled_three}
use Rattle.fields.specs.Characters.Grammar.{reference_of, all_of, signer_of}
use Rattle.fields.specs.Characters.{is_letter, is_reference, all, is_country, is_signer, shown}
use Rattle.causes.specs.declared.Rule.{Rule}
use Rattle.causes.specs.declared.Rule.TheVariants as rule
use Rattle.causes.specs.declared.Item.TheVariants as item
use Rattle.verdict.specs.Items.{is, exact, wrong_at, exactly, unless, judged_by, field_in, field, in_country, country, Names, in_nine}
use Rattle.verdict.specs.Items.{length_in, is_hex, in_six, in_reference, named, after, names}
use Rattle.verdict.proofs.Items.Laws.{whole_read, unread}
use Rattle.verdict.proofs.Items.Fields.{letter_carried, letter_shown}
use Rattle.verdict.proofs.Items.Sound.{Stands, stands_append, steps, steps_on, stands, length_taken, same_value, same_place}

-- text that was found is all that was decoded, and has k characters
record Found (k : ℕ) (d : Decoded) (broken : List ℕ → Option Rule) (at : ℕ) (t : List ℕ) (after : ℕ) : Type 0 where
  is_all : d ≡ text t
  size : length t ≡ k
  keeps : broken t ≡ none
  place : at + width k ≡ after

kept : (o : Option Rule) (u t : List ℕ) (at end after : ℕ) → judged_by o u at end ≡ is t after → (o ≡ none) × (u ≡ t) × (end ≡ after)
kept none u t at end after e = (refl, same_value u t end after e, same_place u t end after e)
kept (some rule) u t at end after e = absurd (unread rule at t after e)

found : (k : ℕ) (broken : List ℕ → Option Rule) (at : ℕ) (d : Decoded) (t : List ℕ) (after : ℕ)
    → field_in k broken at (exactly k d) ≡ is t after → Found k d broken at t after
found k broken at (wrong fault pair) t after e = absurd (unread rule.WellCoded (at + pair) t after e)
found k broken at (text u) t after e =
    by_test (eqb (length u) k)
    (λ b.
    let p =
    kept (broken u) u t at (at + width k) after (sym (ap (λ c. field_in k broken at (pick c (exact u) (wrong_at (width k - 2)))) b) ∙ e) in
    record {
      is_all = ap text p.1;
      size = subst (λ z. length z ≡ k) p.1 (eqb-true (length u) k b);
      keeps = subst (λ z. broken z ≡ none) p.1 p.0;
      place = p.2;
    })
    (λ b.
    absurd
    (unread rule.WellCoded (at + (width k - 2)) t after
    (sym (ap (λ c. field_in k broken at (pick c (exact u) (wrong_at (width k - 2)))) b) ∙ e)))

pub record FieldRead (k : ℕ) (broken : List ℕ → Option Rule) (at : ℕ) (s t : List ℕ) (after : ℕ) : Type 0 where
  pub is_text_lem : TextOf k t
  pub keeps : broken t ≡ none
  pub there : Stands (c40 t) at after s

pub field_read : (k : ℕ) (broken : List ℕ → Option Rule) (at : ℕ) (s t : List ℕ) (after : ℕ) → Bytes s → field k broken at s ≡ is t after
    → FieldRead k broken at s t after
field_read k broken at s t after bytes e =
    let w = whole_read (width k) at s (λ b. field_in k broken at (exactly k (decode 0 b))) t after e in
    let b = take (width k) (drop at s) in
    let f = found k broken at (decode 0 b) t after w.read in
    let r = decodes_published b (bytes_take (width k) (drop at s) (bytes_drop at s bytes)) 0 t f.is_all in
    record {
      is_text_lem = (f.size, r.0);
      keeps = f.keeps;
      there = record {
        form_there = stands (width k) at s w.there ∙ ap (λ z. z ++ drop (at + width k) s) (sym r.1)
            ∙ ap (λ n. c40 t ++ drop n s) f.place;
        size = sym f.place ∙ ap (λ n. at + n) (sym (ap length r.1 ∙ length_taken (width k) at s w.there));
      };
    }

-- what was read breaks no rule
pub field_keeps : (k : ℕ) (broken : List ℕ → Option Rule) (at : ℕ) (s t : List ℕ) (after : ℕ) → field k broken at s ≡ is t after
    → broken t ≡ none
field_keeps k broken at s t after e =
    let w = whole_read (width k) at s (λ b. field_in k broken at (exactly k (decode 0 b))) t after e in
    (found k broken at (decode 0 (take (width k) (drop at s))) t after w.read).keeps

-- rules that are all kept
pub kept_all : (b : Bool) (rule : Rule) (later : Option Rule) → unless b rule later ≡ none → (b ≡ true) × (later ≡ none)
kept_all true rule later e = (refl, e)
kept_all false rule later e = absurd (none-ne-some rule (sym e))

-- a country: letters, and spaces that are shown as fillers
abbrev Carried : ℕ → Type 0
Carried c = Letter c ⊎ (c ≡ 32)

carried_shown : (c : ℕ) → Carried c → carried (shown c) ≡ c
carried_shown c e =
    ⊎_elim (λ l. ap carried (letter_shown c l) ∙ letter_carried c l) (λ f. subst (λ x. carried (shown x) ≡ x) (sym f) refl) e

shown_is : (c : ℕ) → Carried c → Letter (shown c) ⊎ Filler (shown c)
shown_is c e = ⊎_elim (λ l. inl (subst Letter (sym (letter_shown c l)) l)) (λ f. inr (subst (λ x. shown x ≡ 60) (sym f) refl)) e

letter_no_filler : (c : ℕ) → Letter c → Filler (shown c) → ⊥
letter_no_filler c l f = let e = letter_shown c l in omega (arith, l.0)

country_of : (a b c : ℕ) → Letter a → Carried b → Carried c → (Filler (shown b) → Filler (shown c)) → Country (map shown (a ∷ b ∷ c ∷ []))
country_of a b c la eb ec f = record {
  size = refl;
  letters = (shown_is a (inl la), (shown_is b eb, (shown_is c ec, tt)));
  first = subst Letter (sym (letter_shown a la)) la;
  filled = filled_three (shown a) (shown b) (shown c) (λ g. absurd (letter_no_filler a la g)) f;
}

-- a text that passes, character by character
pub record CountryOf (t : List ℕ) : Type 0 where
  pub legal : Country (map shown t)
  pub back : map carried (map shown t) ≡ t

pub country_legal : (t : List ℕ) → length t ≡ 3 → is_country 32 t ≡ true → CountryOf t
country_legal [] l e = absurd (omega arith)
country_legal (a ∷ []) l e = absurd (omega arith)
country_legal (a ∷ b ∷ []) l e = absurd (omega arith)
country_legal (a ∷ b ∷ c ∷ d ∷ t) l e = absurd (omega arith)
country_legal (a ∷ b ∷ c ∷ []) l e =
    let p = both_true (is_letter a) (either (both (is_letter b) (either (is_letter c) (eqb c 32))) (both (eqb b 32) (eqb c 32))) e in
    let la = within_both 65 90 a p.0 in
    ⊎_elim
    (λ f.
    let q = both_true (is_letter b) (either (is_letter c) (eqb c 32)) f in
    let lb = within_both 65 90 b q.0 in
    let ec : Carried c =
    ⊎_elim (λ g. inl (within_both 65 90 c g)) (λ g. inr (eqb-true c 32 g)) (either_true (is_letter c) (eqb c 32) q.1) in
    built a b c la (inl lb) ec (λ g. absurd (letter_no_filler b lb g)))
    (λ f.
    let q = both_true (eqb b 32) (eqb c 32) f in
    let ec = eqb-true c 32 q.1 in
    built a b c la (inr (eqb-true b 32 q.0)) (inr ec) (λ g. subst (λ x. shown x ≡ 60) (sym ec) refl))
    (either_true (both (is_letter b) (either (is_letter c) (eqb c 32))) (both (eqb b 32) (eqb c 32)) p.1)
  where
    built : (a b c : ℕ) → Letter a → Carried b → Carried c → (Filler (shown b) → Filler (shown c)) → CountryOf (a ∷ b ∷ c ∷ [])
    built a b c la eb ec f = record {
      legal = country_of a b c la eb ec f;
      back =
          ap (λ x. x ∷ carried (shown b) ∷ carried (shown c) ∷ []) (carried_shown a (inl la))
          ∙ ap (λ x. a ∷ x ∷ carried (shown c) ∷ []) (carried_shown b eb)
          ∙ ap (λ x. a ∷ b ∷ x ∷ []) (carried_shown c ec);
    }

pub country_read :
    (at : ℕ) (s t : List ℕ) (after : ℕ) →
    Bytes s →
    country at s ≡ is t after →
    Country t × Stands (c40 (map carried t)) at after s
country_read at s t after bytes e =
    let i = steps (field 3 in_country at s) (λ t at. is (map shown t) at) t after e in
    let f = field_read 3 in_country at s i.value i.at bytes i.read in
    let c = country_legal i.value f.is_text_lem.0 (kept_all (is_country 32 i.value) rule.CountryCode none f.keeps).0 in
    let same = same_value (map shown i.value) t i.at after i.goes_on_lem in
    let place = same_place (map shown i.value) t i.at after i.goes_on_lem in
    let form_is : c40 i.value ≡ c40 (map carried t) = ap c40 (sym c.back ∙ ap (map carried) same) in
    (subst Country same c.legal, subst (λ u. Stands u at after s) form_is (subst (λ k. Stands (c40 i.value) at k s) place f.there))

-- version 3: nine characters
pub names_three_read :
    (at : ℕ) (s : List ℕ) (n : Names) (after : ℕ) →
    Bytes s →
    names three at s ≡ is n after →
    LegalNames three (n.signer, n.reference) × Stands (c40 (n.signer ++ n.reference)) at after s
names_three_read at s n after bytes e =
    let i = steps_on item.Names (field 9 in_nine at s) (λ t at. is (record { signer = take 4 t; reference = drop 4 t }) at) n after e in
    let t = i.value in
    let f = field_read 9 in_nine at s t i.at bytes i.read in
    let p = kept_all (is_signer (take 4 t)) rule.SignerCharacters _ f.keeps in
    let q = kept_all (all is_reference (drop 4 t)) rule.ReferenceCharacters none p.1 in
    let m : Names = record { signer = take 4 t; reference = drop 4 t } in
    let same = same_value m n i.at after i.goes_on_lem in
    let place = same_place m n i.at after i.goes_on_lem in
    let size : length t ≡ 9 = f.is_text_lem.0 in
    let legal : LegalNames three (take 4 t, drop 4 t) = record {
      signer = signer_of (take 4 t) (length-take-le 4 t (omega arith)) p.0;
      reference = all_of ReferenceCharacter is_reference reference_of (drop 4 t) q.0;
      size = length-drop 4 t ∙ omega arith;
    } in
    let there : Stands (c40 (take 4 t ++ drop 4 t)) at after s =
    subst (λ u. Stands (c40 u) at after s) (sym (take-append-drop 4 t)) (subst (λ k. Stands (c40 t) at k s) place f.there) in (
      subst (λ (z : Names). LegalNames three (z.signer, z.reference)) same legal,
      subst (λ (z : Names). Stands (c40 (z.signer ++ z.reference)) at after s) same there,
    )

-- the six characters that were read: the signer, and the digits of a length
record Six (t : List ℕ) : Type 0 where
  signer : Signer (take 4 t)
  some : 1 ≤ length_in t
  most : length_in t ≤ 255
  back : take 4 t ++ hex_digits (length_in t) ≡ t

six_of : (t : List ℕ) → length t ≡ 6 → in_six t ≡ none → Six t
six_of [] l e = absurd (omega arith)
six_of (a ∷ []) l e = absurd (omega arith)
six_of (a ∷ b ∷ []) l e = absurd (omega arith)
six_of (a ∷ b ∷ c ∷ []) l e = absurd (omega arith)
six_of (a ∷ b ∷ c ∷ d ∷ []) l e = absurd (omega arith)
six_of (a ∷ b ∷ c ∷ d ∷ x ∷ []) l e = absurd (omega arith)
six_of (a ∷ b ∷ c ∷ d ∷ x ∷ y ∷ z ∷ t) l e = absurd (omega arith)
six_of (a ∷ b ∷ c ∷ d ∷ x ∷ y ∷ []) l e =
    let t : List ℕ = a ∷ b ∷ c ∷ d ∷ x ∷ y ∷ [] in
    let n = hex_value x * 16 + hex_value y in
    let p = kept_all (is_signer (a ∷ b ∷ c ∷ d ∷ [])) rule.SignerCharacters _ e in
    let q = kept_all (is_hex t) rule.HexadecimalDigits _ p.1 in
    let some_length = kept_all (ltb 0 n) rule.NotZero none q.1 in
    let r = both_true (ltb (hex_value x) 16) (ltb (hex_value y) 16) q.0 in
    let hx = ltb-true (hex_value x) 16 r.0 in
    let hy = ltb-true (hex_value y) 16 r.1 in
    let high : n / 16 ≡ hex_value x = omega arith in
    let low : n % 16 ≡ hex_value y = omega arith in
    record {
      signer = signer_of (a ∷ b ∷ c ∷ d ∷ []) refl p.0;
      some = omega (arith, ltb-true 0 n some_length.0);
      most = omega arith;
      back =
          ap (λ u. a ∷ b ∷ c ∷ d ∷ u ∷ hex_digit (n % 16) ∷ []) (ap hex_digit high ∙ value_digit x hx)
          ∙ ap (λ u. a ∷ b ∷ c ∷ d ∷ x ∷ u ∷ []) (ap hex_digit low ∙ value_digit y hy);
    }

pub names_four_read :
    (at : ℕ) (s : List ℕ) (n : Names) (end : ℕ) →
    Bytes s →
    names four at s ≡ is n end →
    LegalNames four (n.signer, n.reference) × Stands (form.names four n.signer n.reference) at end s
names_four_read at s n end bytes e =
    let i = steps_on item.SignerAndLength (field 6 in_six at s) (after s) n end e in
    let x = i.value in
    let f = field_read 6 in_six at s x i.at bytes i.read in
    let j = steps_on (item.Reference (width (length_in x))) (field (length_in x) in_reference i.at s) (named x) n end i.goes_on_lem in
    let r = j.value in
    let g = field_read (length_in x) in_reference i.at s r j.at bytes j.read in
    let h = six_of x f.is_text_lem.0 f.keeps in
    let m : Names = record { signer = take 4 x; reference = r } in
    let same = same_value m n j.at end j.goes_on_lem in
    let place = same_place m n j.at end j.goes_on_lem in
    let size : length r ≡ length_in x = g.is_text_lem.0 in
    let legal : LegalNames four (take 4 x, r) = record {
      signer = h.signer;
      reference =
          all_of ReferenceCharacter is_reference reference_of r (kept_all (all is_reference r) rule.ReferenceCharacters none g.keeps).0;
      size = (omega (arith, h.some), omega (arith, h.most));
    } in
    let both_there : Stands (c40 x ++ c40 r) at end s =
    subst (λ k. Stands (c40 x ++ c40 r) at k s) place (stands_append (c40 x) (c40 r) at i.at j.at s f.there g.there) in
    let form_is : c40 x ++ c40 r ≡ form.names four (take 4 x) r =
    ap (λ u. c40 u ++ c40 r) (sym (ap (λ k. take 4 x ++ hex_digits k) size ∙ h.back)) ∙ sym (four_form (take 4 x, r) legal) in (
      subst (λ (z : Names). LegalNames four (z.signer, z.reference)) same legal,
      subst (λ (z : Names). Stands (form.names four z.signer z.reference) at end s) same
          (subst (λ u. Stands u at end s) form_is both_there),
    )

pub names_read :
    (v : Version) (at : ℕ) (s : List ℕ) (n : Names) (end : ℕ) →
    Bytes s →
    names v at s ≡ is n end →
    LegalNames v (n.signer, n.reference) × Stands (form.names v n.signer n.reference) at end s
names_read three at s n end bytes e = names_three_read at s n end bytes e
names_read four at s n end bytes e = names_four_read at s n end bytes e
