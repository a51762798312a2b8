-- An item of a header whose bytes are there, and from which a seal goes on, keeps its rules.
-- Assumes nothing.
use Rattle.std.specs.Prelude.{◌≡◌, refl, List, [], ◌∷◌, ◌++◌, map, ℕ, ◌≤◌, length, take, drop, get_or}
use Rattle.std.proofs.Common.{sym, ap, ap₂, ◌∙◌, subst, append_assoc, arith, add-zero, length-append, take_at, drop_at, get_or-take, get_or-drop}
use Rattle.format.specs.Bytes.{All}
use Rattle.format.specs.Bytes.Laws.{all_append}
use Rattle.format.proofs.Cut.Laws.{cut_sized}
use Rattle.c40.specs.Text.{TextOf, width, publish as c40}
use Rattle.c40.specs.Text.Laws.{length_publish}
use Rattle.c40.proofs.Exact.{three_ahead}
use Rattle.pairs.specs.Chart.{InChart}
use Rattle.dates.specs.Days.{Day, publish as date}
use Rattle.dates.proofs.Days.Laws.{length_publish as length_date}
use Rattle.grammar.specs.Content.{Version, three, four}
use Rattle.grammar.specs.Publish.{carried, hex_digits}
use Rattle.grammar.specs.Legal.{Signer, LetterOrDigit, LastByte}
use Rattle.grammar.proofs.Parts.{country_text, signer_text, reference_text, hex_text}
use Rattle.rules.specs.Rules.{Here, Carries, Digits, Rule, Keeps}
use Rattle.front.specs.Items.{byte, Mark, AnyVersion, version_item}
use Rattle.front_header.specs.Header.Chain.{Then}
use Rattle.front_header.specs.Header.Languages.{Texts, AfterMark, AfterVersion, AfterCountry, Start}
use Rattle.front_header.specs.Header.Names.{texts_from, name_from}
use Rattle.front_header.specs.Header.Parts.{three_listed}

-- text of k characters with a property, and what stands behind it
pub record Ahead (k : ℕ) (P : List ℕ → Type 0) (t : List ℕ) : Type 0 where
  pub text : List ℕ
  pub legal : TextOf k text
  pub good : P text
  pub rest : List ℕ
  pub is : c40 text ++ rest ≡ t

-- a country
pub country_ahead : (v : Version) (t : List ℕ) → AfterVersion v t → Ahead 3 (λ u. Unit) t
country_ahead v t y =
    record { text = map carried y.a; legal = country_text y.a y.legal; good = tt; rest = y.rest; is = y.is }

-- signer and reference of version 3
abbrev pub Nine : List ℕ → Type 0
Nine u = Signer (take 4 u) × All LetterOrDigit (drop 4 u)

pub names_ahead : (t : List ℕ) → AfterCountry three t → Ahead 9 Nine t
names_ahead t y =
    let n = name_from three t y in
    let a = n.signer in
    let r = n.reference in
    let h = signer_text a n.legal.signer in
    record {
      text = a ++ r;
      legal = (
        length-append a r ∙ omega (arith, h.0, n.legal.size),
        all_append InChart a r h.1 (reference_text r n.legal.reference),
      );
      good = (
        subst Signer (sym (take_at a r 4 h.0)) n.legal.signer,
        subst (All LetterOrDigit) (sym (drop_at a r 4 h.0)) n.legal.reference,
      );
      rest = n.rest;
      is = n.is;
    }

-- signer and length of version 4
abbrev pub Six : List ℕ → Type 0
Six u = Signer (take 4 u) × (n : ℕ) × (1 ≤ n) × Digits n u

pub length_ahead : (t : List ℕ) → AfterCountry four t → Ahead 6 Six t
length_ahead t y =
    let m = y.more in
    let a = get_or y.a 0 0 in
    let b = get_or y.a 1 0 in
    let c = get_or y.a 2 0 in
    let d = m.a.0 in
    let n = m.a.1 in
    let signer : Signer (a ∷ b ∷ c ∷ d ∷ []) = record {
      size = refl;
      first = y.legal.first;
      second = y.legal.second;
      third = y.legal.third;
      fourth = m.legal.0;
    } in
    let h = (signer_text (a ∷ b ∷ c ∷ d ∷ []) signer).1 in
    record {
      text = a ∷ b ∷ c ∷ d ∷ hex_digits n;
      legal = (refl, (h.0, (h.1.0, (h.1.1.0, (h.1.1.1.0, hex_text n m.legal.2)))));
      good = (signer, n, m.legal.1, (m.legal.2, refl));
      rest = m.rest;
      is =
          ap (λ (x : List ℕ). x ++ m.rest) (three_ahead (a ∷ b ∷ c ∷ []) (d ∷ hex_digits n) refl)
          ∙ append_assoc (c40 (a ∷ b ∷ c ∷ [])) (c40 (d ∷ hex_digits n)) m.rest
          ∙ ap₂ (λ (x : List ℕ) (z : List ℕ). c40 x ++ z) (sym (three_listed y.a y.legal.size)) m.is
          ∙ y.is;
    }

-- a reference of version 4
pub reference_ahead : (n : ℕ) (Q : List ℕ → Type 0) (t : List ℕ) → Texts n Q t → Ahead n (All LetterOrDigit) t
reference_ahead n Q t y =
    let x = texts_from Q n t y in
    record {
      text = x.a;
      legal = (x.legal.0, reference_text x.a x.legal.1);
      good = x.legal.1;
      rest = x.rest;
      is = x.is;
    }

module _ (s : List ℕ) (p : ℕ) where
  -- the first w bytes from the place on, all there
  abbrev pub part : ℕ → List ℕ
  part w = take w (drop p s)

  abbrev pub Whole : ℕ → Type 0
  Whole w = length (part w) ≡ w

  -- a form of w bytes that the input goes on with stands there
  pub front_here : (w : ℕ) (a rest r : List ℕ) → length a ≡ w → Whole w → a ++ rest ≡ part w ++ r → Here s p a
  front_here w a rest r la lx e = ap (λ (n : ℕ). take n (drop p s)) la ∙ sym (cut_sized w a (part w) rest r la lx e).0

  -- an item's form
  pub then_here :
      {A : Type 0} (L : A → Type 0) (f : A → List ℕ) (Q : A → List ℕ → Type 0) (w : ℕ) →
      ((a : A) → L a → length (f a) ≡ w) →
      Whole w →
      (r : List ℕ) (y : Then L f Q (part w ++ r)) →
      Here s p (f y.a)
  then_here L f Q w size h r y = front_here w (f y.a) y.rest r (size y.a y.legal) h y.is

  -- text
  pub text_here :
      (k : ℕ) (P : List ℕ → Type 0) →
      Whole (width k) →
      (r : List ℕ) (y : Ahead k P (part (width k) ++ r)) →
      Here s p (c40 y.text)
  text_here k P h r y =
      front_here (width k) (c40 y.text) y.rest r (length_publish y.text ∙ ap width y.legal.0) h y.is

  -- one byte
  pub byte_here : (n : ℕ) → Here s p (n ∷ []) → get_or s p 0 ≡ n
  byte_here n h = sym first ∙ ap (λ (x : List ℕ). get_or x 0 0) h
    where
      first : get_or (take 1 (drop p s)) 0 0 ≡ get_or s p 0
      first = get_or-take 1 (drop p s) 0 0 (omega arith) ∙ get_or-drop p s 0 0 ∙ ap (λ (n : ℕ). get_or s n 0) (add-zero p)

  -- the mark
  pub mark_kept : Whole 1 → (r : List ℕ) → Start (part 1 ++ r) → Keeps s p Rule.is_mark
  mark_kept h r y = byte_here y.a (then_here Mark byte (λ _. AfterMark) 1 (λ a l. refl) h r y) ∙ sym y.legal

  -- the version
  pub version_kept : Whole 1 → (r : List ℕ) → AfterMark (part 1 ++ r) → Keeps s p Rule.is_version
  version_kept h r y = (y.a, byte_here _ (then_here AnyVersion version_item AfterVersion 1 (λ a l. refl) h r y))

  -- the country
  pub country_kept : (v : Version) → Whole 2 → (r : List ℕ) → AfterVersion v (part 2 ++ r) → Keeps s p Rule.country_code
  unfolding country_ahead
  country_kept v h r y = (y.a, y.legal, text_here 3 (λ u. Unit) h r (country_ahead v (part 2 ++ r) y))

  -- a date
  pub day_kept : (Q : List ℕ → Type 0) → Whole 3 → (r : List ℕ) → Then Day date (λ _. Q) (part 3 ++ r) → Keeps s p Rule.is_day
  day_kept Q h r y = (y.a, y.legal, then_here Day date (λ _. Q) 3 (λ d l. length_date d) h r y)

  -- a byte of 1 to 254
  pub last_kept : (Q : List ℕ → Type 0) → Whole 1 → (r : List ℕ) → Then LastByte byte (λ _. Q) (part 1 ++ r) → Keeps s p Rule.one_to254
  last_kept Q h r y =
      subst LastByte (sym (byte_here y.a (then_here LastByte byte (λ _. Q) 1 (λ a l. refl) h r y))) y.legal

  -- text and what is said of it
  pub text_kept :
      (k : ℕ) (P : List ℕ → Type 0) →
      Whole (width k) →
      (r : List ℕ) →
      Ahead k P (part (width k) ++ r) →
      Carries s p k P
  text_kept k P h r y = (y.text, y.legal, text_here k P h r y, y.good)
