-- The pairs that fit are exactly the published forms of the header's texts, kind by kind; so how many bytes can be completed to a pair is
-- how many such a form begins with.
-- Assumes nothing.
use Rattle.std.specs.Prelude.{◌≡◌, refl, ◌⊎◌, true, ℕ, ◌+◌, ◌-◌, ◌<◌, List, [], ◌∷◌, length, get_or}
use Rattle.std.proofs.Common.{sym, ap, subst, ◌∙◌, inl, inr, ⊎_elim, arith}
use Rattle.format.specs.Bytes.{Bytes}
use Rattle.format.specs.Bytes.Laws.{all_at}
use Rattle.pairs.specs.Chart.{value_of}
use Rattle.pairs.specs.Chart.Laws.{value_range}
use Rattle.pairs.specs.Pairs.{packed_of, triple, number, first, second, third}
use Rattle.c40.specs.Text.{publish as c40}
use Rattle.grammar.specs.Legal.{Letter, LetterOrDigit}
use Rattle.front.specs.Front.{Longest}
use Rattle.front.specs.Items.{Item, Reader, First, Characters}
use Rattle.front_pairs.specs.Pairs.{fits, pair_front}
use Rattle.front_pairs.specs.Pairs.Laws.{several}
use Rattle.front_pairs.specs.Pairs.Laws.Kept.{Kept, fits_made, fits_single, single_fits}
use Rattle.front_pairs.specs.declared.Kind.{Kind}
use Rattle.front_pairs.specs.declared.Kind.TheVariants as kind
use Rattle.front_header.specs.Header.Parts.{three_listed}
use Rattle.front_header.specs.Pairs.{Pair, pair_front_is}
use Rattle.front_header.specs.Pairs.Values.{With, letter_with, either_with, letter_value, either_value}
use Rattle.front_header.specs.Pairs.Values.{triple_bytes, triple_pair, form_two, form_one, form_with, three_pair}

-- an item whose forms are exactly the pairs that fit, and how far it is begun
module _ (k : Kind) {A : Type 0} (L : A → Type 0) (p : A → List ℕ) where
  -- a pair that fits is the form of a legal value
  abbrev pub Sound : Type 0
  Sound = (x y : ℕ) → x < 256 → y < 256 → fits k x y ≡ true → (a : A) × L a × (p a ≡ x ∷ y ∷ [])

  -- and the form of a legal value is a pair that fits
  abbrev pub Complete : Type 0
  Complete = (a : A) → L a → (x : ℕ) × (y : ℕ) × (p a ≡ x ∷ y ∷ []) × (x < 256) × (y < 256) × (fits k x y ≡ true)

  pub item_front : Sound → Complete → (s : List ℕ) → Bytes s → Longest (Item L p) s (pair_front k s)
  item_front sound complete =
      pair_front_is k (Item L p)
      (λ x y hx hy e. let r = sound x y hx hy e in record { a = r.0; legal = r.1; is = r.2 })
      (λ t i. subst (Pair k) i.is (complete i.a i.legal))

  -- a reader of such an item: its forms have two bytes
  pub item_reader : Sound → Complete → Reader L p 2 (pair_front k)
  item_reader sound complete = record {
    size = λ a l. ap length (complete a l).2;
    front = item_front sound complete;
  }

-- three characters, a pair of bytes
record Three (P Q R : ℕ → Type 0) (x : List ℕ) : Type 0 where
  size : length x ≡ 3
  p : P (get_or x 0 0)
  q : Q (get_or x 1 0)
  r : R (get_or x 2 0)

module _ (k : Kind) (P Q R : ℕ → Type 0) (h : k ≡ kind.One → ⊥) where
  three_complete : ((a b c : ℕ) → P a → Q b → R c → Kept k (value_of a) (value_of b) (value_of c)) → Complete k (Three P Q R) c40
  three_complete kept t l =
      subst (λ u. Pair k (c40 u)) (sym (three_listed t l.size)) (three_pair k _ _ _ h (kept _ _ _ l.p l.q l.r))

  three_sound : (x y a b c : ℕ) → x < 256 → y < 256 → number x y ≡ packed_of a b c → With P a → With Q b → With R c
      → (t : List ℕ) × Three P Q R t × (c40 t ≡ x ∷ y ∷ [])
  three_sound x y a b c hx hy e p q r = (
    p.c ∷ q.c ∷ r.c ∷ [],
    record { size = refl; p = p.legal; q = q.legal; r = r.legal },
    form_with P Q R a b c x y p q r hx hy e,
  )

-- the signer's first three
pub first_sound : Sound kind.Signer First c40
first_sound x y hx hy e =
    let m = fits_made kind.Signer x y (several kind.Signer refl) e in
    let v = m.values in
    let t = three_sound kind.Signer Letter Letter LetterOrDigit (several kind.Signer refl) x y _ _ _ hx hy m.is
    (letter_with _ v.0 m.a_below) (letter_with _ v.1 m.b_below) (either_with _ v.2 m.c_below) in
    (t.0, record { size = t.1.size; first = t.1.p; second = t.1.q; third = t.1.r }, t.2)

pub first_complete : Complete kind.Signer First c40
first_complete t l =
    three_complete kind.Signer Letter Letter LetterOrDigit (several kind.Signer refl)
    (λ a b c p q r. (letter_value a p, letter_value b q, either_value c r))
    t (record { size = l.size; p = l.first; q = l.second; r = l.third })

-- three letters or digits
abbrev Next : List ℕ → Type 0
Next = Three LetterOrDigit LetterOrDigit LetterOrDigit

next_characters : (t : List ℕ) → Next t → Characters 3 t
next_characters [] l = absurd (omega (arith, l.size))
next_characters (a ∷ []) l = absurd (omega (arith, l.size))
next_characters (a ∷ b ∷ []) l = absurd (omega (arith, l.size))
next_characters (a ∷ b ∷ c ∷ []) l = (refl, (l.p, (l.q, (l.r, tt))))
next_characters (a ∷ b ∷ c ∷ d ∷ t) l = absurd (omega (arith, l.size))

pub triple_sound : Sound kind.Triple (Characters 3) c40
triple_sound x y hx hy e =
    let m = fits_made kind.Triple x y (several kind.Triple refl) e in
    let v = m.values in
    let t = three_sound kind.Triple LetterOrDigit LetterOrDigit LetterOrDigit (several kind.Triple refl) x y _ _ _ hx hy m.is
    (either_with _ v.0 m.a_below) (either_with _ v.1 m.b_below) (either_with _ v.2 m.c_below) in
    (t.0, next_characters t.0 t.1, t.2)

pub triple_complete : Complete kind.Triple (Characters 3) c40
triple_complete t l =
    three_complete kind.Triple LetterOrDigit LetterOrDigit LetterOrDigit (several kind.Triple refl)
    (λ a b c p q r. (either_value a p, either_value b q, either_value c r))
    t
    (record {
      size = l.0;
      p = all_at LetterOrDigit 0 t l.1 0 (omega arith);
      q = all_at LetterOrDigit 0 t l.1 1 (omega arith);
      r = all_at LetterOrDigit 0 t l.1 2 (omega arith);
    })

-- two characters that end a reference
pub two_sound : Sound kind.Two (Characters 2) c40
two_sound x y hx hy e =
    let m = fits_made kind.Two x y (several kind.Two refl) e in
    let v = m.values in
    let n = number x y in
    let p = either_with (first n) v.0 m.a_below in
    let q = either_with (second n) v.1 m.b_below in (
      p.c ∷ q.c ∷ [],
      (refl, (p.legal, (q.legal, tt))),
      form_two p.c q.c ∙ (λ i. triple (p.is i) (q.is i) 0)
          ∙ triple_bytes (first n) (second n) 0 x y hx hy (m.is ∙ ap (packed_of (first n) (second n)) v.2),
    )

pub two_complete : Complete kind.Two (Characters 2) c40
two_complete [] l = absurd (omega (arith, l.0))
two_complete (a ∷ []) l = absurd (omega (arith, l.0))
two_complete (a ∷ b ∷ []) l =
    subst (Pair kind.Two) (sym (form_two a b))
    (triple_pair kind.Two (value_of a) (value_of b) 0 (several kind.Two refl) (value_range a).1 (value_range b).1 (omega arith)
    (either_value a l.1.0, either_value b l.1.1.0, refl))
two_complete (a ∷ b ∷ c ∷ t) l = absurd (omega (arith, l.0))

-- one
pub one_sound : Sound kind.One (Characters 1) c40
one_sound x y hx hy e =
    let s = fits_single x y e in
    let back : y - 1 + 1 ≡ y = ⊎_elim (λ h. omega arith) (λ h. omega arith) s.1 in
    let code : LetterOrDigit (y - 1) =
    ⊎_elim (λ h. inr (omega arith, omega arith)) (λ h. inl (omega arith, omega arith)) s.1 in
    ((y - 1) ∷ [], (refl, (code, tt)), form_one (y - 1) ∙ (λ i. sym s.0 i ∷ back i ∷ []))

pub one_complete : Complete kind.One (Characters 1) c40
one_complete [] l = absurd (omega (arith, l.0))
one_complete (a ∷ []) l =
    let code = l.1.0 in (
      0xFE,
      a + 1,
      form_one a,
      omega arith,
      ⊎_elim (λ h. omega arith) (λ h. omega arith) code,
      single_fits 0xFE (a + 1)
          (refl, ⊎_elim (λ h. inr (omega arith, omega arith)) (λ h. inl (omega arith, omega arith)) code),
    )
one_complete (a ∷ b ∷ t) l = absurd (omega (arith, l.0))
