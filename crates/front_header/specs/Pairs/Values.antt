-- The characters of a header's pairs, by their values, and back; and a pair's bytes, by its three values.
-- Assumes nothing.
use Rattle.std.specs.Prelude.{◌≡◌, refl, ℕ, ◌+◌, ◌-◌, ◌/◌, ◌%◌, ◌<◌, ◌≤◌, [], ◌∷◌, ltb, Ok}
use Rattle.std.proofs.Common.{sym, subst, ◌∙◌, inl, inr, ⊎_elim, arith, ltb-true, ltb-false, eq-eqb, ne_eqb}
use Rattle.format.specs.Choice.Laws.{by_test}
use Rattle.pairs.specs.Chart.{value_of}
use Rattle.pairs.specs.Chart.Laws.{value_space, value_digit, value_letter, value_range}
use Rattle.pairs.specs.Pairs.{packed_of, triple, number}
use Rattle.pairs.proofs.Pairs.Laws.{triple_is}
use Rattle.pairs.specs.declared.decode.Pair.TheVariants as pair
use Rattle.c40.specs.Text.{publish as c40}
use Rattle.c40.specs.Text.Laws.{publish_pair}
use Rattle.grammar.specs.Legal.{Letter, Digit, LetterOrDigit, Filler}
use Rattle.grammar.specs.Publish.{carried}
use Rattle.front_pairs.specs.Pairs.Laws.Kept.{Kept, made_fits}
use Rattle.front_pairs.specs.declared.Kind.{Kind}
use Rattle.front_pairs.specs.declared.Kind.TheVariants.{One}
use Rattle.front_header.specs.Pairs.{Pair}

-- a character with a value
pub record With (P : ℕ → Type 0) (v : ℕ) : Type 0 where
  pub c : ℕ
  pub legal : P c
  pub is : value_of c ≡ v

pub letter_with : (v : ℕ) → 14 ≤ v → v < 40 → With Letter v
letter_with v h k = record {
  c = v + 51;
  legal = (omega arith, omega arith);
  is = sym (value_letter (v + 51) (omega arith) (omega arith)) ∙ omega arith;
}

digit_with : (v : ℕ) → 4 ≤ v → v < 14 → With Digit v
digit_with v h k = record {
  c = v + 44;
  legal = (omega arith, omega arith);
  is = sym (value_digit (v + 44) (omega arith) (omega arith)) ∙ omega arith;
}

pub either_with : (v : ℕ) → 4 ≤ v → v < 40 → With LetterOrDigit v
either_with v h k =
    by_test (ltb v 14)
    (λ t. let w = digit_with v h (ltb-true v 14 t) in record { c = w.c; legal = inr w.legal; is = w.is })
    (λ t. let w = letter_with v (ltb-false v 14 t) k in record { c = w.c; legal = inl w.legal; is = w.is })

-- the values of letters and digits
pub letter_value : (c : ℕ) → Letter c → 14 ≤ value_of c
letter_value c h = omega (arith, value_letter c h.0 (omega arith))

pub either_value : (c : ℕ) → LetterOrDigit c → 4 ≤ value_of c
either_value c h =
    ⊎_elim (λ l. omega (arith, value_letter c l.0 (omega arith))) (λ d. omega (arith, value_digit c d.0 (omega arith))) h

-- a letter is carried as it is, and a filler as a space
pub letter_carried : (c : ℕ) → Letter c → carried c ≡ c
letter_carried c h = rw (ne_eqb c 60 (λ e. omega arith)) refl

pub filler_carried : (c : ℕ) → Filler c → value_of (carried c) ≡ 3
filler_carried c h = rw (eq-eqb c 60 h) (sym (value_space 32 (omega arith)))

-- the bytes of three values
pub triple_bytes : (a b c x y : ℕ) → x < 256 → y < 256 → number x y ≡ packed_of a b c → triple a b c ≡ x ∷ y ∷ []
triple_bytes a b c x y hx hy e =
    let n = packed_of a b c in
    let high : n / 256 % 256 ≡ x = omega arith in
    let low : n % 256 ≡ y = omega arith in
    triple_is a b c ∙ (λ i. high i ∷ low i ∷ [])

-- three values that may stand there are a pair that fits
pub triple_pair : (kind : Kind) (a b c : ℕ) → (kind ≡ One → ⊥) → a < 40 → b < 40 → c < 40 → Kept kind a b c → Pair kind (triple a b c)
triple_pair kind a b c h ha hb hc k =
    let n = packed_of a b c in
    let x = n / 256 % 256 in
    let y = n % 256 in (
      x,
      y,
      triple_is a b c,
      omega arith,
      omega arith,
      made_fits kind x y a b c h record { is = omega arith; a_below = ha; b_below = hb; c_below = hc; values = k },
    )

-- the form of three characters and of two
pub form_three : (a b c : ℕ) → c40 (a ∷ b ∷ c ∷ []) ≡ triple (value_of a) (value_of b) (value_of c)
form_three a b c = publish_pair (Ok (pair.Three a b c))

pub form_two : (a b : ℕ) → c40 (a ∷ b ∷ []) ≡ triple (value_of a) (value_of b) 0
form_two a b = publish_pair (Ok (pair.Two a b))

pub form_one : (a : ℕ) → c40 (a ∷ []) ≡ 0xFE ∷ (a + 1) ∷ []
form_one a = publish_pair (Ok (pair.One a))

-- the form of text of three characters that have these values
pub form_with :
    (P Q R : ℕ → Type 0) (a b c x y : ℕ) (p : With P a) (q : With Q b) (r : With R c)
    → x < 256 → y < 256 → number x y ≡ packed_of a b c
    → c40 (p.c ∷ q.c ∷ r.c ∷ []) ≡ x ∷ y ∷ []
form_with P Q R a b c x y p q r hx hy e =
    form_three p.c q.c r.c ∙ (λ i. triple (p.is i) (q.is i) (r.is i)) ∙ triple_bytes a b c x y hx hy e

-- and three characters whose values may stand there are a pair that fits
pub three_pair :
    (kind : Kind) (a b c : ℕ) → (kind ≡ One → ⊥) → Kept kind (value_of a) (value_of b) (value_of c)
    → Pair kind (c40 (a ∷ b ∷ c ∷ []))
three_pair kind a b c h k =
    subst (Pair kind) (sym (form_three a b c))
    (triple_pair kind (value_of a) (value_of b) (value_of c) h (value_range a).1 (value_range b).1 (value_range c).1 k)
