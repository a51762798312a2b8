-- What the tests of a pair say of its three values, as facts on numbers, and back.
-- Assumes nothing.
use Rattle.std.specs.Prelude.{◌≡◌, ◌⊎◌, true, ℕ, ◌+◌, ◌<◌, ◌≤◌, ltb, leb, eqb}
use Rattle.std.proofs.Common.{sym, ◌∙◌, inl, inr, ⊎_elim, arith, leb-true, le-leb, ltb-true, lt-ltb, eqb-true, eq-eqb}
use Rattle.format.specs.Choice.{both, either, within}
use Rattle.format.specs.Choice.Laws.{not_true, both_true, both_are, either_true, either_left, either_right, within_both, within_true}
use Rattle.pairs.specs.Pairs.{packed_of, number, first, second, third}
use Rattle.front_pairs.specs.Pairs.{is_filler, is_letter, kept, fits}
use Rattle.front_pairs.specs.Pairs.Laws.{fits_values}
use Rattle.front_pairs.specs.declared.Kind.{Kind}
use Rattle.front_pairs.specs.declared.Kind.TheVariants.{Country, Signer, Triple, Length, Two, One}

-- three values that may stand there
abbrev pub Kept : Kind → ℕ → ℕ → ℕ → Type 0
Kept Country a b c = (14 ≤ a) × (((14 ≤ b) × ((14 ≤ c) ⊎ (c ≡ 3))) ⊎ ((b ≡ 3) × (c ≡ 3)))
Kept Signer a b c = (14 ≤ a) × (14 ≤ b) × (4 ≤ c)
Kept Triple a b c = (4 ≤ a) × (4 ≤ b) × (4 ≤ c)
Kept Length a b c = (4 ≤ a) × ((4 ≤ b) × (b ≤ 19)) × ((4 ≤ c) × (c ≤ 19)) × (8 < b + c)
Kept Two a b c = (4 ≤ a) × (4 ≤ b) × (c ≡ 0)
Kept One a b c = ⊥

kept_is : (kind : Kind) (a b c : ℕ) → kept kind a b c ≡ true → Kept kind a b c
kept_is Country a b c e =
    let s = both_true (is_letter a) (either (both (is_letter b) (either (is_letter c) (is_filler c))) (both (is_filler b) (is_filler c))) e in (
      leb-true 14 a s.0,
      ⊎_elim (λ t. inl (lettered (both_true (is_letter b) (either (is_letter c) (is_filler c)) t)))
          (λ t. let f = both_true (is_filler b) (is_filler c) t in inr (eqb-true b 3 f.0, eqb-true c 3 f.1))
          (either_true (both (is_letter b) (either (is_letter c) (is_filler c))) (both (is_filler b) (is_filler c)) s.1),
    )
  where
    lettered : (is_letter b ≡ true) × (either (is_letter c) (is_filler c) ≡ true) → (14 ≤ b) × ((14 ≤ c) ⊎ (c ≡ 3))
    lettered t = (
      leb-true 14 b t.0,
      ⊎_elim (λ u. inl (leb-true 14 c u)) (λ u. inr (eqb-true c 3 u)) (either_true (is_letter c) (is_filler c) t.1),
    )
kept_is Signer a b c e =
    let s = both_true (leb 14 a) (both (leb 14 b) (leb 4 c)) e in
    let t = both_true (leb 14 b) (leb 4 c) s.1 in
    (leb-true 14 a s.0, leb-true 14 b t.0, leb-true 4 c t.1)
kept_is Triple a b c e =
    let s = both_true (leb 4 a) (both (leb 4 b) (leb 4 c)) e in
    let t = both_true (leb 4 b) (leb 4 c) s.1 in
    (leb-true 4 a s.0, leb-true 4 b t.0, leb-true 4 c t.1)
kept_is Length a b c e =
    let s = both_true (leb 4 a) (both (within 4 19 b) (both (within 4 19 c) (ltb 8 (b + c)))) e in
    let t = both_true (within 4 19 b) (both (within 4 19 c) (ltb 8 (b + c))) s.1 in
    let u = both_true (within 4 19 c) (ltb 8 (b + c)) t.1 in
    (leb-true 4 a s.0, within_both 4 19 b t.0, within_both 4 19 c u.0, ltb-true 8 (b + c) u.1)
kept_is Two a b c e =
    let s = both_true (leb 4 a) (both (leb 4 b) (eqb c 0)) e in
    let t = both_true (leb 4 b) (eqb c 0) s.1 in
    (leb-true 4 a s.0, leb-true 4 b t.0, eqb-true c 0 t.1)
kept_is One a b c e = not_true e

is_kept : (kind : Kind) (a b c : ℕ) → Kept kind a b c → kept kind a b c ≡ true
is_kept Country a b c (h, inl (k, inl l)) = simp (le-leb 14 a h, le-leb 14 b k, le-leb 14 c l)
is_kept Country a b c (h, inl (k, inr l)) =
    both_are (leb 14 a) (either (both (leb 14 b) (either (leb 14 c) (eqb c 3))) (both (eqb b 3) (eqb c 3))) (le-leb 14 a h)
    (either_left (both (leb 14 b) (either (leb 14 c) (eqb c 3))) (both (eqb b 3) (eqb c 3))
    (both_are (leb 14 b) (either (leb 14 c) (eqb c 3)) (le-leb 14 b k) (either_right (leb 14 c) (eqb c 3) (eq-eqb c 3 l))))
is_kept Country a b c (h, inr (k, l)) =
    both_are (leb 14 a) (either (both (leb 14 b) (either (leb 14 c) (eqb c 3))) (both (eqb b 3) (eqb c 3))) (le-leb 14 a h)
    (either_right (both (leb 14 b) (either (leb 14 c) (eqb c 3))) (both (eqb b 3) (eqb c 3))
    (both_are (eqb b 3) (eqb c 3) (eq-eqb b 3 k) (eq-eqb c 3 l)))
is_kept Signer a b c (h, k, l) = simp (le-leb 14 a h, le-leb 14 b k, le-leb 4 c l)
is_kept Triple a b c (h, k, l) = simp (le-leb 4 a h, le-leb 4 b k, le-leb 4 c l)
is_kept Length a b c (h, (i, j), (k, l), m) =
    simp (le-leb 4 a h, le-leb 4 b i, le-leb b 19 j, le-leb 4 c k, le-leb c 19 l, lt-ltb 8 (b + c) m)
is_kept Two a b c (h, k, l) = simp (le-leb 4 a h, le-leb 4 b k, eq-eqb c 0 l)
is_kept One a b c k = absurd k

-- a pair that fits and is more than one character: its number is in range, and is made of three such values
pub record Made (kind : Kind) (n a b c : ℕ) : Type 0 where
  pub is : n ≡ packed_of a b c
  pub a_below : a < 40
  pub b_below : b < 40
  pub c_below : c < 40
  pub values : Kept kind a b c

pub fits_made : (kind : Kind) (x y : ℕ)
    → (kind ≡ One → ⊥)
    → fits kind x y ≡ true
    → let n = number x y in
    Made kind n (first n) (second n) (third n)
fits_made kind x y h e =
    let n = number x y in
    let s = both_true (within 1 64000 n) (kept kind (first n) (second n) (third n)) (fits_values kind x y h ∙ e) in
    let r = within_both 1 64000 n s.0 in
    record {
      is = omega arith;
      a_below = omega arith;
      b_below = omega arith;
      c_below = omega arith;
      values = kept_is kind (first n) (second n) (third n) s.1;
    }

-- the values of a number that is made of them
module _ (n a b c : ℕ) (e : n ≡ packed_of a b c) (ha : a < 40) (hb : b < 40) (hc : c < 40) where
  pub first_made : first n ≡ a
  first_made = omega arith

  pub second_made : second n ≡ b
  second_made = omega arith

  pub third_made : third n ≡ c
  third_made = omega arith

pub made_fits : (kind : Kind) (x y a b c : ℕ) → (kind ≡ One → ⊥) → Made kind (number x y) a b c → fits kind x y ≡ true
made_fits kind x y a b c h m =
    let n = number x y in
    let f = first_made n a b c m.is m.a_below m.b_below m.c_below in
    let s = second_made n a b c m.is m.a_below m.b_below m.c_below in
    let t = third_made n a b c m.is m.a_below m.b_below m.c_below in
    sym (fits_values kind x y h)
    ∙ both_are (within 1 64000 n) (kept kind (first n) (second n) (third n))
    (within_true 1 64000 n (omega (arith, m.is)) (omega (arith, m.is, m.a_below, m.b_below, m.c_below)))
    ((λ i. kept kind (f i) (s i) (t i)) ∙ is_kept kind a b c m.values)

-- FE and the code of a letter or digit plus 1
abbrev pub Single : ℕ → ℕ → Type 0
Single x y = (x ≡ 0xFE) × (((49 ≤ y) × (y ≤ 58)) ⊎ ((66 ≤ y) × (y ≤ 91)))

pub fits_single : (x y : ℕ) → fits One x y ≡ true → Single x y
unfolding fits
fits_single x y e =
    let s = both_true (eqb x 0xFE) (either (within 49 58 y) (within 66 91 y)) e in (
      eqb-true x 0xFE s.0,
      ⊎_elim (λ t. inl (within_both 49 58 y t)) (λ t. inr (within_both 66 91 y t)) (either_true (within 49 58 y) (within 66 91 y) s.1),
    )

pub single_fits : (x y : ℕ) → Single x y → fits One x y ≡ true
unfolding fits
single_fits x y (e, inl (h, k)) = simp (eq-eqb x 0xFE e, le-leb 49 y h, le-leb y 58 k)
single_fits x y (e, inr (h, k)) =
    both_are (eqb x 0xFE) (either (within 49 58 y) (within 66 91 y)) (eq-eqb x 0xFE e)
    (either_right (within 49 58 y) (within 66 91 y) (within_true 66 91 y h k))
