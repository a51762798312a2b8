-- What a pair carries, by the tests that lead there.
-- Assumes nothing.
use Rattle.std.specs.Prelude.{◌≡◌, Bool, ℕ, ◌-◌, ◌/◌, ◌%◌, ◌<◌, ◌≤◌, List, [], ◌∷◌, ltb, eqb, length, Result, Ok, Err}
use Rattle.std.proofs.Math.Path.{refl}
use Rattle.std.proofs.Common.{ap, sym, ◌∙◌, inl, inr}
use Rattle.std.proofs.Math.Bool.{true, false}
use native.Mathlib.Omega.{arith}
use borrow.Author.Tests.{ltb-true, ltb-false, le-ltb, lt-ltb, eqb-true, eqb-false, eq-eqb, ne_eqb}
use Rattle.format.specs.Choice.Laws.{by_test}
use Rattle.format.specs.BigEndian.{be}
use Rattle.pairs.specs.Chart.{the_chart, char_in, char, value_of, in_chart, InChart}
use Rattle.pairs.specs.Pairs.{packed_of, triple, number, first, second, third, single, values, pair_of, chars_of}
use Rattle.pairs.specs.Faults.{Misplaced, Has}
use Rattle.pairs.specs.declared.decode.Fault.{Fault}
use Rattle.pairs.specs.declared.decode.Fault.TheVariants.{OutOfRange, Shift, Single}
use Rattle.pairs.specs.declared.decode.Pair.{Pair}
use Rattle.pairs.specs.declared.decode.Pair.TheVariants.{Three, Two, One}

-- the two bytes of a triple
pub triple_is : (a b c : ℕ) → triple a b c ≡ (packed_of a b c / 256 % 256) ∷ (packed_of a b c % 256) ∷ []
unfolding triple be
triple_is a b c = refl

pub apart : {b : Bool} → b ≡ false → b ≡ true → ⊥
apart e f = let z : ◌≡◌ {A = ℕ} 0 1 = cc in omega arith

-- FE and a code
module _ (chart : List ℕ) (y : ℕ) where
  pub single_inner : (last : Bool) → last ≡ false → Err Single ≡ single chart last y
  unfolding single
  single_inner last e = simp e

  pub single_none : (last : Bool) → y ≡ 0 → Err Single ≡ single chart last y
  unfolding single
  single_none true h = simp (le-ltb 0 y (omega arith))
  single_none false h = refl

  pub single_stranger : (last : Bool) → (char_in chart (value_of (y - 1)) ≡ y - 1 → ⊥) → Err Single ≡ single chart last y
  unfolding single
  single_stranger true h =
      by_test (ltb 0 y) (λ e. simp (e, ne_eqb (char_in chart (value_of (y - 1))) (y - 1) h)) (λ e. simp e)
  single_stranger false h = refl

  pub single_one : (last : Bool) → last ≡ true → 0 < y → char_in chart (value_of (y - 1)) ≡ y - 1 → Ok (One (y - 1)) ≡ single chart last y
  unfolding single
  single_one last e h i = simp (e, lt-ltb 0 y h, eq-eqb (char_in chart (value_of (y - 1))) (y - 1) i)

-- three values
module _ (chart : List ℕ) (last : Bool) (a b c : ℕ) where
  pub values_first : a < 3 → Err Shift ≡ values chart last a b c
  unfolding values
  values_first h = simp (lt-ltb a 3 h)

  pub values_second : 3 ≤ a → b < 3 → Err Shift ≡ values chart last a b c
  unfolding values
  values_second h k = simp (le-ltb a 3 h, lt-ltb b 3 k)

  pub values_three : 3 ≤ a → 3 ≤ b → 3 ≤ c → Ok (Three (char_in chart a) (char_in chart b) (char_in chart c)) ≡ values chart last a b c
  unfolding values
  values_three h k l = simp (le-ltb a 3 h, le-ltb b 3 k, le-ltb c 3 l)

  pub values_third : 3 ≤ a → 3 ≤ b → c < 3 → (c ≡ 0 → ⊥) → Err Shift ≡ values chart last a b c
  unfolding values
  values_third h k l m = simp (le-ltb a 3 h, le-ltb b 3 k, lt-ltb c 3 l, ne_eqb c 0 m)

  pub values_two : last ≡ true → 3 ≤ a → 3 ≤ b → c ≡ 0 → Ok (Two (char_in chart a) (char_in chart b)) ≡ values chart last a b c
  unfolding values
  values_two e h k l = simp (e, le-ltb a 3 h, le-ltb b 3 k, lt-ltb c 3 (omega arith), eq-eqb c 0 l)

  pub values_inner : last ≡ false → 3 ≤ a → 3 ≤ b → c ≡ 0 → Err Shift ≡ values chart last a b c
  unfolding values
  values_inner e h k l = simp (e, le-ltb a 3 h, le-ltb b 3 k, lt-ltb c 3 (omega arith), eq-eqb c 0 l)

  -- wherever it stands
  pub values_misplaced : Misplaced last a b c → Err Shift ≡ values chart last a b c
  values_misplaced m =
      by_test (ltb a 3)
      (λ e. values_first (ltb-true a 3 e))
      (λ e. by_test (ltb b 3) (λ f. values_second (ltb-false a 3 e) (ltb-true b 3 f)) (λ f. as_third (ltb-false a 3 e) (ltb-false b 3 f) m))
    where
      as_third : 3 ≤ a → 3 ≤ b → Misplaced last a b c → Err Shift ≡ values chart last a b c
      as_third h k (inl low) = absurd (omega arith)
      as_third h k (inr (inl low)) = absurd (omega arith)
      as_third h k (inr (inr (inl one))) = values_third h k (omega arith) (λ z. omega arith)
      as_third h k (inr (inr (inr (inl c2)))) = values_third h k (omega arith) (λ z. omega arith)
      as_third h k (inr (inr (inr (inr (zero, inner))))) = values_inner inner h k zero

-- a pair
module _ (chart : List ℕ) (last : Bool) (x y : ℕ) where
  pub pair_zero : number x y ≡ 0 → Err OutOfRange ≡ pair_of chart last x y
  unfolding pair_of
  pair_zero h =
      let off : x ≡ 0xFE → ⊥ = λ e. omega arith in
      simp (ne_eqb x 0xFE off, le-ltb 0 (number x y) (omega arith))

  pub pair_large : (x ≡ 0xFE → ⊥) → 64000 < number x y → Err OutOfRange ≡ pair_of chart last x y
  unfolding pair_of
  pair_large h k = simp (ne_eqb x 0xFE h, lt-ltb 0 (number x y) (omega arith), lt-ltb 64000 (number x y) k)

  pub pair_single : x ≡ 0xFE → single chart last y ≡ pair_of chart last x y
  unfolding pair_of
  pair_single h = simp (eq-eqb x 0xFE h)

  pub pair_values : 0 < number x y → number x y ≤ 64000
      → values chart last (first (number x y)) (second (number x y)) (third (number x y)) ≡ pair_of chart last x y
  unfolding pair_of
  pair_values h k =
      let off : x ≡ 0xFE → ⊥ = λ e. omega arith in
      simp (ne_eqb x 0xFE off, lt-ltb 0 (number x y) h, le-ltb 64000 (number x y) k)

-- by a chart that is lent, and is the chart
pub by_chart : {chart : List ℕ} {p : Result Pair Fault} (last : Bool) (x y : ℕ)
    → chart ≡ the_chart → p ≡ pair_of chart last x y → p ≡ pair_of the_chart last x y
by_chart last x y e f = f ∙ ap (λ t. pair_of t last x y) e

-- a pair by the chart
module _ (last : Bool) (x y : ℕ) where
  -- a fault that the pair has is told
  pub fault_told : (fault : Fault) → Has fault last x y → pair_of the_chart last x y ≡ Err fault
  fault_told OutOfRange (not_fe, inl none) = sym (pair_zero the_chart last x y none)
  fault_told OutOfRange (not_fe, inr large) = sym (pair_large the_chart last x y not_fe large)
  fault_told Shift (some, most, shifted) =
      let n = number x y in
      sym (values_misplaced the_chart last (first n) (second n) (third n) shifted ∙ pair_values the_chart last x y some most)
  fault_told Single (fe, inl inner) = sym (single_inner the_chart y last inner ∙ pair_single the_chart last x y fe)
  fault_told Single (fe, inr stranger) =
      by_test (ltb 0 y)
      (λ e.
      let h = ltb-true 0 y e in
      let off : InChart (y - 1) → ⊥ = λ i. stranger (y - 1) i (omega arith) in
      sym (single_stranger the_chart y last off ∙ pair_single the_chart last x y fe))
      (λ e. let h = ltb-false 0 y e in sym (single_none the_chart y last (omega arith) ∙ pair_single the_chart last x y fe))

  -- every pair has a fault, or carries three characters, or is the last and carries two or one
  pub pair_cases : {C : Type 0}
      → ((fault : Fault) → Has fault last x y → C)
      → (0 < number x y → number x y ≤ 64000 → 3 ≤ first (number x y) → 3 ≤ second (number x y) → 3 ≤ third (number x y)
      → pair_of the_chart last x y ≡ Ok (Three (char (first (number x y))) (char (second (number x y))) (char (third (number x y)))) → C)
      → (0 < number x y → number x y ≤ 64000 → 3 ≤ first (number x y) → 3 ≤ second (number x y) → third (number x y) ≡ 0 → last ≡ true
      → pair_of the_chart last x y ≡ Ok (Two (char (first (number x y))) (char (second (number x y)))) → C)
      → (x ≡ 0xFE → 0 < y → InChart (y - 1) → last ≡ true → pair_of the_chart last x y ≡ Ok (One (y - 1)) → C)
      → C
  pair_cases {C} wrong three two one =
      by_test (eqb x 0xFE) fe
      (λ e. let not_fe = eqb-false x 0xFE e in
      by_test (ltb 0 n)
      (λ h. by_test (ltb 64000 n)
      (λ k. wrong OutOfRange (not_fe, inr (ltb-true 64000 n k)))
      (λ k. inside (ltb-true 0 n h) (ltb-false 64000 n k)))
      (λ h. let low = ltb-false 0 n h in wrong OutOfRange (not_fe, inl (omega arith))))
    where
      n : ℕ
      n = number x y

      stranger : (c : ℕ) → in_chart (y - 1) ≡ false → InChart c → y - 1 ≡ c → ⊥
      stranger c i k z = eqb-false (char (value_of (y - 1))) (y - 1) i (ap (λ d. char (value_of d)) z ∙ k ∙ sym z)

      fe : eqb x 0xFE ≡ true → C
      fe e =
          let is = eqb-true x 0xFE e in
          let pair = pair_single the_chart last x y is in
          by_test last
          (λ l. by_test (ltb 0 y)
          (λ h. by_test (in_chart (y - 1))
          (λ i. let chr = eqb-true (char (value_of (y - 1))) (y - 1) i in
          one is (ltb-true 0 y h) chr l (sym (single_one the_chart y last l (ltb-true 0 y h) chr ∙ pair)))
          (λ i. wrong Single (is, inr (λ c k z. stranger c i k (omega arith)))))
          (λ h. let low = ltb-false 0 y h in wrong Single (is, inr (λ c k z. omega arith))))
          (λ l. wrong Single (is, inl l))

      inside : 0 < n → n ≤ 64000 → C
      inside h k =
          let e = pair_values the_chart last x y h k in
          by_test (ltb (first n) 3)
          (λ a. wrong Shift (h, k, inl (ltb-true (first n) 3 a)))
          (λ a. let a3 = ltb-false (first n) 3 a in
          by_test (ltb (second n) 3)
          (λ b. wrong Shift (h, k, inr (inl (ltb-true (second n) 3 b))))
          (λ b. let b3 = ltb-false (second n) 3 b in
          by_test (ltb (third n) 3)
          (λ c. by_test (eqb (third n) 0)
          (λ z. let c0 = eqb-true (third n) 0 z in
          by_test last
          (λ l. two h k a3 b3 c0 l (sym (values_two the_chart last (first n) (second n) (third n) l a3 b3 c0 ∙ e)))
          (λ l. wrong Shift (h, k, inr (inr (inr (inr (c0, l)))))))
          (λ z. by_test (eqb (third n) 1)
          (λ o. wrong Shift (h, k, inr (inr (inl (eqb-true (third n) 1 o)))))
          (λ o.
          let c2 : third n ≡ 2 = omega (arith, ltb-true (third n) 3 c, eqb-false (third n) 0 z, eqb-false (third n) 1 o) in
          wrong Shift (h, k, inr (inr (inr (inl c2)))))))
          (λ c. let c3 = ltb-false (third n) 3 c in
          three h k a3 b3 c3 (sym (values_three the_chart last (first n) (second n) (third n) a3 b3 c3 ∙ e)))))

  -- a pair that is not the last and carries something carries three characters
  pub pair_full : last ≡ false
      → ((fault : Fault) → pair_of the_chart last x y ≡ Err fault → ⊥)
      → let n = number x y in
      (0 < n) × (n ≤ 64000) × (pair_of the_chart last x y ≡ Ok (Three (char (first n)) (char (second n)) (char (third n))))
  pair_full l not_wrong =
      pair_cases (λ fault has. absurd (not_wrong fault (fault_told fault has))) (λ h k a b c e. (h, k, e))
      (λ h k a b c l' e. absurd (apart l l'))
      (λ f h i l' e. absurd (apart l l'))

-- a pair carries at most three characters; one that carries none is wrongly coded
pub chars_most : (p : Result Pair Fault) → length (chars_of p) ≤ 3
chars_most (Ok (Three a b c)) = omega arith
chars_most (Ok (Two a b)) = omega arith
chars_most (Ok (One a)) = omega arith
chars_most (Err fault) = omega arith

pub chars_some : (p : Result Pair Fault) → 0 < length (chars_of p) → (fault : Fault) → p ≡ Err fault → ⊥
chars_some p h fault e = let z : length (chars_of p) ≡ 0 = ap (λ q. length (chars_of q)) e in omega arith

-- a pair carries characters, or says what is wrong
pub by_pair : {C : Type 0} (p : Result Pair Fault) → (0 < length (chars_of p) → C) → ((fault : Fault) → p ≡ Err fault → C) → C
by_pair (Ok (Three a b c)) some none = some (omega arith)
by_pair (Ok (Two a b)) some none = some (omega arith)
by_pair (Ok (One a)) some none = some (omega arith)
by_pair (Err fault) some none = none fault refl

-- the last pair, where it carries something: its number and its third value tell what
module _ (x y : ℕ) (some : 0 < length (chars_of (pair_of the_chart true x y))) where
  not_wrong : {C : Type 0} (fault : Fault) → Has fault true x y → C
  not_wrong fault has = absurd (chars_some (pair_of the_chart true x y) some fault (fault_told true x y fault has))

  pub last_one : 64000 < number x y → (0 < y) × (pair_of the_chart true x y ≡ Ok (One (y - 1)))
  last_one big =
      pair_cases true x y not_wrong (λ h k a b c e. absurd (omega arith)) (λ h k a b c l e. absurd (omega arith)) (λ f h i l e. (h, e))

  module _ (most : number x y ≤ 64000) where
    pub last_some : 0 < number x y
    last_some = pair_cases true x y not_wrong (λ h k a b c e. h) (λ h k a b c l e. h) (λ f h i l e. omega arith)

    pub last_two : third (number x y) ≡ 0
        → pair_of the_chart true x y ≡ Ok (Two (char (first (number x y))) (char (second (number x y))))
    last_two z =
        pair_cases true x y not_wrong (λ h k a b c e. absurd (omega arith)) (λ h k a b c l e. e) (λ f h i l e. absurd (omega arith))

    pub last_three : (third (number x y) ≡ 0 → ⊥)
        → pair_of the_chart true x y ≡ Ok (Three (char (first (number x y))) (char (second (number x y))) (char (third (number x y))))
    last_three z = pair_cases true x y not_wrong (λ h k a b c e. e) (λ h k a b c l e. absurd (z c)) (λ f h i l e. absurd (omega arith))
