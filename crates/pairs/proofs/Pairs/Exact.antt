-- A pair carries exactly the characters whose form it is: sound and complete.
-- Assumes nothing.
use Rattle.std.specs.Prelude.{◌≡◌, refl, Bool, true, ℕ, ◌+◌, ◌-◌, ◌/◌, ◌%◌, ◌<◌, ◌≤◌, [], ◌∷◌, Ok, Err}
use Rattle.std.proofs.Common.{ap, sym, subst, ◌∙◌, arith}
use Rattle.pairs.specs.Chart.{the_chart, char, value_of, InChart}
use Rattle.pairs.specs.Chart.Laws.{value_range, value_char, char_in_lem}
use Rattle.pairs.specs.Pairs.{packed_of, triple, number, first, second, third, pair_of}
use Rattle.pairs.proofs.Pairs.Laws.{triple_is, fault_told, pair_cases, pair_values, pair_single, values_three, values_two, single_one}
use Rattle.pairs.proofs.Pairs.Laws.{apart}
use Rattle.pairs.specs.Faults.{Carries}
use Rattle.pairs.specs.declared.decode.Fault.{Fault}
use Rattle.pairs.specs.declared.decode.Pair.TheVariants.{Three, Two, One}

-- three values and their number, there and back
module _ (a b c : ℕ) (ha : a < 40) (hb : b < 40) (hc : c < 40) where
  packed_range : (0 < packed_of a b c) × (packed_of a b c ≤ 64000)
  packed_range = (omega arith, omega arith)

  packed_first : first (packed_of a b c) ≡ a
  packed_first = omega arith

  packed_second : second (packed_of a b c) ≡ b
  packed_second = omega arith

  packed_third : third (packed_of a b c) ≡ c
  packed_third = omega arith

split_packed : (n : ℕ) → 0 < n → n ≤ 64000 → packed_of (first n) (second n) (third n) ≡ n
split_packed n h k = omega arith

split_below : (n : ℕ) → n ≤ 64000 → (first n < 40) × (second n < 40) × (third n < 40)
split_below n h = (omega arith, omega arith, omega arith)

-- the number of a packed pair's bytes
packed_number : (n : ℕ) → n ≤ 64000 → number (n / 256 % 256) (n % 256) ≡ n
packed_number n h = omega arith

bytes_number : (x y : ℕ) → x < 256 → y < 256 → (number x y / 256 % 256 ≡ x) × (number x y % 256 ≡ y)
bytes_number x y hx hy = (omega arith, omega arith)

-- complete: the form of three characters, and at the end of two or one, carries them
module _ (a b c : ℕ) (last : Bool) (ia : InChart a) (ib : InChart b) (ic : InChart c) where
  pub pair_three : let n = packed_of (value_of a) (value_of b) (value_of c) in pair_of the_chart last (n / 256 % 256) (n % 256) ≡ Ok (Three a b c)
  pair_three =
      let va = value_range a in
      let vb = value_range b in
      let vc = value_range c in
      let n = packed_of (value_of a) (value_of b) (value_of c) in
      let m = number (n / 256 % 256) (n % 256) in
      let e : m ≡ n = packed_number n (omega arith) in
      let fa : first m ≡ value_of a = ap first e ∙ packed_first (value_of a) (value_of b) (value_of c) va.1 vb.1 vc.1 in
      let fb : second m ≡ value_of b = ap second e ∙ packed_second (value_of a) (value_of b) (value_of c) va.1 vb.1 vc.1 in
      let fc : third m ≡ value_of c = ap third e ∙ packed_third (value_of a) (value_of b) (value_of c) va.1 vb.1 vc.1 in
      sym (pair_values the_chart last (n / 256 % 256) (n % 256) (omega arith) (omega arith))
      ∙ sym (values_three the_chart last (first m) (second m) (third m) (omega arith) (omega arith) (omega arith))
      ∙ (λ i. Ok (Three ((ap char fa ∙ ia) i) ((ap char fb ∙ ib) i) ((ap char fc ∙ ic) i)))

module _ (a b : ℕ) (ia : InChart a) (ib : InChart b) where
  pub pair_two : let n = packed_of (value_of a) (value_of b) 0 in pair_of the_chart true (n / 256 % 256) (n % 256) ≡ Ok (Two a b)
  pair_two =
      let va = value_range a in
      let vb = value_range b in
      let n = packed_of (value_of a) (value_of b) 0 in
      let m = number (n / 256 % 256) (n % 256) in
      let e : m ≡ n = packed_number n (omega arith) in
      let fa : first m ≡ value_of a = ap first e ∙ packed_first (value_of a) (value_of b) 0 va.1 vb.1 (omega arith) in
      let fb : second m ≡ value_of b = ap second e ∙ packed_second (value_of a) (value_of b) 0 va.1 vb.1 (omega arith) in
      let fc : third m ≡ 0 = ap third e ∙ packed_third (value_of a) (value_of b) 0 va.1 vb.1 (omega arith) in
      sym (pair_values the_chart true (n / 256 % 256) (n % 256) (omega arith) (omega arith))
      ∙ sym (values_two the_chart true (first m) (second m) (third m) refl (omega arith) (omega arith) fc)
      ∙ (λ i. Ok (Two ((ap char fa ∙ ia) i) ((ap char fb ∙ ib) i)))

pub pair_one : (a : ℕ) → InChart a → pair_of the_chart true 0xFE (a + 1) ≡ Ok (One a)
pair_one a ia =
    let e : a + 1 - 1 ≡ a = omega arith in
    sym (pair_single the_chart true 0xFE (a + 1) refl)
    ∙ sym (single_one the_chart (a + 1) true refl (omega arith) (ap (λ k. char (value_of k)) e ∙ ia ∙ sym e))
    ∙ ap (λ c. Ok (One c)) e

-- sound: what a pair that is not wrong carries is characters of the chart whose form it is; and three of them where it is not the last
module _ (last : Bool) (x y : ℕ) (hx : x < 256) (hy : y < 256) where
  pub pair_sound : ((fault : Fault) → pair_of the_chart last x y ≡ Err fault → ⊥) → Carries last x y (pair_of the_chart last x y)
  pair_sound good =
      pair_cases last x y
      (λ fault has. absurd (good fault (fault_told last x y fault has)))
      (λ h k a b c e. subst (λ p. Carries last x y p) (sym e) (three h k a b c))
      (λ h k a b c l e. subst (λ p. Carries last x y p) (sym e) (two h k a b c l))
      (λ f h i l e. subst (λ p. Carries last x y p) (sym e) (one f h i l))
    where
      n : ℕ
      n = number x y

      form_of : (a b c : ℕ) → packed_of a b c ≡ n → triple a b c ≡ x ∷ y ∷ []
      form_of a b c e =
          let z = bytes_number x y hx hy in
          triple_is a b c ∙ (λ i. (ap (λ m. m / 256 % 256) e ∙ z.0) i ∷ (ap (λ m. m % 256) e ∙ z.1) i ∷ [])

      three : 0 < n → n ≤ 64000 → 3 ≤ first n → 3 ≤ second n → 3 ≤ third n
          → Carries last x y (Ok (Three (char (first n)) (char (second n)) (char (third n))))
      three h k a b c =
          let d = split_below n k in
          let va = value_char (first n) a d.0 in
          let vb = value_char (second n) b d.1 in
          let vc = value_char (third n) c d.2 in
          record {
            is_text_lem = (char_in_lem (first n) a d.0, (char_in_lem (second n) b d.1, (char_in_lem (third n) c d.2, tt)));
            form = form_of _ _ _ ((λ i. packed_of (va i) (vb i) (vc i)) ∙ split_packed n h k);
            whole = λ _. refl;
          }

      two : 0 < n → n ≤ 64000 → 3 ≤ first n → 3 ≤ second n → third n ≡ 0 → last ≡ true
          → Carries last x y (Ok (Two (char (first n)) (char (second n))))
      two h k a b c l =
          let d = split_below n k in
          let va = value_char (first n) a d.0 in
          let vb = value_char (second n) b d.1 in
          record {
            is_text_lem = (char_in_lem (first n) a d.0, (char_in_lem (second n) b d.1, tt));
            form = form_of _ _ _ ((λ i. packed_of (va i) (vb i) (sym c i)) ∙ split_packed n h k);
            whole = λ l'. absurd (apart l' l);
          }

      one : x ≡ 0xFE → 0 < y → InChart (y - 1) → last ≡ true → Carries last x y (Ok (One (y - 1)))
      one f h i l =
          let e : y - 1 + 1 ≡ y = omega arith in
          record {
            is_text_lem = (i, tt);
            form = λ j. sym f j ∷ e j ∷ [];
            whole = λ l'. absurd (apart l' l);
          }
