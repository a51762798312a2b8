-- `unpack::is_full` meets its contract: a pair carries three characters exactly where its number is in range and none of its values is
-- a shift, and the low 32 bits of a product tell whether one is.
-- Assumes nothing.
use borrow.Author.Tests.{eq-eqb, ne_eqb, lt-leb, le-leb, leb-true, leb-false}
use native.Mathlib.Omega.{arith}
use native.Mathlib.Nat.{div-div-eq-div-mul}
use mathlib.Core.Path.{◌≡◌, ◌∙◌, refl, ap, sym}
use mathlib.Core.Bool.{true, false}
use Prim.Native.Nat.{ℕ, ◌+◌, ◌*◌, ◌-◌, ◌/◌, ◌%◌, ◌<◌, ◌≤◌}
use lib.Bits.{bit_and, and_mask}
use lib.Dec.{leb, eqb}
use lib.ListN.{length}
use Rattle.format.specs.Quotient.{left_test}
use Rattle.format.specs.Choice.Laws.{by_test}
use Rattle.pairs.specs.Chart.{the_chart}
use Rattle.pairs.specs.Pairs.{number, first, second, third, pair_of, chars_of}
use Rattle.pairs.proofs.Pairs.Laws.{pair_cases, pair_values, values_three, fault_told, apart}
use Rattle.unpack.proofs.is_full.Goals as goal
use Rattle.unpack.proofs.is_full.Goals.{Else-number-gt64000}

-- a pair that is not the last carries three characters exactly where its number is in range and no value is a shift
record Full (n : ℕ) : Type 0 where
  some : 0 < n
  most : n ≤ 64000
  first_good : 3 ≤ first n
  second_good : 3 ≤ second n
  third_good : 3 ≤ third n

abbrev carried : ℕ → ℕ → ℕ
carried x y = length (chars_of (pair_of the_chart false x y))

three_full : (x y : ℕ) → carried x y ≡ 3 → Full (number x y)
three_full x y e =
    pair_cases false x y
    (λ fault has. absurd (omega (arith, ap (λ p. length (chars_of p)) (fault_told false x y fault has))))
    (λ h k a b c f. record { some = h; most = k; first_good = a; second_good = b; third_good = c })
    (λ h k a b c l f. absurd (apart refl l))
    (λ f h i l g. absurd (apart refl l))

full_three : (x y : ℕ) → Full (number x y) → carried x y ≡ 3
full_three x y f =
    let n = number x y in
    ap (λ p. length (chars_of p))
    (sym (values_three the_chart false (first n) (second n) (third n) f.first_good f.second_good f.third_good
    ∙ pair_values the_chart false x y f.some f.most))

told_not : (x y : ℕ) → (Full (number x y) → ⊥) → false ≡ eqb (carried x y) 3
told_not x y h = sym (ne_eqb (carried x y) 3 (λ e. h (three_full x y e)))

told_full : (x y : ℕ) → Full (number x y) → true ≡ eqb (carried x y) 3
told_full x y f = sym (eq-eqb (carried x y) 3 (full_three x y f))

-- the sixteen hundreds leave the second value, forty times, and the third
left : (n : ℕ) → n % 1600 ≡ n / 40 % 40 * 40 + n % 40
left n = omega (arith, div-div-eq-div-mul n 40 40)

-- a number in range: the low 32 bits of its products tell whether the third value is a shift, and whether the second is
module _ (x y n : ℕ) (e : n ≡ number x y - 1) (low : 4801 ≤ number x y) (most : number x y ≤ 64000) where
  third_test : leb 322122549 (bit_and (n * 107374183) 4294967295) ≡ leb 3 (n % 40)
  third_test =
      ap (leb 322122549) (and_mask (n * 107374183) 32) ∙ left_test 40 107374183 4294967296 24 (omega arith) refl n (omega arith) 3

  second_test : leb 322122600 (bit_and (n * 2684355) 4294967295) ≡ leb 120 (n % 1600)
  second_test =
      ap (leb 322122600) (and_mask (n * 2684355) 32) ∙ left_test 1600 2684355 4294967296 704 (omega arith) refl n (omega arith) 120

  is_third : n % 40 ≡ third (number x y)
  is_third = ap (λ k. k % 40) e

  is_second : n / 40 % 40 ≡ second (number x y)
  is_second = ap (λ k. k / 40 % 40) e

  third_shift : bit_and (n * 107374183) 4294967295 < 322122549 → false ≡ eqb (carried x y) 3
  third_shift h =
      let few = leb-false 3 (n % 40) (sym third_test ∙ lt-leb 322122549 (bit_and (n * 107374183) 4294967295) h) in
      told_not x y (λ f. omega (arith, is_third, f.third_good))

  third_none : 322122549 ≤ bit_and (n * 107374183) 4294967295
      → leb 322122600 (bit_and (n * 2684355) 4294967295) ≡ eqb (carried x y) 3
  third_none h =
      let enough = leb-true 3 (n % 40) (sym third_test ∙ le-leb 322122549 (bit_and (n * 107374183) 4294967295) h) in
      second_test
      ∙ by_test (leb 120 (n % 1600))
      (λ t. t ∙ told_full x y record {
        some = omega arith;
        most = most;
        first_good = omega arith;
        second_good = omega (arith, left n, is_second, leb-true 120 (n % 1600) t);
        third_good = omega (arith, is_third);
      })
      (λ t. t ∙ told_not x y (λ f. omega (arith, left n, is_second, f.second_good, leb-false 120 (n % 1600) t)))

pub returns-then-number-lt4801 : goal.returns-then-number-lt4801
returns-then-number-lt4801 c = told_not _ _ (λ f. omega arith)

pub returns-then-number-gt64000 : goal.returns-then-number-gt64000
returns-then-number-gt64000 c = told_not _ _ (λ f. omega arith)

-- one less than the number, in the code
abbrev less : Else-number-gt64000 → ℕ
less c = c.wide.result * 256 + c.wide-2.result - 1

pub returns-then-n-lt322122549 : goal.returns-then-n-lt322122549
returns-then-n-lt322122549 c = third_shift _ _ (less (goal.at.returns-then-n-lt322122549 c).Else-number-gt64000) (omega arith) (omega arith) (omega arith) c.if-n-lt322122549.true

pub returns : goal.returns
returns c = third_none _ _ (less (goal.at.returns c).Else-number-gt64000) (omega arith) (omega arith) (omega arith) c.if-n-lt322122549.false
