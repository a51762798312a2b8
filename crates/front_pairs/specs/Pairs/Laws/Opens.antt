-- Where a pair fits, its first byte opens: the first or the last of the byte's 256 numbers lies in the run of those
-- that fit.
-- Assumes nothing.
use Rattle.std.specs.Prelude.{◌≡◌, refl, ◌⊎◌, Bool, true, ℕ, ◌+◌, ◌*◌, ◌-◌, ◌/◌, ◌%◌, ◌<◌, ◌≤◌, ltb, leb}
use Rattle.std.proofs.Common.{sym, ◌∙◌, inl, inr, ⊎_elim, arith, le-leb, ltb-true, ltb-false, eq-eqb}
use Rattle.format.specs.Choice.{both, within}
use Rattle.format.specs.Choice.Laws.{by_test, both_are, either_left, either_right, within_true}
use Rattle.pairs.specs.Pairs.{packed_of, number, first, second, third}
use Rattle.front_pairs.specs.Pairs.{place, starts_in, ends_in, leads, fits, opens}
use Rattle.front_pairs.specs.Pairs.Laws.{opens_values, several}
use Rattle.front_pairs.specs.Pairs.Laws.Kept.{Made, fits_made, fits_single}
use Rattle.front_pairs.specs.declared.Kind.{Kind}
use Rattle.front_pairs.specs.declared.Kind.TheVariants.{Country, Signer, Triple, Length, Two, One}

-- a number whose place lies in a run of the 1,600 that have its first value
pub record InRun (start last a p : ℕ) : Type 0 where
  pub same : p / 1600 ≡ a
  pub from : start ≤ p % 1600
  pub upto : p % 1600 ≤ last

-- of 256 numbers in a row of which one lies in a run of 255 or more, the first or the last does
pub run_ends : (start last p q r : ℕ) → start + 254 ≤ last → last < 1600 → p ≤ q → q ≤ r → r ≤ p + 255 → start ≤ q % 1600 → q % 1600 ≤ last
    → InRun start last (q / 1600) p ⊎ InRun start last (q / 1600) r
run_ends start last p q r long short h k l from upto =
    by_test (ltb p (q / 1600 * 1600 + start))
    (λ t. let g = ltb-true p (q / 1600 * 1600 + start) t in
    inr record { same = omega arith; from = omega arith; upto = omega arith })
    (λ t. let g = ltb-false p (q / 1600 * 1600 + start) t in
    inl record { same = omega arith; from = omega arith; upto = omega arith })

-- a first byte opens where the first of its numbers lies right, or the last
module _ (kind : Kind) (x : ℕ) (h : kind ≡ One → ⊥) where
  abbrev low : ℕ
  low = number x 0

  abbrev high : ℕ
  high = number x 255

  abbrev before : Bool
  before = both (leads kind (first low)) (starts_in kind (place low))

  abbrev behind : Bool
  behind = both (leads kind (first high)) (ends_in kind (place high))

  open_low : leads kind (first low) ≡ true → starts_in kind (place low) ≡ true → opens kind x ≡ true
  open_low e f =
      sym (opens_values kind x h) ∙ either_left before behind (both_are (leads kind (first low)) (starts_in kind (place low)) e f)

  open_high : leads kind (first high) ≡ true → ends_in kind (place high) ≡ true → opens kind x ≡ true
  open_high e f =
      sym (opens_values kind x h) ∙ either_right before behind (both_are (leads kind (first high)) (ends_in kind (place high)) e f)

-- a kind whose pairs lie in a run: its bounds, and that the tests hold within them
record Run (kind : Kind) (start last least : ℕ) : Type 0 where
  more : kind ≡ One → ⊥
  long : start + 254 ≤ last
  short : last < 1600
  led : (a : ℕ) → least ≤ a → a ≤ 39 → leads kind a ≡ true
  started : (o : ℕ) → start ≤ o → o ≤ last → starts_in kind o ≡ true
  ended : (o : ℕ) → start ≤ o → o ≤ last → ends_in kind o ≡ true

run_opens : (kind : Kind) (start last least : ℕ)
    → Run kind start last least
    → (x y : ℕ)
    → y < 256
    → let n = number x y in
    least ≤ first n → first n ≤ 39 → start ≤ place n → place n ≤ last → opens kind x ≡ true
run_opens kind start last least run x y hy la lb from upto =
    let n = number x y in
    ⊎_elim
    (λ r. open_low kind x run.more
    (run.led (first (number x 0)) (omega (arith, r.same)) (omega (arith, r.same)))
    (run.started (place (number x 0)) r.from r.upto))
    (λ r. open_high kind x run.more
    (run.led (first (number x 255)) (omega (arith, r.same)) (omega (arith, r.same)))
    (run.ended (place (number x 255)) r.from r.upto))
    (run_ends start last (number x 0 - 1) (n - 1) (number x 255 - 1) run.long run.short (omega arith) (omega arith)
    (omega arith) from upto)

signer_run : Run Signer 564 1599 14
signer_run = record {
  more = several Signer refl;
  long = omega arith;
  short = omega arith;
  led = within_true 14 39;
  started = λ o h g. le-leb 564 o h;
  ended = λ o h g. le-leb 564 o h;
}

triple_run : Run Triple 164 1599 4
triple_run = record {
  more = several Triple refl;
  long = omega arith;
  short = omega arith;
  led = within_true 4 39;
  started = λ o h g. le-leb 164 o h;
  ended = λ o h g. le-leb 164 o h;
}

length_run : Run Length 165 779 4
length_run = record {
  more = several Length refl;
  long = omega arith;
  short = omega arith;
  led = within_true 4 39;
  started = within_true 165 779;
  ended = within_true 165 779;
}

two_run : Run Two 160 1560 4
two_run = record {
  more = several Two refl;
  long = omega arith;
  short = omega arith;
  led = within_true 4 39;
  started = within_true 160 1560;
  ended = within_true 160 1560;
}

-- the country's letters; its two fillers stand alone
country_run : Run Country 563 1599 14
country_run = record {
  more = several Country refl;
  long = omega arith;
  short = omega arith;
  led = within_true 14 39;
  started = λ o h g. either_right (leb o 123) (leb 563 o) (le-leb 563 o h);
  ended = λ o h g. either_right (within 123 378 o) (leb 563 o) (le-leb 563 o h);
}

-- of 256 numbers in a row of which one lies at 123, the first lies at most there, or the last there or behind
spot_ends : (p q r : ℕ) → p ≤ q → q ≤ r → r ≤ p + 255 → q % 1600 ≡ 123 → InRun 0 123 (q / 1600) p ⊎ InRun 123 378 (q / 1600) r
spot_ends p q r h k l e =
    by_test (ltb p (q / 1600 * 1600))
    (λ t. let g = ltb-true p (q / 1600 * 1600) t in inr record { same = omega arith; from = omega arith; upto = omega arith })
    (λ t. let g = ltb-false p (q / 1600 * 1600) t in inl record { same = omega arith; from = omega arith; upto = omega arith })

-- the country's two fillers
filled_opens : (x y : ℕ) → y < 256 → let n = number x y in 14 ≤ first n → first n ≤ 39 → place n ≡ 123 → opens Country x ≡ true
filled_opens x y hy la lb e =
    ⊎_elim
    (λ r. let o = place (number x 0) in
    open_low Country x (several Country refl)
    (within_true 14 39 (first (number x 0)) (omega (arith, r.same)) (omega (arith, r.same)))
    (either_left (leb o 123) (leb 563 o) (le-leb o 123 r.upto)))
    (λ r. let o = place (number x 255) in
    open_high Country x (several Country refl)
    (within_true 14 39 (first (number x 255)) (omega (arith, r.same)) (omega (arith, r.same)))
    (either_left (within 123 378 o) (leb 563 o) (within_true 123 378 o r.from r.upto)))
    (spot_ends (number x 0 - 1) (number x y - 1) (number x 255 - 1) (omega arith) (omega arith) (omega arith) e)

-- the place of a number that is made of three values
place_made : (n a b c : ℕ) → n ≡ packed_of a b c → b < 40 → c < 40 → place n ≡ 40 * b + c
place_made n a b c e hb hc = omega arith

module _ (x y : ℕ) (hy : y < 256) where
  abbrev n : ℕ
  n = number x y

  abbrev MadeOf : Kind → Type 0
  MadeOf kind = Made kind n (first n) (second n) (third n)

  at : (kind : Kind) → MadeOf kind → place n ≡ 40 * second n + third n
  at kind m = place_made n (first n) (second n) (third n) m.is m.b_below m.c_below

  signer_opens : MadeOf Signer → opens Signer x ≡ true
  signer_opens m =
      let o = at Signer m in
      let k = m.values in
      run_opens Signer 564 1599 14 signer_run x y hy k.0 (omega (arith, m.a_below)) (omega (arith, k, o)) (omega arith)

  triple_opens : MadeOf Triple → opens Triple x ≡ true
  triple_opens m =
      let o = at Triple m in
      let k = m.values in
      run_opens Triple 164 1599 4 triple_run x y hy k.0 (omega (arith, m.a_below)) (omega (arith, k, o)) (omega arith)

  length_opens : MadeOf Length → opens Length x ≡ true
  length_opens m =
      let o = at Length m in
      let k = m.values in
      run_opens Length 165 779 4 length_run x y hy k.0 (omega (arith, m.a_below)) (omega (arith, k, o)) (omega (arith, k, o))

  two_opens : MadeOf Two → opens Two x ≡ true
  two_opens m =
      let o = at Two m in
      let k = m.values in
      run_opens Two 160 1560 4 two_run x y hy k.0 (omega (arith, m.a_below)) (omega (arith, k, o)) (omega (arith, k, o, m.b_below))

  country_opens : MadeOf Country → opens Country x ≡ true
  country_opens m =
      let o = at Country m in
      let top : first n ≤ 39 = omega (arith, m.a_below) in
      ⊎_elim
      (λ k. run_opens Country 563 1599 14 country_run x y hy m.values.0 top (lettered k.0 k.1 o) (omega arith))
      (λ k. filled_opens x y hy m.values.0 top (omega (arith, k, o)))
      m.values.1
    where
      lettered : 14 ≤ second n → (14 ≤ third n) ⊎ (third n ≡ 3) → place n ≡ 40 * second n + third n → 563 ≤ place n
      lettered h k o = ⊎_elim (λ t. omega arith) (λ t. omega arith) k

one_opens : (x y : ℕ) → fits One x y ≡ true → opens One x ≡ true
unfolding opens
one_opens x y e = eq-eqb x 0xFE (fits_single x y e).0

-- a pair that fits begins with a byte that opens
pub some_opens : (kind : Kind) (x y : ℕ) → x < 256 → y < 256 → fits kind x y ≡ true → opens kind x ≡ true
some_opens Country x y hx hy e = country_opens x y hy (fits_made Country x y (several Country refl) e)
some_opens Signer x y hx hy e = signer_opens x y hy (fits_made Signer x y (several Signer refl) e)
some_opens Triple x y hx hy e = triple_opens x y hy (fits_made Triple x y (several Triple refl) e)
some_opens Length x y hx hy e = length_opens x y hy (fits_made Length x y (several Length refl) e)
some_opens Two x y hx hy e = two_opens x y hy (fits_made Two x y (several Two refl) e)
some_opens One x y hx hy e = one_opens x y e
