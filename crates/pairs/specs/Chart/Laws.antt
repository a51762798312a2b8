-- The chart's inverse rule, by one test over the whole table, which writer and reader both use.
-- Assumes nothing.
use Rattle.std.specs.Prelude.{◌≡◌, refl, Bool, true, false, ℕ, ◌+◌, ◌-◌, ◌<◌, ◌≤◌, T, ltb, eqb, List, length, get_or}
use Rattle.std.proofs.Common.{ap, sym, ◌∙◌, arith, eqb→eq, ltb→lt}
use borrow.Author.Tests.{ltb-true, ltb-false, le-ltb, lt-ltb}
use Rattle.format.specs.Choice.{pick, both}
use Rattle.format.specs.Choice.Laws.{by_test}
use Rattle.format.specs.Every.{every, at_entry}
use Rattle.pairs.specs.Chart.{the_chart, char, value_of, InChart}

pub length_chart : length the_chart ≡ 40
unfolding the_chart
length_chart = refl

-- the value by its four ranges
module _ (c : ℕ) where
  pub value_space : c < 48 → 3 ≡ value_of c
  unfolding value_of
  value_space h = simp (lt-ltb c 48 h)

  pub value_digit : 48 ≤ c → c < 65 → c - 44 ≡ value_of c
  unfolding value_of
  value_digit h k = simp (le-ltb c 48 h, lt-ltb c 65 k)

  pub value_letter : 65 ≤ c → c < 91 → c - 51 ≡ value_of c
  unfolding value_of
  value_letter h k = simp (le-ltb c 48 (omega arith), le-ltb c 65 h, lt-ltb c 91 k)

  pub value_other : 91 ≤ c → 3 ≡ value_of c
  unfolding value_of
  value_other h = simp (le-ltb c 48 (omega arith), le-ltb c 65 (omega arith), le-ltb c 91 h)

-- every character has a value below 40 that is no shift
pub value_range : (c : ℕ) → (3 ≤ value_of c) × (value_of c < 40)
unfolding value_of
value_range c =
    by_test (ltb c 48)
    (λ e. simp e (omega arith))
    (λ e. by_test (ltb c 65)
    (λ f. simp (e, f) (omega (arith, ltb-false c 48 e, ltb-true c 65 f)))
    (λ f. by_test (ltb c 91)
    (λ g. simp (e, f, g) (omega (arith, ltb-false c 65 f, ltb-true c 91 g)))
    (λ g. simp (e, f, g) (omega arith))))

-- the test: past the shifts an entry has its place for a value; no entry is over 90
right : ℕ → ℕ → Bool
right v c = both (ltb c 91) (pick (ltb v 3) true (eqb (value_of c) v))

both_parts : (a b : Bool) → T (both a b) → T a × T b
both_parts true b t = (tt, t)
both_parts false b t = absurd t

right_everywhere : T (every right 0 the_chart)
unfolding the_chart value_of right
right_everywhere = tt

right_at : (v : ℕ) → v < 40 → T (right v (char v))
right_at v h = at_entry right the_chart right_everywhere v (omega (arith, length_chart))

-- the inverse rule: a value that is no shift is the value of its character
pub value_char : (v : ℕ) → 3 ≤ v → v < 40 → value_of (char v) ≡ v
unfolding right
value_char v h k =
    let t = (both_parts (ltb (char v) 91) (pick (ltb v 3) true (eqb (value_of (char v)) v)) (right_at v k)).1 in
    eqb→eq (value_of (char v)) v (simp (le-ltb v 3 h) at t)

-- a value that is no shift has a character of the chart
pub char_in_lem : (v : ℕ) → 3 ≤ v → v < 40 → InChart (char v)
char_in_lem v h k = ap char (value_char v h k)

-- a character of the chart is at most 90
pub char_below : (c : ℕ) → InChart c → c < 91
unfolding right
char_below c i =
    let v = value_of c in
    let t = (both_parts (ltb (char v) 91) (pick (ltb v 3) true (eqb (value_of (char v)) v)) (right_at v (value_range c).1)).0 in
    rw i at (ltb→lt (char v) 91 t)

-- two characters of the chart with the same value are the same
pub value_one : (c d : ℕ) → InChart c → InChart d → value_of c ≡ value_of d → c ≡ d
value_one c d i j e = sym i ∙ ap char e ∙ j

-- an entry of a lent chart, at an index that was reckoned
pub entry : (table : List ℕ) (v w : ℕ) → table ≡ the_chart → v ≡ w → get_or table v 0 ≡ char w
entry table v w e f = ap (λ t. get_or t v 0) e ∙ ap char f

-- the characters by their kinds: the test that past the space an entry is a digit, and past the digits a letter
kinds : ℕ → ℕ → Bool
kinds v c = pick (ltb v 4) true (pick (ltb v 14) (eqb c (v + 44)) (eqb c (v + 51)))

kinds_everywhere : T (every kinds 0 the_chart)
unfolding the_chart kinds
kinds_everywhere = tt

kinds_at : (v : ℕ) → v < 40 → T (kinds v (char v))
kinds_at v h = at_entry kinds the_chart kinds_everywhere v (omega (arith, length_chart))

-- letters, digits and the space are in the chart
pub letter_in : (c : ℕ) → 65 ≤ c → c ≤ 90 → InChart c
unfolding kinds
letter_in c low high =
    let v : c - 51 ≡ value_of c = value_letter c low (omega arith) in
    let t = kinds_at (c - 51) (omega arith) in
    let e = eqb→eq (char (c - 51)) (c - 51 + 51) (simp (le-ltb (c - 51) 4 (omega arith), le-ltb (c - 51) 14 (omega arith)) at t) in
    sym (ap char v) ∙ e ∙ omega arith

pub digit_in : (c : ℕ) → 48 ≤ c → c ≤ 57 → InChart c
unfolding kinds
digit_in c low high =
    let v : c - 44 ≡ value_of c = value_digit c low (omega arith) in
    let t = kinds_at (c - 44) (omega arith) in
    let e = eqb→eq (char (c - 44)) (c - 44 + 44) (simp (le-ltb (c - 44) 4 (omega arith), lt-ltb (c - 44) 14 (omega arith)) at t) in
    sym (ap char v) ∙ e ∙ omega arith

pub space_in : InChart 32
unfolding the_chart value_of
space_in = refl
