-- Laws of the calendar: what a month's days are at most; and how leap years and lengths of months are told without a division.
-- Assumes nothing.
use Rattle.std.specs.Prelude.{◌≡◌, refl, Bool, false, List, [], ◌∷◌, ℕ, ◌+◌, ◌-◌, ◌*◌, ◌/◌, ◌%◌, ◌≤◌, T, eqb, get_or}
use Rattle.std.proofs.Common.{subst, ◌∙◌, arith, eq-eqb, ne_eqb, eqb-true, eqb→eq}
use Rattle.std.proofs.lemmas.Bool.{eqb-false}
use Rattle.format.specs.Choice.{either}
use Rattle.format.specs.Choice.Laws.{by_test}
use Rattle.format.specs.Every.{every, at_entry}
use Rattle.format.specs.Quotient.{quotient}
use Rattle.dates.specs.Days.{is_leap, has_thirty, days_in}

-- February has at most 29 days, and no month more than 31
pub february_most : (year : ℕ) → days_in year 2 ≤ 29
february_most year = by_test (is_leap year) (λ l. rw l (omega arith)) (λ l. rw l (omega arith))

pub days_most : (year month : ℕ) → days_in year month ≤ 31
days_most year month =
    by_test (has_thirty month)
    (λ e. rw e (omega arith))
    (λ e.
    by_test (eqb month 2)
    (λ f. rw (e, f) (omega (arith, february_most year)))
    (λ f. rw (e, f) (omega arith)))

-- what 25 and 4 divide, 100 divides; what 25 and 16 divide, 400 divides
hundredth : (n : ℕ) → n % 25 ≡ 0 → n % 4 ≡ 0 → n % 100 ≡ 0
hundredth n a b = let times : n ≡ 100 * (n / 4 - 6 * (n / 25)) = omega arith in omega arith

four_hundredth : (n : ℕ) → n % 25 ≡ 0 → n % 16 ≡ 0 → n % 400 ≡ 0
four_hundredth n a b = let times : n ≡ 400 * (9 * (n / 16) - 14 * (n / 25)) = omega arith in omega arith

-- of the years that 25 divides, the leap years are those that 16 divides
pub leap_by_16 : (year : ℕ) → year % 25 ≡ 0 → eqb (year % 16) 0 ≡ is_leap year
leap_by_16 year h =
    by_test (eqb (year % 16) 0)
    (λ e. rw (e, eq-eqb (year % 400) 0 (four_hundredth year h (eqb-true (year % 16) 0 e))) refl)
    (λ e.
    let other : year % 400 ≡ 0 → ⊥ = λ f. eqb-false (year % 16) 0 e (omega arith) in
    rw (e, ne_eqb (year % 400) 0 other)
    (by_test (eqb (year % 100) 0)
    (λ f. rw f refl)
    (λ f. rw (f, ne_eqb (year % 4) 0 (λ g. eqb-false (year % 100) 0 f (hundredth year h g))) refl)))

-- of the others, those that 4 divides
pub leap_by_4 : (year : ℕ) → (year % 25 ≡ 0 → ⊥) → eqb (year % 4) 0 ≡ is_leap year
leap_by_4 year h =
    let no_hundredth : year % 100 ≡ 0 → ⊥ = λ e. h (omega arith) in
    let no_four_hundredth : year % 400 ≡ 0 → ⊥ = λ e. h (omega arith) in
    rw (ne_eqb (year % 100) 0 no_hundredth, ne_eqb (year % 400) 0 no_four_hundredth) refl

-- whether 25 divides a year of four digits: into it 25 goes year * 5243 / 2 ^ 17 times
times_25 : (k n : ℕ) → k * 25 ≡ n → n % 25 ≡ 0
times_25 k n e = omega arith

pub divided : (year : ℕ) → year * 5243 / 131072 * 25 ≡ year → year % 25 ≡ 0
divided year e = times_25 (year * 5243 / 131072) year e

pub not_divided : (year : ℕ) → year ≤ 9999 → (year * 5243 / 131072 * 25 ≡ year → ⊥) → year % 25 ≡ 0 → ⊥
not_divided year h other e = let times = quotient 25 5243 131072 3 (omega arith) refl year (omega arith) in other (omega (arith, times))

-- 31 and 30 by turns, from month 1 and again from month 8
turns : List ℕ
turns = 30 ∷ 31 ∷ 30 ∷ 31 ∷ 30 ∷ 31 ∷ 30 ∷ 31 ∷ 31 ∷ 30 ∷ 31 ∷ 30 ∷ 31 ∷ []

-- a low bit tells them; and but for February, and a month 0, they are how many days the month has
told : ℕ → ℕ → Bool
told month days = eqb (30 + (month + month / 8) % 2) days

right : ℕ → ℕ → ℕ → Bool
right year month days = either (either (eqb month 0) (eqb month 2)) (eqb days (days_in year month))

told_everywhere : T (every told 0 turns)
unfolding told turns
told_everywhere = tt

right_everywhere : (year : ℕ) → T (every (right year) 0 turns)
unfolding right turns
right_everywhere year = tt

pub by_turns : (year month : ℕ) → 1 ≤ month → month ≤ 12 → (month ≡ 2 → ⊥) → 30 + (month + month / 8) % 2 ≡ days_in year month
unfolding told right turns
by_turns year month low high other =
    let days = get_or turns month 0 in
    let some : month ≡ 0 → ⊥ = λ e. omega arith in
    let neither : either (eqb month 0) (eqb month 2) ≡ false = rw (ne_eqb month 0 some, ne_eqb month 2 other) refl in
    let is = at_entry (right year) turns (right_everywhere year) month (omega arith) in
    eqb→eq (30 + (month + month / 8) % 2) days (at_entry told turns told_everywhere month (omega arith)) ∙
    eqb→eq days (days_in year month) (subst (λ b. T (either b (eqb days (days_in year month)))) neither is)
