-- The runs of the months: a number is in one exactly when it lies from its first to its last, and each day's number is.
-- Assumes nothing.
use Rattle.std.specs.Prelude.{◌≡◌, true, ℕ, ◌+◌, ◌*◌, ◌/◌, ◌%◌, ◌≤◌, eqb}
use Rattle.std.proofs.Common.{subst, arith, eqb-true}
use Rattle.format.specs.Choice.{within}
use Rattle.format.specs.Choice.Laws.{by_test, not_true, both_true, both_are, within_both, within_true}
use Rattle.dates.specs.declared.Date.{Date}
use Rattle.dates.specs.Days.{is_leap, has_thirty, days_in, Day, number_of}
use Rattle.dates.proofs.Days.Laws.{day_bounds}
use Rattle.front_days.specs.Days.{last_of, in_month}

-- a run ends in the same month, and holds more than 65,536 numbers
pub last_bounds : (month : ℕ) → (299996 ≤ last_of month) × (last_of month ≤ 319999)
last_bounds month =
    by_test (has_thirty month)
    (λ e. rw e (omega arith, omega arith))
    (λ e. by_test (eqb month 2) (λ f. rw (e, f) (omega arith, omega arith)) (λ f. rw (e, f) (omega arith, omega arith)))

-- n lies in the month's run
pub record Inside (month n : ℕ) : Type 0 where
  pub low : 1 ≤ month
  pub high : month ≤ 12
  pub first : month * 1000000 + 10001 ≤ n
  pub last : n ≤ month * 1000000 + last_of month

-- what the test says
pub inside : (n : ℕ) → in_month n ≡ true → Inside (n / 1000000) n
inside n e =
    let month = n / 1000000 in
    let t = both_true (within 1 12 month) (within 10001 (last_of month) (n % 1000000)) e in
    let m = within_both 1 12 month t.0 in
    let r = within_both 10001 (last_of month) (n % 1000000) t.1 in
    record { low = m.0; high = m.1; first = omega (arith, r.0); last = omega (arith, r.1) }

-- and back
is_inside : (n month : ℕ) → month ≡ n / 1000000 → Inside month n → in_month n ≡ true
is_inside n month e i =
    let h : Inside (n / 1000000) n = subst (λ k. Inside k n) e i in
    both_are (within 1 12 (n / 1000000)) (within 10001 (last_of (n / 1000000)) (n % 1000000))
    (within_true 1 12 (n / 1000000) h.low h.high)
    (within_true 10001 (last_of (n / 1000000)) (n % 1000000) (omega (arith, h.first)) (omega (arith, h.last)))

pub in_month_lem : (n month : ℕ) → Inside month n → in_month n ≡ true
in_month_lem n month i =
    let b = last_bounds month in
    is_inside n month (omega (arith, i.first, i.last, b.1)) i

-- a leap year is a fourth year
leap_fourth : (year : ℕ) → is_leap year ≡ true → year % 4 ≡ 0
leap_fourth year e =
    by_test (eqb (year % 400) 0)
    (λ f. omega (arith, eqb-true (year % 400) 0 f))
    (λ f.
    by_test (eqb (year % 100) 0)
    (λ g. absurd (not_true (rw (f, g) at e)))
    (λ g. eqb-true (year % 4) 0 (rw (f, g) at e)))

-- a day of February: the 29th is in a leap year
february : (day year : ℕ) → day ≤ days_in year 2 → year ≤ 9999 → day * 10000 + year ≤ 299996
february day year h y =
    by_test (is_leap year)
    (λ l. let d : day ≤ 29 = rw l at h in omega (arith, leap_fourth year l))
    (λ l. let d : day ≤ 28 = rw l at h in omega arith)

-- a day of any month lies before the end of its run
before_last : (month day year : ℕ) → day ≤ days_in year month → year ≤ 9999 → day * 10000 + year ≤ last_of month
before_last month day year h y =
    by_test (has_thirty month)
    (λ e. let d : day ≤ 30 = rw e at h in rw e (omega arith))
    (λ e.
    by_test (eqb month 2)
    (λ f. let d : day ≤ days_in year 2 = rw (e, f) at h in rw (e, f) (february day year d y))
    (λ f. let d : day ≤ 31 = rw (e, f) at h in rw (e, f) (omega arith)))

-- a day's number lies in its month's run
pub day_inside : (d : Date) → Day d → Inside d.month (number_of d)
day_inside d h =
    let b = day_bounds d h in
    record {
      low = b.month.0;
      high = b.month.1;
      first = omega (arith, b.day.0, b.year.0);
      last = omega (arith, before_last d.month d.day d.year b.real b.year.1);
    }
