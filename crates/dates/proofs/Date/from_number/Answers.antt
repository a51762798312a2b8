-- `dates::Date::from_number` meets its contract: a number of more than eight digits has no such month; of any other, each quotient is a
-- product and a shift, and `is_day` tells whether there is such a date.
-- Assumes nothing.
use native.Mathlib.Omega.{arith}
use mathlib.Core.Path.{◌≡◌, refl, ap, ap₂, sym, ◌∙◌}
use mathlib.Core.Bool.{false}
use Prim.Native.Nat.{ℕ, ◌-◌, ◌*◌, ◌/◌, ◌%◌, ◌<◌, ◌≤◌}
use Rattle.format.specs.Answers.{result}
use Rattle.format.specs.Quotient.{quotient}
use Rattle.dates.specs.Days.{is_day, dated, date_of}
use Rattle.dates.proofs.Days.Laws.{no_day}
use Rattle.dates.proofs.Exact.{from_day, from_none}
use Rattle.dates.proofs.Date.from_number.Goals as goal

-- past eight digits the month is past the last
too_long_lem : (n : ℕ) → 99999999 < n → is_day (date_of n) ≡ false
too_long_lem n h = sym (no_day (date_of n) (λ b. omega (arith, b.month.1)))

-- what a quotient leaves, and the month by way of month and day together
year_left : (n : ℕ) → n - n / 10000 * 10000 ≡ n % 10000
year_left n = omega arith

day_left : (n : ℕ) → n / 10000 - n / 1000000 * 100 ≡ n / 10000 % 100
day_left n = omega arith

month_of : (n : ℕ) → n / 10000 / 100 ≡ n / 1000000
month_of n = omega arith

module _ (n : ℕ) (high : n ≤ 99999999) where
  by_10000 : n * 109951163 / 1099511627776 ≡ n / 10000
  by_10000 = quotient 10000 109951163 1099511627776 2224 (omega arith) refl n (omega arith)

  by_100 : n / 10000 * 5243 / 524288 ≡ n / 1000000
  by_100 = quotient 100 5243 524288 12 (omega arith) refl (n / 10000) (omega arith) ∙ month_of n

  split :
      let both = n * 109951163 / 1099511627776 in
      let month = both * 5243 / 524288 in
      dated month (both - month * 100) (n - both * 10000) ≡ date_of n
  split =
      let both = by_10000 in
      let month = ap (λ k. k * 5243 / 524288) both ∙ by_100 in
      let day = ap₂ (λ k m. k - m * 100) both month ∙ day_left n in
      let year = ap (λ k. n - k * 10000) both ∙ year_left n in
      λ i. dated (month i) (day i) (year i)

pub returns-then-number-gt99999999 : goal.returns-then-number-gt99999999
returns-then-number-gt99999999 c = sym (from_none _ (too_long_lem _ c.if-number-gt99999999.true))

pub returns-then-is_day : goal.returns-then-is_day
returns-then-is_day c =
    let e = split _ c.if-number-gt99999999.false in
    ap result e ∙ sym (from_day _ (sym (ap is_day e) ∙ sym c.is_day.ensures ∙ c.if-is_day.true))

pub returns : goal.returns
returns c =
    let e = split _ c.if-number-gt99999999.false in
    sym (from_none _ (sym (ap is_day e) ∙ sym c.is_day.ensures ∙ c.if-is_day.false))
