-- Laws of dates: the bounds of a day, there and back between a day and its number, and that a date's three bytes are
-- cut off in one way only.
-- Assumes nothing.
use Rattle.std.specs.Prelude.{◌≡◌, false, ℕ, ◌+◌, ◌*◌, ◌/◌, ◌%◌, ◌^◌, ◌<◌, ◌≤◌, [], ◌∷◌, leb, length}
use Rattle.std.proofs.Common.{sym, eq-or-lt_of_le, arith, ⊎_elim, le-leb}
use Rattle.format.specs.BigEndian.{be, val}
use Rattle.format.specs.BigEndian.Laws.{length_be, val_be}
use Rattle.format.specs.Choice.{both, within}
use Rattle.format.specs.Choice.Laws.{by_test, both_true, within_both}
use Rattle.format.specs.Cut.{Cut}
use Rattle.format.proofs.Cut.Laws.{cut_be, cut_through}
use Rattle.dates.specs.Days.{days_in, is_day, Day, NotAfter, by_year, by_month, by_day, number_of, date_of, publish}
use Rattle.dates.proofs.Days.Calendar.{days_most}
use Rattle.dates.specs.declared.Date.{Date}

-- what the test of a day says of its fields, as numbers
pub record Bounds (d : Date) : Type 0 where
  pub month : (1 ≤ d.month) × (d.month ≤ 12)
  pub day : (1 ≤ d.day) × (d.day ≤ 31)
  pub year : (1 ≤ d.year) × (d.year ≤ 9999)
  pub real : d.day ≤ days_in d.year d.month

pub day_bounds : (d : Date) → Day d → Bounds d
unfolding is_day
day_bounds d h =
    let last = days_in d.year d.month in
    let m = both_true (within 1 12 d.month) (both (within 1 9999 d.year) (within 1 last d.day)) h in
    let r = both_true (within 1 9999 d.year) (within 1 last d.day) m.1 in
    let day = within_both 1 last d.day r.1 in
    let most = days_most d.year d.month in
    record {
      month = within_both 1 12 d.month m.0;
      day = (day.0, omega arith);
      year = within_both 1 9999 d.year r.0;
      real = day.1;
    }

-- a field outside its bounds is no day
pub no_day : (d : Date) → (Bounds d → ⊥) → false ≡ is_day d
no_day d out = by_test (is_day d) (λ h. absurd (out (day_bounds d h))) sym

-- where all else is within its bounds, the last test settles it
pub last_test :
    (d : Date) →
    1 ≤ d.month →
    d.month ≤ 12 →
    1 ≤ d.year →
    d.year ≤ 9999 →
    1 ≤ d.day →
    leb d.day (days_in d.year d.month) ≡ is_day d
unfolding is_day
last_test d m m' y y' a =
    simp (le-leb 1 d.month m, le-leb d.month 12 m', le-leb 1 d.year y, le-leb d.year 9999 y', le-leb 1 d.day a)

-- the last day's number is the greatest, and it fits three bytes
pub number_below : (d : Date) → Day d → number_of d ≤ 12319999
number_below d h = let b = day_bounds d h in omega arith

-- the first day's is the least
pub number_above : (d : Date) → Day d → 1010001 ≤ number_of d
number_above d h = let b = day_bounds d h in omega arith

-- a date none of whose fields is over another's is not after it
pub fields_not_after : (a b : Date) → a.year ≤ b.year → a.month ≤ b.month → a.day ≤ b.day → NotAfter a b
fields_not_after a b y m d =
    ⊎_elim (λ e. ⊎_elim (λ f. by_day e f d) (by_month e) (eq-or-lt_of_le m)) by_year (eq-or-lt_of_le y)

-- there and back
pub number_date : (d : Date) → Day d → date_of (number_of d) ≡ d
number_date d h =
    let b = day_bounds d h in
    let m : number_of d / 1000000 ≡ d.month = omega arith in
    let a : number_of d / 10000 % 100 ≡ d.day = omega arith in
    let y : number_of d % 10000 ≡ d.year = omega arith in
    λ i. record { month = m i; day = a i; year = y i }

pub date_number : (n : ℕ) → Day (date_of n) → number_of (date_of n) ≡ n
date_number n h = omega arith

-- the three bytes
pub length_publish : (d : Date) → length (publish d) ≡ 3
unfolding publish
length_publish d = length_be 3 (number_of d)

pub number_fits : (d : Date) → Day d → number_of d < 256 ^ 3
number_fits d h = omega (arith, number_below d h)

pub val_publish : (d : Date) → Day d → val (publish d) 3 ≡ number_of d
unfolding publish
val_publish d h = val_be 3 (number_of d) (number_fits d h)

pub cut_date : Cut Day publish
unfolding publish
cut_date = cut_through (λ n. n < 256 ^ 3) (be 3) (cut_be 3) Day number_of date_of number_fits number_date

-- the number that three bytes carry
pub val_three : (a b c : ℕ) → a * 65536 + b * 256 + c ≡ val (a ∷ b ∷ c ∷ []) 3
unfolding val
val_three a b c = omega arith
