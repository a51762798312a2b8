-- Which days exist (document 02, Ticket 3), a date's number and its three bytes (document 01, Dates; Doc 9303-13, 2.3.1).
-- Assumes nothing.
use Rattle.std.specs.Prelude.{◌≡◌, Bool, true, false, ℕ, ◌+◌, ◌*◌, ◌/◌, ◌%◌, ◌<◌, ◌≤◌, List, eqb}
use Rattle.format.specs.BigEndian.{be}
use Rattle.format.specs.Choice.{pick, both, either, within}
use Rattle.dates.specs.declared.Date.{Date}

-- k goes into n without a remainder
abbrev pub divides : ℕ → ℕ → Bool
divides k n = eqb (n % k) 0

-- Leap years, by 4, 100 and 400: every fourth year is one, but no hundredth year is, save every four-hundredth.
abbrev pub is_leap : ℕ → Bool
is_leap year =
    pick (divides 400 year) true
    (pick (divides 100 year) false
    (divides 4 year))

-- Thirty days have April, June, September and November;
abbrev pub has_thirty : ℕ → Bool
has_thirty month = either (eqb month 4) (either (eqb month 6) (either (eqb month 9) (eqb month 11)))

-- February has 28, in a leap year 29; and all the rest have 31.
abbrev pub days_in : ℕ → ℕ → ℕ
days_in year month =
    pick (has_thirty month) 30
    (pick (eqb month 2) (pick (is_leap year) 29 28)
    31)

-- A day of the Gregorian calendar: month 1 to 12, year 1 to 9999, and a day from the first to the last of that month.
unfoldable pub is_day : Date → Bool
is_day d = both (within 1 12 d.month) (both (within 1 9999 d.year) (within 1 (days_in d.year d.month) d.day))

abbrev pub Day : Date → Type 0
Day d = is_day d ≡ true

abbrev pub dated : ℕ → ℕ → ℕ → Date
dated month day year = record { month = month; day = day; year = year }

-- A date's own first and last day: 1 January of year 1 and 31 December of year 9999. proofs/Exact.antt proves that they are days,
-- and that no day is before the one or after the other.
abbrev pub first_day : Date
first_day = dated 1 1 1

abbrev pub last_day : Date
last_day = dated 12 31 9999

-- one day is not after another: by the year, then by the month, then by the day
pub data NotAfter (a b : Date) : Type 0 where
  by_year : a.year < b.year → NotAfter a b
  by_month : a.year ≡ b.year → a.month < b.month → NotAfter a b
  by_day : a.year ≡ b.year → a.month ≡ b.month → a.day ≤ b.day → NotAfter a b

-- month, day and four-digit year as one number MMDDYYYY, and back
abbrev pub number_of : Date → ℕ
number_of d = d.month * 1000000 + d.day * 10000 + d.year

abbrev pub date_of : ℕ → Date
date_of n = record { month = n / 1000000; day = n / 10000 % 100; year = n % 10000 }

-- the number, big-endian in three bytes
unfoldable pub publish : Date → List ℕ
publish d = be 3 (number_of d)
