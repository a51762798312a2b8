-- Computed examples: the bytes of one date; the first and last month, day and year, each with the one past it; leap years, and the last
-- day of each month with the one past it.
-- Assumes nothing.
use Rattle.std.specs.Prelude.{◌≡◌, refl, Bool, true, false, not, ℕ, suc, [], ◌∷◌, map}
use Rattle.format.specs.BigEndian.{be}
use Rattle.format.specs.Choice.{both}
use Rattle.format.specs.Every.{every}
use Rattle.format.specs.Answers.{result, refusal}
use Rattle.dates.specs.Days.{is_day, dated, publish}
use Rattle.dates.specs.Calls.{no_date, from_number, to_number}

-- 25 March 1957
bytes : publish (record { month = 3; day = 25; year = 1957 }) ≡ 0x31 ∷ 0x9E ∷ 0xF5 ∷ []
unfolding publish be
bytes = refl

-- 1 January of year 1 and 31 December of year 9999
first : from_number 1010001 ≡ result (record { month = 1; day = 1; year = 1 })
unfolding from_number is_day
first = refl

last : from_number 12319999 ≡ result (record { month = 12; day = 31; year = 9999 })
unfolding from_number is_day
last = refl

-- month 0 and 13
month_0 : from_number 310001 ≡ refusal no_date 6
unfolding from_number is_day
month_0 = refl

month_13 : from_number 13010001 ≡ refusal no_date 6
unfolding from_number is_day
month_13 = refl

-- day 0, 31 and 32
day_0 : from_number 1002000 ≡ refusal no_date 6
unfolding from_number is_day
day_0 = refl

day_31 : from_number 1312000 ≡ result (record { month = 1; day = 31; year = 2000 })
unfolding from_number is_day
day_31 = refl

day_32 : from_number 1322000 ≡ refusal no_date 6
unfolding from_number is_day
day_32 = refl

past_last : from_number 12320000 ≡ refusal no_date 6
unfolding from_number is_day
past_last = refl

-- year 0, and year 10000, which a number cannot carry
year_0 : from_number 1010000 ≡ refusal no_date 6
unfolding from_number is_day
year_0 = refl

year_10000 : to_number (record { month = 1; day = 1; year = 10000 }) ≡ refusal 0 22
unfolding to_number is_day
year_10000 = refl

-- 29 February of 2000 and of 2004 is a day, of 1900 and of 2100 it is none
leap_days : map (λ year. is_day (dated 2 29 year)) (1900 ∷ 2000 ∷ 2004 ∷ 2100 ∷ []) ≡ false ∷ true ∷ true ∷ false ∷ []
unfolding is_day
leap_days = refl

-- the last day of each month is a day, and the next is none: from January to December, in a common year and in a leap year
ends : ℕ → ℕ → ℕ → Bool
ends year before last = let month = suc before in both (is_day (dated month last year)) (not (is_day (dated month (suc last) year)))

common_year : every (ends 2100) 0 (31 ∷ 28 ∷ 31 ∷ 30 ∷ 31 ∷ 30 ∷ 31 ∷ 31 ∷ 30 ∷ 31 ∷ 30 ∷ 31 ∷ []) ≡ true
unfolding ends is_day
common_year = refl

leap_year : every (ends 2000) 0 (31 ∷ 29 ∷ 31 ∷ 30 ∷ 31 ∷ 30 ∷ 31 ∷ 31 ∷ 30 ∷ 31 ∷ 30 ∷ 31 ∷ []) ≡ true
unfolding ends is_day
leap_year = refl
