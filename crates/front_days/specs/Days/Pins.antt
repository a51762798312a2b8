-- Computed examples: which first bytes begin a date and which do not, and where some dates that there never are die.
-- Assumes nothing.
use Rattle.std.specs.Prelude.{◌≡◌, refl, ℕ, [], ◌∷◌, map, take}
use Rattle.format.specs.BigEndian.{be, val}
use Rattle.dates.specs.Days.{is_day, dated, publish}
use Rattle.front_days.specs.Days.{some_day, day_front}

-- nothing begins a date; a whole one is three bytes, whatever follows
short :
    map (λ k. day_front (take k (0x31 ∷ 0x9E ∷ 0xF5 ∷ 0x31 ∷ []))) (0 ∷ 1 ∷ 2 ∷ 3 ∷ 4 ∷ []) ≡ 0 ∷ 1 ∷ 2 ∷ 3 ∷ 3 ∷ []
unfolding day_front some_day is_day val
short = refl

-- the first byte: 0E comes before 1 January of year 1, 0F begins with numbers before it and ends with days, 14 begins
-- with days of January and ends past them, 15 comes after them, BB begins the last day and BC none
first_byte :
    map (λ a. day_front (a ∷ [])) (0x00 ∷ 0x0E ∷ 0x0F ∷ 0x14 ∷ 0x15 ∷ 0xBB ∷ 0xBC ∷ 0xFF ∷ []) ≡
    0 ∷ 0 ∷ 1 ∷ 1 ∷ 0 ∷ 1 ∷ 0 ∷ 0 ∷ []
unfolding day_front some_day
first_byte = refl

-- 31 December of year 9999 is BB FC FF; the number after it dies at its second byte
last_day_lem :
    map day_front ((0xBB ∷ 0xFC ∷ 0xFF ∷ []) ∷ (0xBB ∷ 0xFD ∷ 0x00 ∷ []) ∷ (0xBB ∷ 0xFD ∷ []) ∷ []) ≡ 3 ∷ 1 ∷ 1 ∷ []
unfolding day_front some_day is_day val
last_day_lem = refl

-- of a date's three bytes so many begin a day
front_of : ℕ → ℕ → ℕ → ℕ
front_of month day year = day_front (publish (dated month day year))

-- 30 February: up to year 159 it begins as 29 February of year 9996 does and dies at the third byte, after that at the
-- second
february_30 : map (front_of 2 30) (1 ∷ 159 ∷ 160 ∷ 2000 ∷ 9999 ∷ []) ≡ 2 ∷ 2 ∷ 1 ∷ 1 ∷ 1 ∷ []
unfolding front_of day_front some_day is_day val be publish
february_30 = refl

-- 29 February: in 1900, which was no leap year, the third byte alone is hopeless; in 9996 it is a day for the last time
february_29 : map (front_of 2 29) (1 ∷ 1900 ∷ 2000 ∷ 9996 ∷ 9997 ∷ 9999 ∷ []) ≡ 2 ∷ 2 ∷ 3 ∷ 3 ∷ 2 ∷ 2 ∷ []
unfolding front_of day_front some_day is_day val be publish
february_29 = refl

-- 31 April: up to year 15 it dies at the third byte, after that at the second; 32 December of year 0, which comes after
-- the last day, at the second
past_end : front_of 4 31 15 ∷ front_of 4 31 16 ∷ front_of 4 31 2000 ∷ front_of 12 32 0 ∷ [] ≡ 2 ∷ 1 ∷ 1 ∷ 1 ∷ []
unfolding front_of day_front some_day is_day val be publish
past_end = refl

-- year 0: 1 December is B7 42 10 and dies at the third byte
year_0 : day_front (0xB7 ∷ 0x42 ∷ 0x10 ∷ []) ∷ day_front (0xB7 ∷ 0x42 ∷ 0x11 ∷ []) ∷ [] ≡ 2 ∷ 3 ∷ []
unfolding day_front some_day is_day val
year_0 = refl

-- a day 0 and a month 13 or 0
no_such : front_of 1 0 2000 ∷ front_of 13 1 2000 ∷ front_of 0 1 2000 ∷ [] ≡ 1 ∷ 0 ∷ 0 ∷ []
unfolding front_of day_front some_day is_day val be publish
no_such = refl
