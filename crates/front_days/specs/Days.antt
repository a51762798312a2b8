-- With which bytes the three bytes of a real day begin (document 02, Tickets 3 and 12; document 01, Dates).
-- Assumes nothing.
pub mod Tests
pub mod Runs
pub mod Near
pub mod Laws
pub mod Pins
use Rattle.std.specs.Prelude.{Bool, ℕ, ◌+◌, ◌*◌, ◌/◌, ◌%◌, List, [], ◌∷◌, eqb}
use Rattle.format.specs.Choice.{pick, both, either, within}
use Rattle.format.specs.BigEndian.{val}
use Rattle.dates.specs.Days.{has_thirty, is_day, date_of}

-- The numbers DDYYYY of a month's days go from its first day in year 1 to its last day in year 9999; the last year that
-- has a 29 February is 9996.
abbrev pub last_of : ℕ → ℕ
last_of month = pick (has_thirty month) 309999 (pick (eqb month 2) 299996 319999)

-- a number from the first day of its month to the last
abbrev pub in_month : ℕ → Bool
in_month n = both (within 1 12 (n / 1000000)) (within 10001 (last_of (n / 1000000)) (n % 1000000))

-- The days of a month lie in a run of more than 65,536 numbers, with gaps of less than 8. So of the 256 or the 65,536
-- numbers that two bytes or one begin, some is a day's exactly where the first or the last of them lies in a month's run.
unfoldable pub some_day : ℕ → ℕ → Bool
some_day n more = either (in_month n) (in_month (n + more))

abbrev pub one_front : ℕ → ℕ
one_front a = pick (some_day (a * 65536) 65535) 1 0

abbrev pub two_front : ℕ → ℕ → ℕ
two_front a b = pick (some_day (a * 65536 + b * 256) 255) 2 (one_front a)

-- how many of some bytes can be completed to a date
unfoldable pub day_front : List ℕ → ℕ
day_front [] = 0
day_front (a ∷ []) = one_front a
day_front (a ∷ b ∷ []) = two_front a b
day_front (a ∷ b ∷ c ∷ s) = pick (is_day (date_of (val (a ∷ b ∷ c ∷ []) 3))) 3 (two_front a b)
