-- What the calls of a date answer (document 01: 6 from its number, 22 to it), and the number and value of each case.
-- Assumes nothing.
use Rattle.std.specs.Prelude.{ℕ, Result, Ok, Err}
use Rattle.format.specs.Choice.{pick}
use Rattle.format.specs.Answers.{Valued, result, refusal}
use Rattle.dates.specs.Days.{is_day, number_of, date_of}
use Rattle.dates.specs.declared.Date.{Date}
use Rattle.dates.specs.declared.NoSuchDate.{NoSuchDate}

-- on a refusal every field is 0
abbrev pub no_date : Date
no_date = record { month = 0; day = 0; year = 0 }

unfoldable pub from_number : ℕ → Valued Date
from_number n = pick (is_day (date_of n)) (result (date_of n)) (refusal no_date 6)

unfoldable pub to_number : Date → Valued ℕ
to_number d = pick (is_day d) (result (number_of d)) (refusal 0 22)

abbrev pub taken_of : Result Date NoSuchDate → Valued Date
taken_of (Ok d) = result d
taken_of (Err e) = refusal no_date 6

abbrev pub numbered_of : Result ℕ NoSuchDate → Valued ℕ
numbered_of (Ok n) = result n
numbered_of (Err e) = refusal 0 22
