-- The first and the last day, and one that there never is. And the calls, exactly: a number gives the day whose number it is, a day its
-- number, and three bytes the day whose published form they are.
-- Assumes nothing.
use Rattle.std.specs.Prelude.{◌≡◌, refl, false, ℕ, ◌≤◌, List, length, take}
use Rattle.std.proofs.Common.{ap, sym, ◌∙◌, arith}
use Rattle.format.specs.Bytes.{Bytes}
use Rattle.format.specs.BigEndian.{be, val}
use Rattle.format.specs.BigEndian.Laws.{be_val}
use Rattle.format.specs.Choice.Laws.{by_test}
use Rattle.format.specs.Answers.{result, refusal}
use Rattle.dates.specs.Days.{is_day, Day, dated, first_day, last_day, NotAfter, number_of, date_of, publish}
use Rattle.dates.proofs.Days.Calendar.{february_most}
use Rattle.dates.proofs.Days.Laws.{day_bounds, no_day, number_above, number_below, fields_not_after}
use Rattle.dates.proofs.Days.Laws.{number_date, date_number, val_publish}
use Rattle.dates.specs.Calls.{no_date, from_number, to_number}
use Rattle.dates.specs.declared.Date.{Date}

-- FIRST and LAST are days, and no day is before the first or after the last: by the calendar, nor is its number less or greater.
pub first_day_lem : Day first_day × ((d : Date) → Day d → NotAfter first_day d × (number_of first_day ≤ number_of d))
unfolding is_day
first_day_lem = (
  refl,
  λ d h.
      let b = day_bounds d h in
      (fields_not_after first_day d b.year.0 b.month.0 b.day.0, number_above d h),
)

pub last_day_lem : Day last_day × ((d : Date) → Day d → NotAfter d last_day × (number_of d ≤ number_of last_day))
unfolding is_day
last_day_lem = (
  refl,
  λ d h.
      let b = day_bounds d h in
      (fields_not_after d last_day b.year.1 b.month.1 b.day.1, number_below d h),
)

-- No year has a 30 February.
pub no_february_30 : (year : ℕ) → is_day (dated 2 30 year) ≡ false
no_february_30 year = sym (no_day (dated 2 30 year) (λ b. omega (arith, b.real, february_most year)))

-- what each call answers, by the test of the day
pub from_day : (n : ℕ) → Day (date_of n) → from_number n ≡ result (date_of n)
unfolding from_number
from_day n h = simp h

pub from_none : (n : ℕ) → is_day (date_of n) ≡ false → from_number n ≡ refusal no_date 6
unfolding from_number
from_none n h = simp h

pub to_day : (d : Date) → Day d → to_number d ≡ result (number_of d)
unfolding to_number
to_day d h = simp h

pub to_none : (d : Date) → is_day d ≡ false → to_number d ≡ refusal 0 22
unfolding to_number
to_none d h = simp h

-- a call that answers 0 was given a day, and its value is the day, or the number, that belongs to it
pub from_given : (n : ℕ) (d : Date) → from_number n ≡ result d → Day (date_of n) × (date_of n ≡ d)
from_given n d e =
    by_test (is_day (date_of n))
    (λ h. (h, ap (λ g. g.value) (sym (from_day n h) ∙ e)))
    (λ h. absurd (omega (arith, ap (λ g. g.number) (sym (from_none n h) ∙ e))))

pub to_given : (d : Date) (n : ℕ) → to_number d ≡ result n → Day d × (number_of d ≡ n)
to_given d n e =
    by_test (is_day d)
    (λ h. (h, ap (λ g. g.value) (sym (to_day d h) ∙ e)))
    (λ h. absurd (omega (arith, ap (λ g. g.number) (sym (to_none d h) ∙ e))))

-- a day comes back from its number
day_taken : (d : Date) → Day d → from_number (number_of d) ≡ result d
day_taken d h =
    let same = number_date d h in
    from_day (number_of d) (ap is_day same ∙ h) ∙ ap result same

-- There and back: the number of what is taken is the number given, and what its number gives is the day.
pub taken_numbered : (n : ℕ) (d : Date) → from_number n ≡ result d → to_number d ≡ result n
taken_numbered n d e =
    let g = from_given n d e in
    ap to_number (sym g.1) ∙ to_day (date_of n) g.0 ∙ ap result (date_number n g.0)

pub numbered_taken : (d : Date) (n : ℕ) → to_number d ≡ result n → from_number n ≡ result d
numbered_taken d n e =
    let g = to_given d n e in
    ap from_number (sym g.1) ∙ day_taken d g.0

-- Three bytes give a day exactly when they are its published form.
pub published_taken : (d : Date) → Day d → from_number (val (publish d) 3) ≡ result d
published_taken d h = ap from_number (val_publish d h) ∙ day_taken d h

pub taken_published : (s : List ℕ) → Bytes s → 3 ≤ length s → (d : Date) → from_number (val s 3) ≡ result d → Day d × (publish d ≡ take 3 s)
unfolding publish
taken_published s bytes long d e =
    let g = from_given (val s 3) d e in
    (ap is_day (sym g.1) ∙ g.0, ap publish (sym g.1) ∙ ap (be 3) (date_number (val s 3) g.0) ∙ be_val 3 s bytes long)
