-- Days lie close together in a month's run: from each of its numbers on, and up to it, there is a day at most 7 away.
-- Assumes nothing.
use Rattle.std.specs.Prelude.{◌≡◌, true, ◌⊎◌, ℕ, ◌+◌, ◌-◌, ◌*◌, ◌/◌, ◌%◌, ◌<◌, ◌≤◌, eqb, ltb}
use Rattle.std.proofs.Common.{sym, subst, ◌∙◌, inl, inr, ⊎_elim, arith, eqb-true, eq-eqb, ltb-true, ltb-false, le-leb}
use Rattle.std.proofs.lemmas.Bool.{eqb-false}
use Rattle.format.specs.Choice.{pick}
use Rattle.format.specs.Choice.Laws.{by_test}
use Rattle.dates.specs.declared.Date.{Date}
use Rattle.dates.specs.Days.{is_leap, has_thirty, days_in, Day, dated, number_of}
use Rattle.dates.proofs.Days.Calendar.{leap_by_4}
use Rattle.dates.proofs.Days.Laws.{last_test}
use Rattle.front_days.specs.Days.{last_of, in_month}
use Rattle.front_days.specs.Days.Runs.{inside}

-- some day has a number from a to b
abbrev pub DayIn : ℕ → ℕ → Type 0
DayIn a b = (d : Date) × Day d × (a ≤ number_of d) × (number_of d ≤ b)

-- a day by its fields
is_day_lem :
    (month day year : ℕ) →
    1 ≤ month →
    month ≤ 12 →
    1 ≤ year →
    year ≤ 9999 →
    1 ≤ day →
    day ≤ days_in year month →
    Day (dated month day year)
is_day_lem month day year m m' y y' a a' = sym (last_test (dated month day year) m m' y y' a) ∙ le-leb day (days_in year month) a'

-- how many days the month has in every year
every_year : ℕ → ℕ
every_year month = pick (has_thirty month) 30 (pick (eqb month 2) 28 31)

every_year_lem : (year month : ℕ) → every_year month ≤ days_in year month
unfolding every_year
every_year_lem year month =
    by_test (has_thirty month)
    (λ e. rw e (omega arith))
    (λ e.
    by_test (eqb month 2)
    (λ f. rw (e, f) (by_test (is_leap year) (λ l. rw l (omega arith)) (λ l. rw l (omega arith))))
    (λ f. rw (e, f) (omega arith)))

-- a number of a run is one of these days, in a year from 0 on, or one of 29 February
kind : (month rest : ℕ) → rest ≤ last_of month → (rest / 10000 ≤ every_year month) ⊎ ((month ≡ 2) × (290000 ≤ rest) × (rest ≤ 299996))
unfolding every_year
kind month rest h =
    by_test (has_thirty month)
    (λ e. let g : rest ≤ 309999 = rw e at h in inl (rw e (omega arith)))
    (λ e.
    by_test (eqb month 2)
    (λ f.
    let g : rest ≤ 299996 = rw (e, f) at h in
    by_test (ltb rest 290000)
    (λ l. inl (rw (e, f) (omega (arith, ltb-true rest 290000 l))))
    (λ l. inr (eqb-true month 2 f, omega (arith, ltb-false rest 290000 l), g)))
    (λ f. let g : rest ≤ 319999 = rw (e, f) at h in inl (rw (e, f) (omega arith))))

-- a fourth year that 25 does not divide is a leap year, and has a 29 February
leap_day : (year : ℕ) → year % 4 ≡ 0 → (year % 25 ≡ 0 → ⊥) → 1 ≤ year → year ≤ 9999 → Day (dated 2 29 year)
leap_day year four other y y' =
    let leap : is_leap year ≡ true = sym (leap_by_4 year other) ∙ eq-eqb (year % 4) 0 four in
    is_day_lem 2 29 year (omega arith) (omega arith) y y' (omega arith) (rw leap (omega arith))

-- of two fourth years 25 does not divide both
not_after : (x : ℕ) → x % 25 ≡ 0 → (x + 4) % 25 ≡ 0 → ⊥
not_after x e f = let rest : (x + 4) % 25 ≡ 4 = omega arith in omega arith

not_before : (x : ℕ) → 4 ≤ x → x % 25 ≡ 0 → (x - 4) % 25 ≡ 0 → ⊥
not_before x h e f = let rest : (x - 4) % 25 ≡ 21 = omega arith in omega arith

-- below 25 it divides 0 alone, and so what it does not divide is not 0
none_below : (x : ℕ) → x < 25 → x % 25 ≡ 0 → x ≡ 0
none_below x h e = omega arith

not_first : (x : ℕ) → (x % 25 ≡ 0 → ⊥) → 1 ≤ x
not_first x other = omega (arith, other)

-- a year that 25 divides comes four years before the last, or earlier
not_last : (x : ℕ) → x ≤ 9996 → x % 25 ≡ 0 → x + 4 ≤ 9999
not_last x h e = omega arith

-- from 29 February of a year on: the next fourth year, or the one after it
next_leap : (year : ℕ) → year ≤ 9996 → DayIn (2290000 + year) (2290000 + year + 7)
next_leap year h =
    let x = 4 * ((year + 3) / 4) in
    by_test (eqb (x % 25) 0)
    (λ e.
    let z = eqb-true (x % 25) 0 e in
    let day = leap_day (x + 4) (omega arith) (not_after x z) (omega arith) (not_last x (omega arith) z) in
    (dated 2 29 (x + 4), day, omega arith, omega arith))
    (λ e.
    let z = eqb-false (x % 25) 0 e in
    (dated 2 29 x, leap_day x (omega arith) z (not_first x z) (omega arith), omega arith, omega arith))

-- up to 29 February of a year: the fourth year before it, or the one before that; where there is none, 28 February of
-- year 9999
last_common : Day (dated 2 28 9999)
last_common = is_day_lem 2 28 9999 (omega arith) (omega arith) (omega arith) (omega arith) (omega arith) (omega arith)

previous_leap : (year : ℕ) → year ≤ 9996 → DayIn (2290000 + year - 7) (2290000 + year)
previous_leap year h =
    let x = 4 * (year / 4) in
    by_test (eqb (x % 25) 0)
    (λ e.
    let z = eqb-true (x % 25) 0 e in
    by_test (ltb x 25)
    (λ l.
    let low = ltb-true x 25 l in
    let none = none_below x low z in
    (dated 2 28 9999, last_common, omega arith, omega arith))
    (λ l.
    let high = ltb-false x 25 l in
    let day = leap_day (x - 4) (omega arith) (not_before x (omega arith) z) (omega arith) (omega arith) in
    (dated 2 29 (x - 4), day, omega arith, omega arith)))
    (λ e.
    let z = eqb-false (x % 25) 0 e in
    (dated 2 29 x, leap_day x (omega arith) z (not_first x z) (omega arith), omega arith, omega arith))

-- of a day that each year has: the day itself, and in year 0 the same day of year 1 or the day before in year 9999
module _ (month rest : ℕ) (low : 1 ≤ month) (high : month ≤ 12) (first : 10001 ≤ rest) where
  common_day : (day year : ℕ) → 1 ≤ day → 1 ≤ year → year ≤ 9999 → day ≤ every_year month → Day (dated month day year)
  common_day day year a y y' h = is_day_lem month day year low high y y' a (omega (arith, every_year_lem year month))

  next_common : rest / 10000 ≤ every_year month → DayIn (month * 1000000 + rest) (month * 1000000 + rest + 7)
  next_common h =
      let day = rest / 10000 in
      by_test (eqb (rest % 10000) 0)
      (λ e.
      let z = eqb-true (rest % 10000) 0 e in
      (dated month day 1, common_day day 1 (omega arith) (omega arith) (omega arith) h, omega arith, omega arith))
      (λ e.
      let z = eqb-false (rest % 10000) 0 e in
      let year = rest % 10000 in
      let some : 1 ≤ year = omega (arith, z) in
      (dated month day year, common_day day year (omega arith) some (omega arith) h, omega arith, omega arith))

  previous_common : rest / 10000 ≤ every_year month → DayIn (month * 1000000 + rest - 7) (month * 1000000 + rest)
  previous_common h =
      let day = rest / 10000 in
      by_test (eqb (rest % 10000) 0)
      (λ e.
      let z = eqb-true (rest % 10000) 0 e in
      let before = common_day (day - 1) 9999 (omega arith) (omega arith) (omega arith) (omega arith) in
      (dated month (day - 1) 9999, before, omega arith, omega arith))
      (λ e.
      let z = eqb-false (rest % 10000) 0 e in
      let year = rest % 10000 in
      let some : 1 ≤ year = omega (arith, z) in
      (dated month day year, common_day day year (omega arith) some (omega arith) h, omega arith, omega arith))

-- the two kinds of a run's numbers, once for both directions
by_kind :
    (Near : ℕ → Type 0) →
    ((month rest : ℕ) → 1 ≤ month → month ≤ 12 → 10001 ≤ rest → rest / 10000 ≤ every_year month → Near (month * 1000000 + rest)) →
    ((year : ℕ) → year ≤ 9996 → Near (2290000 + year)) →
    (n : ℕ) →
    in_month n ≡ true →
    Near n
by_kind Near common leap n e =
    let month = n / 1000000 in
    let rest = n % 1000000 in
    let i = inside n e in
    let whole : month * 1000000 + rest ≡ n = omega arith in
    let first : 10001 ≤ rest = omega (arith, i.first) in
    ⊎_elim
    (λ h. subst Near whole (common month rest i.low i.high first h))
    (λ h.
    let year = rest - 290000 in
    let same : 2290000 + year ≡ n = omega (arith, h.0, h.1) in
    subst Near same (leap year (omega (arith, h.2))))
    (kind month rest (omega (arith, i.last)))

-- from a number of a run on, and up to it
pub next_day : (n : ℕ) → in_month n ≡ true → DayIn n (n + 7)
next_day = by_kind (λ n. DayIn n (n + 7)) next_common next_leap

pub previous_day : (n : ℕ) → in_month n ≡ true → DayIn (n - 7) n
previous_day = by_kind (λ n. DayIn (n - 7) n) previous_common previous_leap
