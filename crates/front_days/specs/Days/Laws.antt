-- Some number from n to n + more is a day's exactly where the first or the last of them lies in a month's run.
-- Assumes nothing.
use Rattle.std.specs.Prelude.{◌≡◌, true, ℕ, ◌+◌, ◌*◌, ◌≤◌, leb}
use Rattle.std.proofs.Common.{⊎_elim, arith, leb-true, leb-false}
use Rattle.format.specs.Choice.Laws.{by_test, either_true, either_left, either_right}
use Rattle.dates.specs.declared.Date.{Date}
use Rattle.dates.specs.Days.{Day, number_of}
use Rattle.front_days.specs.Days.{in_month, some_day}
use Rattle.front_days.specs.Days.Runs.{last_bounds, in_month_lem, day_inside}
use Rattle.front_days.specs.Days.Near.{next_day, previous_day}

-- Where the test says so, there is a day.
pub some_day_lem :
    (n more : ℕ) →
    7 ≤ more →
    some_day n more ≡ true →
    (d : Date) × Day d × (n ≤ number_of d) × (number_of d ≤ n + more)
unfolding some_day
some_day_lem n more h e =
    ⊎_elim
    (λ a. let d = next_day n a in (d.0, d.1, d.2, omega (arith, d.3)))
    (λ a. let d = previous_day (n + more) a in (d.0, d.1, omega (arith, d.2), d.3))
    (either_true (in_month n) (in_month (n + more)) e)

-- Where there is a day, the test says so: a run is longer than the numbers, and so one of their ends lies in it.
pub day_some :
    (n more : ℕ) →
    more ≤ 65535 →
    (d : Date) →
    Day d →
    n ≤ number_of d →
    number_of d ≤ n + more →
    some_day n more ≡ true
unfolding some_day
day_some n more h d day low high =
    let i = day_inside d day in
    let long = (last_bounds d.month).0 in
    let first = d.month * 1000000 + 10001 in
    by_test (leb first n)
    (λ e.
    let f = leb-true first n e in
    let a = in_month_lem n d.month (record { low = i.low; high = i.high; first = f; last = omega (arith, i.last) }) in
    either_left (in_month n) (in_month (n + more)) a)
    (λ e.
    let f = leb-false first n e in
    let b = in_month_lem (n + more) d.month (record { low = i.low; high = i.high; first = omega (arith, i.first); last = omega arith }) in
    either_right (in_month n) (in_month (n + more)) b)
