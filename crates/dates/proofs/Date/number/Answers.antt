-- `dates::Date::number` meets its contract: the number of a day fits, and `is_day` tells whether it is one.
-- Assumes nothing.
use native.Mathlib.Omega.{arith}
use mathlib.Core.Path.{◌∙◌, sym}
use Rattle.dates.specs.Days.{Day}
use Rattle.dates.proofs.Days.Laws.{number_below}
use Rattle.dates.proofs.Exact.{to_day, to_none}
use Rattle.dates.proofs.Date.number.Goals as goal
use Rattle.dates.proofs.Date.number.Goals.{Else-not-is_day}

pub returns-then-not-is_day : goal.returns-then-not-is_day
returns-then-not-is_day c = sym (to_none _ (sym c.is_day.ensures ∙ c.if-not-is_day.true))

-- the test was passed
day : (c : Else-not-is_day) → Day c.args.self
day c = sym c.is_day.ensures ∙ c.if-not-is_day.false

pub overflow_mul-result : goal.overflow_mul-result
overflow_mul-result c = omega (arith, number_below _ (day (goal.at.overflow_mul-result c).Else-not-is_day))

pub overflow_mul-result-2 : goal.overflow_mul-result-2
overflow_mul-result-2 c = omega (arith, number_below _ (day (goal.at.overflow_mul-result-2 c).Else-not-is_day))

pub overflow_add-result : goal.overflow_add-result
overflow_add-result c = omega (arith, number_below _ (day (goal.at.overflow_add-result c).Else-not-is_day))

pub overflow_add-result-2 : goal.overflow_add-result-2
overflow_add-result-2 c = omega (arith, number_below _ (day (goal.at.overflow_add-result-2 c).Else-not-is_day))

pub returns : goal.returns
returns c = sym (to_day _ (day (goal.at.returns c).Else-not-is_day))
