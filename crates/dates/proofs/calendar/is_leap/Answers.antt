-- `dates::calendar::is_leap` meets its contract: product and shift tell whether 25 divides the year, low bits whether 16 or 4 does.
-- Assumes nothing.
use native.Mathlib.Omega.{arith}
use mathlib.Core.Path.{ap, ◌∙◌}
use lib.Bits.{and_mask}
use lib.Dec.{eqb}
use Rattle.dates.proofs.Days.Calendar.{leap_by_16, leap_by_4, divided, not_divided}
use Rattle.dates.proofs.calendar.is_leap.Goals as goal

pub returns-then-year : goal.returns-then-year
returns-then-year c =
    let year = c.args.year in
    ap (λ n. eqb n 0) (and_mask year 4) ∙ leap_by_16 year (divided year c.if-year.true)

pub returns : goal.returns
returns c =
    let year = c.args.year in
    ap (λ n. eqb n 0) (and_mask year 2) ∙ leap_by_4 year (not_divided year (omega arith) c.if-year.false)
