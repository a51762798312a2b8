-- `dates::calendar::days_in` meets its contract: February by `is_leap`, the other months by turns.
-- Assumes nothing.
use native.Mathlib.Omega.{arith}
use mathlib.Core.Path.{◌≡◌, ap, sym, ◌∙◌}
use Prim.Native.Nat.{ℕ, ◌+◌, ◌/◌}
use lib.Bits.{bit_and, and_mask, mask_lt}
use mir.Syntax.{w64}
use mir.Val.{Fits}
use Rattle.format.specs.Choice.{pick}
use Rattle.dates.specs.Days.{days_in}
use Rattle.dates.proofs.Days.Calendar.{by_turns}
use Rattle.dates.proofs.calendar.days_in.Goals as goal
use Rattle.dates.proofs.calendar.days_in.Goals.{Then-month-eq-FEBRUARY}

-- February
short : (c : Then-month-eq-FEBRUARY) → days_in c.args.year 2 ≡ days_in c.args.year c.args.month
short c = ap (days_in c.args.year) (sym c.if-month-eq-FEBRUARY.true)

pub returns-then-is_leap : goal.returns-then-is_leap
returns-then-is_leap c = ap (λ b. pick b 29 28) (sym c.if-is_leap.true ∙ c.is_leap.ensures) ∙ short (goal.at.returns-then-is_leap c).Then-month-eq-FEBRUARY

pub returns-then-month-eq-FEBRUARY : goal.returns-then-month-eq-FEBRUARY
returns-then-month-eq-FEBRUARY c = ap (λ b. pick b 29 28) (sym c.if-is_leap.false ∙ c.is_leap.ensures) ∙ short (goal.at.returns-then-month-eq-FEBRUARY c).Then-month-eq-FEBRUARY

-- 30 and a low bit
bit_fits : (n : ℕ) → Fits w64 (30 + bit_and n 1)
bit_fits n = omega (arith, mask_lt n 1)

pub overflow_add-result-2 : goal.overflow_add-result-2
overflow_add-result-2 c = search bit_fits

pub returns : goal.returns
returns c =
    let month = c.args.month in
    ap (λ n. 30 + n) (and_mask (month + month / 8) 1) ∙ by_turns c.args.year month (omega arith) (omega arith) c.if-month-eq-FEBRUARY.false
