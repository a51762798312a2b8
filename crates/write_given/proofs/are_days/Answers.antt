-- `are_days` meets its contract.
-- Assumes nothing.
use borrow.Author.Rules.{rules}
use mathlib.Core.Path.{◌≡◌, sym, ap, ◌∙◌}
use mathlib.Core.Bool.{true, false}
use Rattle.format.specs.Choice.{both}
use Rattle.dates.specs.Days.{is_day}
use Rattle.fields.specs.declared.Header.{Header}
use Rattle.write_given.specs.Tests.{are_days}
use Rattle.write_given.proofs.are_days.Goals as goal

first_no : (h : Header) → is_day h.issued ≡ false → false ≡ are_days h
first_no h e = sym (ap (λ b. both b (is_day h.signed)) e)

first_is : (h : Header) → is_day h.issued ≡ true → is_day h.signed ≡ are_days h
first_is h e = sym (ap (λ b. both b (is_day h.signed)) e)

pub returns-then-not-is_day : goal.returns-then-not-is_day
returns-then-not-is_day c = first_no c.args.header (sym c.is_day.ensures ∙ c.if-not-is_day.true)

pub returns : goal.returns
returns c =
    c.is_day-2.ensures
    ∙ first_is c.args.header (sym c.is_day.ensures ∙ c.if-not-is_day.false)
