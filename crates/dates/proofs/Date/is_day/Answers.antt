-- `dates::Date::is_day` meets its contract: each `return` is a field out of its bounds, and at the end one test is left.
-- Assumes nothing.
use native.Mathlib.Omega.{arith}
use mathlib.Core.Path.{ap, ◌∙◌}
use lib.Dec.{leb}
use Rattle.dates.proofs.Days.Laws.{no_day, last_test}
use Rattle.dates.proofs.Date.is_day.Goals as goal

pub returns-then-self-first : goal.returns-then-self-first
returns-then-self-first c = no_day _ (λ b. omega arith)

pub returns-then-last-self : goal.returns-then-last-self
returns-then-last-self c = no_day _ (λ b. omega arith)

pub returns-then-self-first-2 : goal.returns-then-self-first-2
returns-then-self-first-2 c = no_day _ (λ b. omega arith)

pub returns-then-last-self-2 : goal.returns-then-last-self-2
returns-then-last-self-2 c = no_day _ (λ b. omega arith)

pub returns-then-self-first-3 : goal.returns-then-self-first-3
returns-then-self-first-3 c = no_day _ (λ b. omega arith)

pub days_in-requires : goal.days_in-requires
days_in-requires c = (omega arith, omega arith, omega arith)

pub returns : goal.returns
returns c =
    ap (leb _) c.days_in.ensures ∙ last_test _ (omega arith) (omega arith) (omega arith) (omega arith) (omega arith)
