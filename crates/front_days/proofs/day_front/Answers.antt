-- `front_days::day_front` meets its contract: by how many bytes are left, and of three by whether they are a day.
-- Assumes nothing.
use native.Mathlib.Omega.{arith}
use mathlib.Core.Path.{ap, sym, ◌∙◌}
use Prim.Native.Nat.{◌+◌, ◌≤◌}
use lib.ListN.{length}
use Rattle.dates.specs.Calls.{taken_of}
use Rattle.front_days.specs.Days.Tests.{front_none, front_one, front_two, front_day, front_no_day, taken_day, taken_none}
use Rattle.front_days.proofs.day_front.Goals as goal
use Rattle.front_days.proofs.day_front.Goals.{Else-left-eq2}

-- three bytes or more are left
left : (c : Else-left-eq2) → let a = c.args in a.at + 3 ≤ length a.seal.now
left c = omega arith

pub returns-then-n-at : goal.returns-then-n-at
returns-then-n-at c = front_none _ _ c.if-n-at.true

pub returns-then-left-eq1 : goal.returns-then-left-eq1
returns-then-left-eq1 c =
    let a = c.args in
    c.one_front.ensures ∙ front_one a.seal.now a.at (omega arith)

pub returns-then-left-eq2 : goal.returns-then-left-eq2
returns-then-left-eq2 c =
    let a = c.args in
    c.two_front.ensures ∙ front_two a.seal.now a.at (omega arith)

pub returns-in-Err : goal.returns-in-Err
returns-in-Err c =
    c.two_front-in-Err.ensures
    ∙ front_no_day _ _ (left (goal.at.returns-in-Err c).Else-left-eq2)
    (taken_none _ (sym (ap taken_of c.in-Err.is) ∙ c.from_bytes.ensures))

pub returns-in-Ok : goal.returns-in-Ok
returns-in-Ok c =
    front_day _ _ (left (goal.at.returns-in-Ok c).Else-left-eq2)
    (taken_day _ _ (sym (ap taken_of c.in-Ok.is) ∙ c.from_bytes.ensures))
