-- `are_rows` meets its contract. The loop's invariant: the rows before are good, the table is as good as the rest, and the tags before are
-- marked.
-- Assumes nothing.
use borrow.Author.Tests.{leb-true, leb-false}
use native.Mathlib.Omega.{arith}
use mathlib.Core.Path.{◌≡◌, ◌∙◌, sym}
use Prim.Native.Nat.{ℕ, ◌+◌, ◌≤◌}
use mathlib.Core.List.{List}
use lib.ListN.{length}
use Rattle.rows.specs.Rows.{width, row_at}
use Rattle.rows.proofs.Rows.Laws.{found_none, found_row_lem}
use Rattle.write_rows.specs.Table.{judged_start, judged_end, judged_tag, judged_used, judged_outside, judged_more}
use Rattle.write_rows.proofs.are_rows.Goals as goal
use Rattle.write_rows.proofs.are_rows.Goals.{At-loop-row, In-Some}

-- the table that was handed over, and the row that stands here
abbrev table_at : At-loop-row → List ℕ
table_at c = c.args.table.now

there : (c : In-Some) →
    let on = (goal.at.In-Some c).At-loop-row in
    (on.loop-row.at + width ≤ length (table_at on)) × (c.in-Some.row ≡ row_at (table_at on) on.loop-row.at)
there c = found_row_lem _ _ _ (sym c.in-Some.is ∙ c.row_at.ensures)

pub loop-row-init : goal.loop-row-init
loop-row-init c = judged_start _ _

pub returns : goal.returns
returns c =
    judged_end _ _ _ _ c.loop-row.invariant (found_none _ _ (sym c.in_default.is ∙ c.row_at.ensures))

pub returns-then-tag-gt254 : goal.returns-then-tag-gt254
returns-then-tag-gt254 c =
    judged_tag _ _ _ _ c.loop-row.invariant (there (goal.at.returns-then-tag-gt254 c).In-Some).0 _ (there (goal.at.returns-then-tag-gt254 c).In-Some).1 (omega arith)

pub bounds-marks-tag : goal.bounds-marks-tag
bounds-marks-tag c = omega arith

pub returns-then-marks-tag-eq1 : goal.returns-then-marks-tag-eq1
returns-then-marks-tag-eq1 c =
    judged_used _ _ _ _ c.loop-row.invariant (there (goal.at.returns-then-marks-tag-eq1 c).In-Some).0 _ (there (goal.at.returns-then-marks-tag-eq1 c).In-Some).1 (omega arith) c.if-marks-tag-eq1.true

pub returns-then-not-is_inside : goal.returns-then-not-is_inside
returns-then-not-is_inside c =
    judged_outside _ _ _ _ c.loop-row.invariant (there (goal.at.returns-then-not-is_inside c).In-Some).0 _ (there (goal.at.returns-then-not-is_inside c).In-Some).1 (omega arith)
    c.if-marks-tag-eq1.false (leb-false _ _ (sym c.is_inside.ensures ∙ c.if-not-is_inside.true))

pub bounds-marks-tag-in-Some : goal.bounds-marks-tag-in-Some
bounds-marks-tag-in-Some c = omega arith

pub overflow_add-at : goal.overflow_add-at
overflow_add-at c = omega (arith, (there (goal.at.overflow_add-at c).In-Some).0)

pub loop-row-smaller : goal.loop-row-smaller
loop-row-smaller c = omega (arith, (there (goal.at.loop-row-smaller c).In-Some).0)

pub loop-row-preserved : goal.loop-row-preserved
loop-row-preserved c =
    judged_more _ _ _ _ c.loop-row.invariant (there (goal.at.loop-row-preserved c).In-Some).0 _ (there (goal.at.loop-row-preserved c).In-Some).1 (omega arith)
    c.if-marks-tag-eq1.false (leb-true _ _ (sym c.is_inside.ensures ∙ c.if-not-is_inside.false))
