-- `shown::value_from` meets its contract: each way out and each turn by its law.
-- Assumes nothing.
use Rattle.std.proofs.Common.{arith}
use Rattle.walk_steps.proofs.Rows.Laws.{step_goes}
use Rattle.shown.proofs.Found.Laws.{left_none, left_is, left_more}
use Rattle.shown.proofs.value_from.Goals as goal

pub returns-then-step-ne0 : goal.returns-then-step-ne0
returns-then-step-ne0 c = left_none _ _ _ _ c.loop-step.invariant _ c.step_at-step.ensures c.if-step-ne0.true

pub returns-then-row-tag : goal.returns-then-row-tag
returns-then-row-tag c =
    left_is _ _ _ _ c.loop-step.invariant _ c.step_at-step.ensures c.if-step-ne0.false c.if-row-tag.true

pub loop-step-smaller : goal.loop-step-smaller
loop-step-smaller c =
    let goes = step_goes _ _ _ c.step_at-step.ensures c.if-step-ne0.false in
    omega (arith, goes.on, goes.inside)

pub loop-step-preserved : goal.loop-step-preserved
loop-step-preserved c =
    left_more _ _ _ _ c.loop-step.invariant _ c.step_at-step.ensures c.if-step-ne0.false c.if-row-tag.false
