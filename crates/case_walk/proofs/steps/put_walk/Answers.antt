-- `case_walk::steps::put_walk` meets its contract. The loop's invariant: the line was written on.
-- A step that finds a feature goes on and stays in the seal, so that what is left of the seal falls.
-- Assumes nothing.
use native.Mathlib.Omega.{arith}
use Rattle.walk_steps.proofs.Rows.Laws.{step_goes}
use Rattle.case_walk.proofs.steps.put_walk.Goals as goal

pub loop-start-smaller : goal.loop-start-smaller
loop-start-smaller c =
    let goes = step_goes _ _ _ c.next_at-step.ensures c.if-step-ne0.false in
    omega (arith, goes.on, goes.inside)
