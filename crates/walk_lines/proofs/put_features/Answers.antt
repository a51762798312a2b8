-- `walk_lines::put_features` meets its contract. The loop's invariant: the lines of the rows before are put down, and those of the rows
-- that are still to be found are left; the line keeps its buffer. What is left of the seal falls.
-- Assumes nothing.
use native.Mathlib.Omega.{arith}
use mathlib.Core.Path.{refl, ◌∙◌}
use Rattle.walk_steps.proofs.Rows.Laws.{step_goes}
use Rattle.walk_lines.specs.Lines.Laws.{telling_start, telling_end, telling_more}
use Rattle.walk_lines.proofs.put_features.Goals as goal

pub loop-step-init : goal.loop-step-init
loop-step-init c = (telling_start _ _ _ _, refl)

pub returns-then-step-ne0 : goal.returns-then-step-ne0
returns-then-step-ne0 c =
    let told = c.loop-step.invariant.0 in
    record {
      tells = telling_end _ _ _ _ _ _ _ told _ c.next_at-step.ensures c.if-step-ne0.true;
      size = told.long;
      same = c.loop-step.invariant.1;
    }

pub loop-step-smaller : goal.loop-step-smaller
loop-step-smaller c =
    let goes = step_goes _ _ _ c.next_at-step.ensures c.if-step-ne0.false in
    omega (arith, goes.on, goes.inside)

pub loop-step-preserved : goal.loop-step-preserved
loop-step-preserved c =
    let put = c.put_feature.ensures in (
      telling_more _ _ _ _ _ _ _ c.loop-step.invariant.0 _ c.next_at-step.ensures c.if-step-ne0.false _ _ put.size put.put,
      put.same ∙ c.loop-step.invariant.1,
    )
