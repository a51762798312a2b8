-- `Turned::all_known` meets its contract. The loop's invariant: the characters passed are judged by their marks together.
-- Assumes nothing.
use native.Mathlib.Omega.{arith}
use Rattle.c40_write.specs.Turned.Laws.{judged_start, judged_more, judged_end}
use Rattle.c40_write.proofs.turned.Turned.all_known.Goals as goal

pub loop-c-init : goal.loop-c-init
loop-c-init c = judged_start _

pub loop-c-preserved : goal.loop-c-preserved
loop-c-preserved c =
    let known = c.type_inv.text c.loop-c.c-index in
    judged_more _ _ _ c.loop-c.invariant _ (omega arith) (omega arith) c.entry-marks.ensures.is

pub returns : goal.returns
returns c = judged_end _ _ _ c.loop-c.invariant (omega arith)
