-- `rows_size` meets its contract. The loop's invariant: what is left of the sum is the size of the rows left, and the sum has not passed
-- 4,096.
-- Assumes nothing.
use native.Mathlib.Omega.{arith}
use mathlib.Core.Path.{ap, ◌∙◌}
use Rattle.rows.specs.Left.{rows_left}
use Prim.Native.Nat.{◌≤◌}
use Rattle.write_size.specs.SealSize.Laws.{summed_start, summed_end, summed_great, summed_past, summed_more, width_small}
use Rattle.write_size.proofs.rows_size.Goals as goal
use Rattle.write_size.proofs.rows_size.Goals.{After-width_of, In-Some}

-- the width of the length
small : (c : After-width_of) → c.width_of.result ≤ 3
small c =
    let version = c.args.version in
    omega (arith, c.width_of.ensures, width_small version c.in-Some.row.size (omega arith))

pub loop-row-init : goal.loop-row-init
loop-row-init c =
    let all = ap rows_left c.into_iter-row-iterator.ensures.into_iter_gives ∙ c.of-row-items.ensures in
    rw all (summed_start _ _ _ c.requires)

pub returns : goal.returns
returns c = summed_end _ _ _ _ _ c.loop-row.invariant c.in-None.ensures.steps.0

pub returns-then-size-gt4096 : goal.returns-then-size-gt4096
returns-then-size-gt4096 c = summed_great _ _ _ _ _ c.loop-row.invariant _ _ c.in-Some.ensures.steps c.if-size-gt4096.true

pub width_of-requires : goal.width_of-requires
width_of-requires c = omega arith

pub overflow_add-total : goal.overflow_add-total
overflow_add-total c = let w = small c in omega arith

pub overflow_add-total-in-loop-row : goal.overflow_add-total-in-loop-row
overflow_add-total-in-loop-row c = let w = small c in omega arith

pub overflow_add-total-in-loop-row-2 : goal.overflow_add-total-in-loop-row-2
overflow_add-total-in-loop-row-2 c = let w = small c in omega (arith, c.loop-row.invariant.small)

pub returns-then-total-gt4096 : goal.returns-then-total-gt4096
returns-then-total-gt4096 c =
    summed_past _ _ _ _ _ c.loop-row.invariant _ _ c.in-Some.ensures.steps _ c.width_of.ensures c.if-total-gt4096.true

pub loop-row-preserved : goal.loop-row-preserved
loop-row-preserved c =
    summed_more _ _ _ _ _ c.loop-row.invariant _ _ c.in-Some.ensures.steps _ c.width_of.ensures c.if-total-gt4096.false
