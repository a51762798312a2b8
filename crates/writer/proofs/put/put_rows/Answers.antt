-- `put_rows` meets its contract. The loop's invariant: the features of the rows before stand in `out`.
-- Assumes nothing.
use native.Mathlib.Omega.{arith}
use mathlib.Core.Path.{◌≡◌, ap, ◌∙◌}
use Prim.Native.Nat.{◌+◌, ◌-◌}
use lib.ListN.{length, take, drop}
use Rattle.rows.specs.Left.{rows_left}
use Rattle.write_judge.specs.Needs.{Fits}
use Rattle.writer.specs.Put.{putting_start, putting_length, putting_end, putting_fits, putting_asks, putting_more}
use Rattle.writer.proofs.put.put_rows.Goals as goal
use Rattle.writer.proofs.put.put_rows.Goals.{In-Some}

-- the row that stands here was judged
fits : (c : In-Some) → Fits c.args.version (length c.args.values.now) c.in-Some.row
fits c = putting_fits _ _ _ _ _ _ _ _ c.loop-row.invariant _ _ c.in-Some.ensures.steps

-- the part that is lent is its value
value : (c : In-Some) →
    let r = c.in-Some.row in
    let values = c.args.values.now in
    take (r.place + r.size - r.place) (drop r.place values) ≡ take r.size (drop r.place values)
value c =
    let r = c.in-Some.row in
    let e : r.place + r.size - r.place ≡ r.size = omega arith in
    ap (λ k. take k (drop r.place c.args.values.now)) e

pub loop-row-init : goal.loop-row-init
loop-row-init c =
    let a = c.args in
    let all = ap rows_left c.into_iter-row-iterator.ensures.into_iter_gives ∙ c.of-row-items.ensures in
    rw all (putting_start a.version a.values.now a.rows.now a.out.now a.start c.requires.0 c.requires.1)

pub shape_of-out : goal.shape_of-out
shape_of-out c = putting_length _ _ _ _ _ _ _ _ c.loop-row.invariant

pub returns : goal.returns
returns c =
    let p = putting_end _ _ _ _ _ _ _ _ c.loop-row.invariant c.in-None.ensures.steps.0 in
    record { place = p.0; buffer = p.1 }

pub overflow_add-end : goal.overflow_add-end
overflow_add-end c = let f = fits (goal.at.overflow_add-end c).In-Some in omega (arith, f.1)

pub slice_bounds-put_feature-end : goal.slice_bounds-put_feature-end
slice_bounds-put_feature-end c = let f = fits (goal.at.slice_bounds-put_feature-end c).In-Some in omega (arith, f.1)

pub put_feature-at-requires : goal.put_feature-at-requires
put_feature-at-requires c =
    putting_asks _ _ _ _ _ _ _ _ c.loop-row.invariant _ _ c.in-Some.ensures.steps _ (value (goal.at.put_feature-at-requires c).In-Some)

pub loop-row-preserved : goal.loop-row-preserved
loop-row-preserved c =
    putting_more _ _ _ _ _ _ _ _ c.loop-row.invariant _ _ c.in-Some.ensures.steps _ (value (goal.at.loop-row-preserved c).In-Some) _ _
    c.put_feature-at.ensures.place c.put_feature-at.ensures.buffer
