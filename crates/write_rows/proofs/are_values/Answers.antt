-- `are_values` meets its contract. The loop's invariant: no row before has a value over 255 bytes.
-- Assumes nothing.
use mathlib.Core.Path.{ap, ◌∙◌, sym}
use Rattle.rows.specs.Left.{rows_left}
use Rattle.write_rows.specs.Tests.{are_short}
use Rattle.write_rows.specs.Table.{values_four, short_end, short_stops, short_more}
use Rattle.write_rows.proofs.are_values.Goals as goal

pub returns-in-Four : goal.returns-in-Four
returns-in-Four c = let a = c.args in values_four a.version a.table.now c.in-Four.is

pub loop-row-init : goal.loop-row-init
loop-row-init c = sym (ap are_short (ap rows_left c.into_iter-row-iterator.ensures.into_iter_gives ∙ c.of-row-items.ensures))

pub returns : goal.returns
returns c =
    let a = c.args in
    short_end a.version a.table.now _ c.in_default.is c.loop-row.invariant c.in-None.ensures.steps.0

pub returns-then-row-gt255 : goal.returns-then-row-gt255
returns-then-row-gt255 c =
    let a = c.args in
    short_stops a.version a.table.now _ c.in_default.is c.loop-row.invariant _ _ c.in-Some.ensures.steps c.if-row-gt255.true

pub loop-row-preserved : goal.loop-row-preserved
loop-row-preserved c =
    let a = c.args in
    short_more a.version a.table.now _ c.in_default.is c.loop-row.invariant _ _ c.in-Some.ensures.steps c.if-row-gt255.false
