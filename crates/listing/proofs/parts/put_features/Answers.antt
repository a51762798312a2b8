-- `listing::parts::put_features` meets its contract. The loop's invariant: the lines of the rows before are put down, and those of the rows
-- that the walk has left are left.
-- Assumes nothing.
use mathlib.Core.Path.{ap, ◌∙◌}
use Rattle.std.specs.Iterator.Adapters.{take_source, take_count}
use Rattle.rows.specs.Left.{rows_left}
use Rattle.listing.specs.Listing.Laws.{listing_start, listing_end, listing_more}
use Rattle.listing.proofs.parts.put_features.Goals as goal

pub loop-row-init : goal.loop-row-init
loop-row-init c =
    let same = c.into_iter-row-iterator.ensures.into_iter_gives in
    let count = ap take_count same ∙ c.take-row-items.ensures.count in
    let all = ap rows_left (ap take_source same ∙ c.take-row-items.ensures.source) ∙ c.of.ensures in
    rw (count, all) (listing_start _ _ _)

pub loop-row-preserved : goal.loop-row-preserved
loop-row-preserved c =
    listing_more _ _ _ _ _ _ c.loop-row.invariant _ _ c.in-Some.ensures.steps.0 _ c.in-Some.ensures.steps.1 _ c.put_feature.ensures

pub returns : goal.returns
returns c = listing_end _ _ _ _ _ _ c.loop-row.invariant (λ some. (c.in-None.ensures.steps some).0)
