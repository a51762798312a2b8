-- `listing::put_listing` meets its contract: the seal is accepted, or it is refused.
-- Assumes nothing.
use borrow.Author.Tests.{eq-eqb, ne_eqb}
use mathlib.Core.Path.{◌≡◌}
use mathlib.Core.Bool.{true, false}
use lib.Dec.{eqb}
use Rattle.listing.proofs.put_listing.Goals as goal

pub returns-then-reading-eq0 : goal.returns-then-reading-eq0
returns-then-reading-eq0 c =
    let zero : eqb c.args.reading.number 0 ≡ true = eq-eqb _ _ c.if-reading-eq0.true in
    rw zero c.put_accepted.ensures

pub returns : goal.returns
returns c =
    let other : eqb c.args.reading.number 0 ≡ false = ne_eqb _ _ c.if-reading-eq0.false in
    rw other c.put_refused.ensures
