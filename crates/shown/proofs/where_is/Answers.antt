-- `shown::where_is` meets its contract: each way out by its law. What both walks find are the rows of the two seals.
-- Assumes nothing.
use Rattle.shown.proofs.LookUp.Laws.{where_not_main, where_not_extension, where_first}
use Rattle.shown.proofs.where_is.Goals as goal

pub returns-then-first-ne0 : goal.returns-then-first-ne0
returns-then-first-ne0 c = where_not_main _ _ _ _ c.start_of-first.ensures c.if-first-ne0.true

pub returns-then-second-ne0 : goal.returns-then-second-ne0
returns-then-second-ne0 c =
    where_not_extension _ _ _ _ c.start_of-first.ensures c.if-first-ne0.false _ c.start_of-second.ensures c.if-second-ne0.true

pub returns : goal.returns
returns c =
    where_first _ _ _ _ c.start_of-first.ensures c.if-first-ne0.false _ c.start_of-second.ensures c.if-second-ne0.false
    (λ i. (c.type_inv.main i).fits) (λ i. (c.type_inv.extension i).fits) _ c.where_from.ensures
