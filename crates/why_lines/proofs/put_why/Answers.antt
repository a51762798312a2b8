-- `why_lines::put_why` meets its contract: the seal is accepted, or it is refused.
-- Assumes nothing.
use borrow.Author.Tests.{eq-eqb, ne_eqb}
use mathlib.Core.Path.{◌≡◌}
use mathlib.Core.Bool.{true, false}
use lib.Dec.{eqb}
use Rattle.lines.specs.Written.Laws.{puts_more}
use Rattle.why_lines.proofs.put_why.Goals as goal

pub returns-then-reason-eq0 : goal.returns-then-reason-eq0
returns-then-reason-eq0 c =
    let zero : eqb c.args.reason.number 0 ≡ true = eq-eqb _ _ c.if-reason-eq0.true in
    rw zero c.text.ensures

pub returns : goal.returns
returns c =
    let other : eqb c.args.reason.number 0 ≡ false = ne_eqb _ _ c.if-reason-eq0.false in
    rw other (puts_more _ _ _ _ _ (rw c.part.ensures.bytes at c.put_reason.ensures) c.put_front.ensures)
