-- `pages::put_all` meets its contract: all of the words copied, or nothing.
-- Assumes nothing.
use native.Mathlib.Omega.{arith}
use Rattle.pages.specs.Calls.Laws.{not_said, said_all}
use Rattle.pages.proofs.put_all.Goals as goal

pub returns-then-out-size : goal.returns-then-out-size
returns-then-out-size c = not_said _ _ c.if-out-size.true

pub returns : goal.returns
returns c = said_all _ _ (omega (arith, c.if-out-size.false)) _ c.copy_lent.ensures
