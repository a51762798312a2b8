-- `der::is_redundant` meets its contract.
-- Assumes nothing.
use borrow.Author.Tests.{lt-ltb, le-ltb}
use Rattle.der.proofs.is_redundant.Goals as goal

pub returns-then-y-lt128 : goal.returns-then-y-lt128
returns-then-y-lt128 c = simp (lt-ltb _ _ c.if-y-lt128.true)

pub returns : goal.returns
returns c = simp (le-ltb _ _ c.if-y-lt128.false)
