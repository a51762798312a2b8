-- `put_zero` meets its contract.
-- Assumes nothing.
use borrow.Author.Tests.{lt-ltb, le-ltb}
use Rattle.lines.specs.Written.Laws.{puts_none}
use Rattle.list_lines.proofs.date.put_zero.Goals as goal

pub returns-then-n-limit : goal.returns-then-n-limit
returns-then-n-limit c = rw (lt-ltb _ _ c.if-n-limit.true) c.put.ensures

pub returns-else-n-limit : goal.returns-else-n-limit
returns-else-n-limit c = rw (le-ltb _ _ c.if-n-limit.false) (puts_none _)
