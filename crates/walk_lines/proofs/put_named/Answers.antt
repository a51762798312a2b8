-- `walk_lines::put_named` meets its contract: the name, and then the number.
-- Assumes nothing.
use Rattle.lines.specs.Written.Laws.{puts_more}
use Rattle.walk_lines.proofs.put_named.Goals as goal

pub returns : goal.returns
returns c = puts_more _ _ _ _ _ c.text.ensures c.number.ensures
