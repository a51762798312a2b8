-- `blocks::copy_lent` meets its contract: where there is room, all blocks are put down.
-- Assumes nothing.
use native.Mathlib.Omega.{arith}
use mathlib.Core.Path.{◌∙◌}
use Rattle.octets.specs.Copy.Laws.{copied_not, copied_all}
use Rattle.blocks.proofs.copy_lent.Goals as goal

pub returns-then-out-from : goal.returns-then-out-from
returns-then-out-from c =
    let a = c.args in copied_not a.from.now a.out.now 0 (omega arith)

pub returns : goal.returns
returns c =
    let a = c.args in
    c.put_blocks.ensures ∙ copied_all a.from.now a.out.now 0 (omega arith)
