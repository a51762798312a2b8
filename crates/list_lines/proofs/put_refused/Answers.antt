-- `put_refused` meets its contract.
-- Assumes nothing.
use mathlib.Core.List.{append_assoc}
use Rattle.lines.specs.Written.Laws.{puts_more}
use Rattle.list_lines.proofs.put_refused.Goals as goal

pub returns : goal.returns
returns c =
    simp append_assoc
    (puts_more _ _ _ _ _ c.text.ensures (puts_more _ _ _ _ _ c.number.ensures (puts_more _ _ _ _ _ c.text-2.ensures (puts_more _ _ _ _ _ c.number-2.ensures c.put.ensures))))
