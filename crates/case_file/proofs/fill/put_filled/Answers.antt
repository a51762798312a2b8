-- `case_file::fill::put_filled` meets its contract: five parts, each after the one before it.
-- Assumes nothing.
use Rattle.case_file.specs.Line.Laws.{puts_more}
use Rattle.case_file.proofs.fill.put_filled.Goals as goal

pub returns : goal.returns
returns c =
    puts_more _ _ _ _ _ c.text.ensures
    (puts_more _ _ _ _ _ c.number.ensures (puts_more _ _ _ _ _ c.put_kept.ensures (puts_more _ _ _ _ _ c.put_written.ensures c.put.ensures)))
