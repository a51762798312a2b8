-- `case_file::fill::put_call` meets its contract: the number, and then the rest of the line.
-- Assumes nothing.
use Rattle.case_file.specs.Line.Laws.{puts_more}
use Rattle.case_file.proofs.fill.put_call.Goals as goal

pub returns : goal.returns
returns c = puts_more _ _ _ _ _ c.number.ensures c.put_filled.ensures
