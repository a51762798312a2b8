-- `case_file::fill::put_place` meets its contract: three parts, each after the one before it.
-- Assumes nothing.
use Rattle.case_file.specs.Line.Laws.{puts_more}
use Rattle.case_file.proofs.fill.put_place.Goals as goal

pub returns : goal.returns
returns c = puts_more _ _ _ _ _ c.number.ensures (puts_more _ _ _ _ _ c.text.ensures c.number-2.ensures)
