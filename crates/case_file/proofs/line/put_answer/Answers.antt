-- `case_file::line::put_answer` meets its contract: three parts, each after the one before it.
-- Assumes nothing.
use Rattle.case_file.specs.Line.Laws.{puts_more}
use Rattle.case_file.proofs.line.put_answer.Goals as goal

pub returns : goal.returns
returns c = puts_more _ _ _ _ _ c.number.ensures (puts_more _ _ _ _ _ c.put_words.ensures c.put.ensures)
