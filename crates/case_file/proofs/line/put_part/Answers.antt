-- `case_file::line::put_part` meets its contract: the label, and then the numbers.
-- Assumes nothing.
use Rattle.case_file.specs.Line.Laws.{puts_more}
use Rattle.case_file.proofs.line.put_part.Goals as goal

pub returns : goal.returns
returns c = puts_more _ _ _ _ _ c.text.ensures c.put_words.ensures
