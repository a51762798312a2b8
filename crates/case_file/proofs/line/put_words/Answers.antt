-- `case_file::line::put_words` meets its contract.
-- Assumes nothing.
use Rattle.case_file.specs.Line.{words_of}
use Rattle.case_file.specs.Line.Laws.{puts_none, words_turn}
use Rattle.case_file.proofs.line.put_words.Goals as goal

pub loop-number-init : goal.loop-number-init
unfolding words_of
loop-number-init c = puts_none _

pub loop-number-preserved : goal.loop-number-preserved
loop-number-preserved c = words_turn _ _ c.loop-number-test.true _ _ _ _ c.loop-number.invariant c.put.ensures c.number.ensures
