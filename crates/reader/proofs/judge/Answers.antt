-- `judge` meets its contract: it is the answer of the judging.
-- Assumes nothing.
use Rattle.reading.specs.Calls.Reads.{judged_answer}
use Rattle.reader.proofs.judge.Goals as goal

pub returns : goal.returns
returns c = judged_answer _ _ c.judge_names-judged.ensures.answer
