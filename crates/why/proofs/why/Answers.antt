-- `why` meets its contract: what the judging came to is what is told.
-- Assumes nothing.
use mathlib.Core.Path.{◌∙◌}
use Rattle.why.specs.Told.Laws.{told_good, told_not}
use Rattle.why.proofs.why.Goals as goal

pub returns-in-Ok : goal.returns-in-Ok
returns-in-Ok c =
    told_good _ c.judge_names-judged.result c.judge_names-judged.ensures.answer _ c.in-Ok.is

pub returns-in-Err : goal.returns-in-Err
returns-in-Err c =
    c.because.ensures ∙ told_not _ c.judge_names-judged.result c.judge_names-judged.ensures.answer _ c.in-Err.is
