-- `walk_steps::start_of` meets its contract: number and place of the judge's answer, and its header's end, which is 0 where the seal is
-- refused.
-- Assumes nothing.
use mathlib.Core.Path.{◌≡◌, refl, ap, ◌∙◌}
use Rattle.verdict.specs.Judge.{Verdict, accepted, refused, judge}
use Rattle.reading.specs.Calls.{answer_of}
use Rattle.reading.specs.declared.Reading.{Reading}
use Rattle.walk_steps.specs.declared.Start.{Start}
use Rattle.walk_steps.specs.Steps.{start_of}
use Rattle.walk_steps.proofs.start_of.Goals as goal

-- what is started by an answer
start_by : Reading → Start
start_by a = record { number = a.number; place = a.place; at = a.ends.header }

started : (v : Verdict) → start_by (answer_of v) ≡ start_of v
unfolding start_by
started (accepted r) = refl
started (refused number place) = refl

pub returns : goal.returns
unfolding start_by
returns c = ap start_by c.judge-judged.ensures ∙ started (judge c.args.seal.now)
