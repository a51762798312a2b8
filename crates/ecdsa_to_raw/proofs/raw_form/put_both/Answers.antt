-- `raw_form::put_both` meets its contract: no room, or r put down at the start and s after it.
-- Assumes nothing.
use Rattle.format.proofs.Answers.Laws.{refuses, gives}
use Rattle.ecdsa_to_raw.specs.Rawed.{rawed_no_room, rawed_done, both_many, both_put}
use Rattle.ecdsa_to_raw.proofs.raw_form.put_both.Goals as goal

pub returns-then-out-count : goal.returns-then-out-count
returns-then-out-count c =
    let w = refuses _ 63 0 _ (rawed_no_room _ _ _ c.if-out-count.true) in
    record { answer = w.0; buffer = w.1 }

pub returns : goal.returns
returns c =
    let a = c.args in
    let asked = c.requires in
    let room = c.if-out-count.false in
    let w = gives _ _ _ _ _ (rawed_done _ _ _ room) (both_many _ a.r.now a.s.now asked.1 asked.2)
    (both_put _ a.r.now a.s.now asked.1 asked.2 _ _ c.put_padded.ensures room _ c.put_padded-2.ensures) in
    record { answer = w.0; buffer = w.1 }
