-- `read` meets its contract: the verdict, and what a good seal gives.
-- Assumes nothing.
use native.Mathlib.Omega.{arith}
use mathlib.Core.Path.{◌≡◌, ap, sym}
use lib.ListN.{length}
use lib.Seq.{length-take-le}
use Rattle.reading.specs.Calls.Reads.{Accepted, accepted_version, named_room}
use Rattle.reading.proofs.Calls.Reads.{reads_judged}
use Rattle.reader.specs.Given.{given}
use Rattle.reader.proofs.read.Goals as goal
use Rattle.reader.proofs.read.Goals.{In-Ok}

-- the seal was accepted
good : (c : In-Ok) →
    Accepted c.args.seal.now c.judge_names-judged.result.reading c.in-Ok.version
good c =
    accepted_version _ (λ i. (c.type_inv.seal i).fits) _ c.judge_names-judged.ensures.answer _
    c.in-Ok.is

-- the reference's length, as the report has it
size : (c : In-Ok) → c.judge_names-judged.result.reading.header.length ≡ length (good c).report.header.reference
size c = ap (λ z. z.header.length) (good c).answer

pub returns-in_default : goal.returns-in_default
returns-in_default c =
    let args = c.args in
    let r = reads_judged args.seal.now args.table.now args.text.now c.judge_names-judged.result c.judge_names-judged.ensures.answer
    _ c.in_default.is in
    record { answer = r.0; rows = r.1.0; names = r.1.1 }

pub overflow_add-size : goal.overflow_add-size
overflow_add-size c = omega (arith, size (goal.at.overflow_add-size c).In-Ok, (good (goal.at.overflow_add-size c).In-Ok).reference)

pub slice_bounds-names-end : goal.slice_bounds-names-end
slice_bounds-names-end c =
    named_room _ _ _ (good (goal.at.slice_bounds-names-end c).In-Ok) _ c.judge_names-judged.ensures.text

pub slice_bounds-give-end : goal.slice_bounds-give-end
slice_bounds-give-end c =
    sym (length-take-le _ _ (named_room _ _ _ (good (goal.at.slice_bounds-give-end c).In-Ok) _ c.judge_names-judged.ensures.text))

pub give-requires : goal.give-requires
give-requires c = record { given = given _ _ _ (good (goal.at.give-requires c).In-Ok) _ c.judge_names-judged.ensures.text }
