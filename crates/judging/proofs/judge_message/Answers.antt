-- `judge_message` meets its contract: the refusal of features or signature is the verdict, and with both read the seal is accepted.
-- Assumes nothing.
use native.Mathlib.Omega.{arith}
use mathlib.Core.Path.{◌≡◌, ◌∙◌, ap, refl, sym}
use Rattle.std.specs.Prelude.{Ok}
use mathlib.Core.List.{[]}
use Prim.Native.Nat.{◌+◌}
use lib.ListN.{length}
use Rattle.verdict.specs.Judge.{features, signature as signature_at}
use Rattle.read_items.specs.Meaning.Laws.{left}
use Rattle.read_features.specs.Meaning.{features_of}
use Rattle.read_features.specs.Meaning.Laws.{Counted, counted, through_unread}
use Rattle.read_signature.specs.Meaning.{signature_of}
use Rattle.reading.specs.FeatureRows.Laws.{mark_inside}
use Rattle.judging.specs.Judged.{judge_features, judge_signature, judged_refused, judged_good, settled}
use Rattle.judging.proofs.judge_message.Goals as goal
use Rattle.judging.proofs.judge_message.Goals.{In_ok-features, In_ok-signature}

-- what was read by each step
rows_read_lem : (c : In_ok-features) →
    let args = c.args in
    let read = c.in_ok-features.features in
    Counted (features 256 args.version [] args.message.place args.seal.now) read.count read.mark.place
rows_read_lem c = counted _ _ _ (sym (ap features_of c.in_ok-features.was) ∙ c.read_features.ensures)

signature_read : (c : In_ok-signature) →
    signature_of (Ok c.in_ok-signature.signature) ≡ signature_at (c.in_ok-features.features.mark.place + 1) c.args.seal.now
signature_read c = sym (ap signature_of c.in_ok-signature.was) ∙ c.read_signature.ensures

pub returns-in_err-features : goal.returns-in_err-features
returns-in_err-features c =
    ap settled (left _ _ c.from_residual.ensures.1)
    ∙ judged_refused _ _ _ _
    (judge_features _ _ _ _ c.requires.read _ _
    (through_unread length _ _ _ (sym (ap features_of c.in_err-features.was) ∙ c.read_features.ensures)))
    refl

pub overflow_add-mark : goal.overflow_add-mark
overflow_add-mark c =
    let rows = rows_read_lem (goal.at.overflow_add-mark c).In_ok-features in
    let inside = mark_inside 256 _ [] _ _ rows.rows _ (sym rows.read) in
    omega (arith, inside, c.requires.read.short)

pub returns-in_err-signature : goal.returns-in_err-signature
returns-in_err-signature c =
    let rows = rows_read_lem (goal.at.returns-in_err-signature c).In_ok-features in
    ap settled (left _ _ c.from_residual-in_err-signature.ensures.1)
    ∙ judged_refused _ _ _ _
    (judge_signature _ _ _ _ c.requires.read rows.rows _ rows.read _ _
    (sym (ap signature_of c.in_err-signature.was) ∙ c.read_signature.ensures))
    refl

pub returns : goal.returns
returns c =
    let rows = rows_read_lem (goal.at.returns c).In_ok-features in
    c.good.ensures
    ∙ judged_good _ _ _ _ c.requires.read rows.rows _ rows.read _ _ _ (signature_read (goal.at.returns c).In_ok-signature) rows.counts
