-- `c40_write::write` meets its contract: each `return` is one case of the definition, with the tests that led there.
-- Assumes nothing.
use borrow.Author.Tests.{leb-true, leb-false}
use native.Mathlib.Omega.{arith}
use mathlib.Core.Path.{◌∙◌, sym, ap}
use Prim.Native.Nat.{◌*◌, ◌<◌, ◌≤◌}
use lib.ListN.{length}
use Rattle.format.specs.Answers.{refused}
use Rattle.format.proofs.Answers.Laws.{refuses, gives}
use Rattle.c40.specs.Text.Laws.{length_publish}
use Rattle.c40.specs.Calls.{known}
use Rattle.c40.proofs.Calls.Laws.{known_text, writing_long, writing_stranger, writing_no_room, writing_done}
use Rattle.c40_write.proofs.write.Goals as goal
use Rattle.c40_write.proofs.write.Goals.{Else-not-all_known, Then-not-all_known}

-- one is a stranger, or all are known
stranger : (c : Then-not-all_known) → known c.args.text.now < length c.args.text.now
stranger c = leb-false _ _ (sym c.all_known.ensures ∙ c.if-not-all_known.true)

good : (c : Else-not-all_known) → length c.args.text.now ≤ known c.args.text.now
good c = leb-true _ _ (sym c.all_known.ensures ∙ c.if-not-all_known.false)

pub returns-then-n-gt6144 : goal.returns-then-n-gt6144
returns-then-n-gt6144 c =
    let out = c.args.out.now in
    let e = refuses _ 45 0 out (writing_long c.args.text.now (length out) (omega arith)) in
    record { answer = e.0; buffer = e.1 }

pub returns-then-not-all_known : goal.returns-then-not-all_known
returns-then-not-all_known c =
    let out = c.args.out.now in
    let h = stranger (goal.at.returns-then-not-all_known c).Then-not-all_known in
    let e =
    refuses _ 43 c.known.result out
    (writing_stranger c.args.text.now (length out) (omega arith) h ∙ ap (refused 43) (sym c.known.ensures)) in
    record { answer = e.0; buffer = e.1 }

pub returns-then-out-size : goal.returns-then-out-size
returns-then-out-size c =
    let out = c.args.out.now in
    let h = good (goal.at.returns-then-out-size c).Else-not-all_known in
    let e = refuses _ 44 0 out (writing_no_room c.args.text.now (length out) (omega arith) h (omega arith)) in
    record { answer = e.0; buffer = e.1 }

pub put-requires : goal.put-requires
put-requires c =
    (known_text c.args.text.now (good (goal.at.put-requires c).Else-not-all_known), omega arith)

pub returns : goal.returns
returns c =
    let t = c.args.text.now in
    let out = c.args.out.now in
    let h = good (goal.at.returns c).Else-not-all_known in
    let e =
    gives _ _ (c.threes-size.result * 2) out c.put.new.out (writing_done t (length out) (omega arith) h (omega arith))
    (omega (arith, length_publish t)) c.put.ensures in
    record { answer = e.0; buffer = e.1 }
