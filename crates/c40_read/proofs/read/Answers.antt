-- `c40_read::read` meets its contract: each `return` is one case of the definition, with the tests that led there.
-- Assumes nothing.
use native.Mathlib.Omega.{arith}
use mathlib.Core.Path.{◌≡◌, ◌∙◌, sym, ap}
use Prim.Native.Nat.{◌%◌}
use lib.Bits.{and_mask}
use lib.ListN.{length}
use Rattle.format.proofs.Answers.Laws.{refuses, gives}
use Rattle.std.specs.Prelude.{Err}
use Rattle.std.proofs.lemmas.Result.{err_from_is_err_and}
use Rattle.c40.specs.Decode.{decode, text, text_of}
use Rattle.c40.specs.Calls.{reading_of}
use Rattle.c40.proofs.Decode.Laws.{judged_wrong, judged_text}
use Rattle.c40.proofs.Calls.Laws.{reading_long, reading_odd, reading_wrong, reading_no_room, reading_done}
use Rattle.c40_read.proofs.read.Goals as goal
use Rattle.c40_read.proofs.read.Goals.{Else-n-eq1, In_ok-count, In_err-count}

-- the low bit tells whether their number is odd
is_even : (c : Else-n-eq1) → length c.args.bytes.now % 2 ≡ 1 → ⊥
is_even c odd = c.if-n-eq1.false (and_mask (length c.args.bytes.now) 1 ∙ odd)

-- the bytes decode as the judge said
is_text_lem : (c : In_ok-count)
    → let d = decode 0 (c.args.bytes.now) in (d ≡ text (text_of d)) × (length (text_of d) ≡ c.in_ok-count.count)
is_text_lem c = judged_text _ _ (sym c.judge.ensures ∙ c.in_ok-count.was)

pub returns-then-n-gt4096 : goal.returns-then-n-gt4096
returns-then-n-gt4096 c =
    let out = c.args.out.now in
    let e = refuses _ 45 0 out (reading_long c.args.bytes.now (length out) (omega arith)) in
    record { answer = e.0; buffer = e.1 }

pub returns-then-n-eq1 : goal.returns-then-n-eq1
returns-then-n-eq1 c =
    let out = c.args.out.now in
    let s = c.args.bytes.now in
    let e = refuses _ 40 (length s) out (reading_odd s (length out) (omega arith) (sym (and_mask (length s) 1) ∙ c.if-n-eq1.true)) in
    record { answer = e.0; buffer = e.1 }

pub judge-requires : goal.judge-requires
judge-requires c =
    record { even = omega (arith, is_even (goal.at.judge-requires c).Else-n-eq1); size = omega arith }

pub returns-in_err-count : goal.returns-in_err-count
returns-in_err-count c =
    let out = c.args.out.now in
    let even = is_even (goal.at.returns-in_err-count c).Else-n-eq1 in
    let w = c.in_err-count.field-0.0 in
    let is_wrong = judged_wrong _ w (sym c.judge.ensures ∙ c.in_err-count.was) in
    let p = err_from_is_err_and c.from_residual.result c.from_residual.ensures.1 in
    let e = refuses _ _ w.place out (reading_wrong c.args.bytes.now (length out) (omega arith) even _ _ is_wrong) in
    record { answer = ap reading_of (p.1 ∙ ap Err p.2) ∙ e.0; buffer = e.1 }

pub returns-then-out-count : goal.returns-then-out-count
returns-then-out-count c =
    let out = c.args.out.now in
    let even = is_even (goal.at.returns-then-out-count c).Else-n-eq1 in
    let t = is_text_lem (goal.at.returns-then-out-count c).In_ok-count in
    let e = refuses _ 42 0 out (reading_no_room c.args.bytes.now (length out) (omega arith) even _ t.0 (omega (arith, t.1))) in
    record { answer = e.0; buffer = e.1 }

pub put-requires : goal.put-requires
put-requires c =
    let t = is_text_lem (goal.at.put-requires c).In_ok-count in
    record {
      even = omega (arith, is_even (goal.at.put-requires c).Else-n-eq1);
      is_text_lem = t.0;
      room = omega (arith, t.1);
    }

pub returns : goal.returns
returns c =
    let out = c.args.out.now in
    let even = is_even (goal.at.returns c).Else-n-eq1 in
    let t = is_text_lem (goal.at.returns c).In_ok-count in
    let e =
    gives _ _ c.in_ok-count.count out c.put.new.out
    (reading_done c.args.bytes.now (length out) (omega arith) even _ t.0 (omega (arith, t.1))) (sym t.1) c.put.ensures in
    record { answer = e.0; buffer = e.1 }
