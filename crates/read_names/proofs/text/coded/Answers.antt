-- `read_names::text::coded` meets its contract: the bytes are skipped, and what they carry fills the text or does not.
-- Assumes nothing.
use native.Mathlib.Omega.{arith}
use mathlib.Core.Path.{◌≡◌, ◌∙◌, ap, sym}
use Prim.Native.Nat.{ℕ, ◌+◌, ◌-◌, ◌≤◌}
use lib.ListN.{length, take, drop}
use Rattle.c40.specs.Text.{width}
use Rattle.c40.specs.Decode.{decode}
use Rattle.verdict.specs.Items.{not, wrong_at, exactly}
use Rattle.read_names.specs.Meaning.{exact_of}
use Rattle.read_names.specs.Meaning.Field.{field_cut, field_place, field_wide, field_coded, field_wrong, field_inside}
use Rattle.read_names.proofs.text.coded.Goals as goal
use Rattle.read_names.proofs.text.coded.Goals.{In-Some, In-Err}

abbrev next : In-Some → ℕ
next c = c.in-Some.next.place

-- the next place, and that the bytes up to it are there
place : (c : In-Some)
    → let args = c.args in
    (next c ≡ args.at.place + width (length args.text.now))
    × (args.at.place + width (length args.text.now) ≤ length args.seal.now)
place c =
    let args = c.args in
    field_place (length args.text.now) _ args.at.place args.seal.now (omega arith) c.skip.result c.skip.ensures
    c.in-Some.next c.in-Some.is

pub returns-in_default : goal.returns-in_default
returns-in_default c =
    let args = c.args in
    ap (λ b. not b.rule b.place) c.breaks.ensures
    ∙ field_cut (length args.text.now) _ args.at.place args.seal.now (omega arith) c.skip.result c.skip.ensures
    c.in_default.is

-- the pair that is wrong, as the bytes say it
wrong_pair : (c : In-Err)
    → let args = c.args in
    wrong_at c.in-Err.pair
    ≡ exactly (length args.text.now) (decode 0 (take (c.in-Some.next.place - args.at.place) (drop args.at.place args.seal.now)))
wrong_pair c =
    sym (ap (exact_of c.fill.new.text) c.in-Err.is) ∙ c.fill.ensures

pub fill-requires : goal.fill-requires
fill-requires c =
    let args = c.args in
    (field_wide (length args.text.now) args.at.place (next (goal.at.fill-requires c).In-Some) args.seal.now (place (goal.at.fill-requires c).In-Some), c.requires)

pub returns-in-Ok : goal.returns-in-Ok
returns-in-Ok c =
    let args = c.args in
    let out = c.fill.new.text in
    field_coded (length args.text.now) args.at.place (next (goal.at.returns-in-Ok c).In-Some) args.seal.now (place (goal.at.returns-in-Ok c).In-Some) out
    (sym (ap (exact_of out) c.in-Ok.is) ∙ c.fill.ensures)

pub overflow_add-result : goal.overflow_add-result
overflow_add-result c =
    let args = c.args in
    let inside =
    field_inside (length args.text.now) args.at.place (next (goal.at.overflow_add-result c).In-Some) args.seal.now (place (goal.at.overflow_add-result c).In-Some) (omega arith) _ (wrong_pair (goal.at.overflow_add-result c).In-Err) in
    omega (arith, inside)

pub returns-in-Err : goal.returns-in-Err
returns-in-Err c =
    let args = c.args in
    field_wrong (length args.text.now) args.at.place (next (goal.at.returns-in-Err c).In-Some) args.seal.now (place (goal.at.returns-in-Err c).In-Some) _ (wrong_pair (goal.at.returns-in-Err c).In-Err)
