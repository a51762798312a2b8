-- `put_text` meets its contract. The loop's invariant: the characters passed are judged by their marks together, and with no mark their
-- form stands in `bytes`.
-- Assumes nothing.
use native.Mathlib.Omega.{arith}
use mathlib.Core.Path.{◌≡◌, ap, ◌∙◌}
use Prim.Native.Nat.{ℕ, ◌+◌, ◌*◌, ◌≤◌}
use mathlib.Core.List.{List}
use lib.ListN.{length}
use Rattle.format.specs.Bytes.{Bytes}
use Rattle.format.specs.BigEndian.{be}
use Rattle.format.specs.Buffer.{over}
use Rattle.format.specs.Places.{to_end}
use Rattle.format.specs.Choice.Laws.{not_true}
use Rattle.pairs.specs.Pairs.{packed_of}
use Rattle.c40.specs.Text.{width}
use Rattle.c40_write_long.specs.Passed.{passed_start, passed_room, passed_kept, passed_left, passed_more}
use Rattle.c40_write_long.specs.Passed.{passed_text, passed_all}
use Rattle.c40_write_long.proofs.put_text.Goals as goal
use Rattle.c40_write_long.proofs.put_text.Goals.{After-wide-in-loop-i-2, At-loop-i}

-- the text is bytes, and there is room for its form
abbrev text : At-loop-i → List ℕ
text c = c.args.text.now

all : (c : At-loop-i) → Bytes (text c)
all c i = (c.type_inv.text i).fits

fits : (c : At-loop-i) → width (length (text c)) ≤ length c.args.bytes.now
fits c = omega (arith, c.requires)

-- the number that is put down
packs :
    (c : After-wide-in-loop-i-2) →
    1600 * c.wide.result + 40 * c.wide-in-loop-i.result + c.wide-in-loop-i-2.result + 1
    ≡ packed_of c.entry-a.result c.entry-b.result c.entry-c.result
packs c = omega (arith, c.wide.ensures, c.wide-in-loop-i.ensures, c.wide-in-loop-i-2.ensures)

pub loop-i-init : goal.loop-i-init
loop-i-init c = passed_start _ _

pub put_two-requires : goal.put_two-requires
put_two-requires c =
    let on = (goal.at.put_two-requires c).At-loop-i in
    let room = passed_room on.loop-i.invariant (fits on) (omega arith) in
    omega (arith, passed_kept on.loop-i.invariant (fits on))

pub loop-i-preserved : goal.loop-i-preserved
loop-i-preserved c =
    let on = (goal.at.loop-i-preserved c).At-loop-i in
    passed_more c.loop-i.invariant (all on) (omega arith) _ _ _ c.entry-a.ensures.is c.entry-b.ensures.is c.entry-c.ensures.is
    _ (c.put_two.ensures ∙ ap (λ n. over c.loop-i.bytes c.loop-i.at (be 2 n)) (packs (goal.at.loop-i-preserved c).After-wide-in-loop-i-2))
    (passed_room c.loop-i.invariant (fits on) (omega arith))

pub returns-then-marks-ge128 : goal.returns-then-marks-ge128
returns-then-marks-ge128 c = record { good = λ e. absurd (not_true e); put = λ e. absurd (not_true e) }

pub put_left-requires : goal.put_left-requires
put_left-requires c =
    let on = (goal.at.put_left-requires c).At-loop-i in
    let left = passed_left c.loop-i.invariant (fits on) (omega arith) _ (to_end (text on) c.loop-i.i) in
    (passed_kept c.loop-i.invariant (fits on) ∙ c.requires.0, left.0, omega (arith, c.requires))

pub returns : goal.returns
returns c =
    let on = (goal.at.returns c).At-loop-i in
    let low = c.if-marks-ge128.false in
    let is = to_end (text on) c.loop-i.i in
    let left = passed_left c.loop-i.invariant (fits on) (omega arith) _ is in
    record {
      good = λ e. passed_text c.loop-i.invariant low _ is (c.put_left.ensures.good e);
      put = λ e. passed_all c.loop-i.invariant low _ is _ (c.put_left.ensures.put e) left.1;
    }
