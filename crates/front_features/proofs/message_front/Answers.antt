-- `message_front` meets its contract. The loop's invariant: the whole goes on from the place with the tags used before it,
-- and the marks are those of these tags.
-- Assumes nothing.
use native.Mathlib.Omega.{arith}
use mathlib.Core.Path.{◌≡◌, ◌∙◌, sym}
use Prim.Native.Nat.{ℕ, ◌+◌, ◌-◌, ◌<◌}
use lib.ListN.{drop}
use Rattle.front_message.specs.Message.{length_front}
use Rattle.front_features.specs.Meaning.{counted, counted_of}
use Rattle.front_features.proofs.Turn.{kept_start, kept_end, kept_mark, kept_cramped, kept_used}
use Rattle.front_features.proofs.Turn.{New, new_ends, new_within, new_short, new_more}
use Rattle.front_features.proofs.message_front.Goals as goal
use Rattle.front_features.proofs.message_front.Goals.{After-wide-tag, Else-marks-word-eq1, In-Ok}

-- the tag is a byte
small : (c : After-wide-tag) → c.wide-tag.result < 256
small c = omega (arith, c.wide-tag.ensures, c.type_inv.seal c.loop-at.at)

new : (c : Else-marks-word-eq1) →
    New c.args.version c.args.seal.now c.args.start c.loop-at.marks c.loop-at.at c.wide-tag.result
new c =
    record {
      kept = c.loop-at.invariant;
      inside = omega arith;
      byte = c.wide-tag.ensures;
      other = c.if-tag-eq255.false;
      much = omega arith;
      unmarked = c.if-marks-word-eq1.false;
    }

abbrev size : In-Ok → ℕ
size c = c.in-Ok.value.size

abbrev value : In-Ok → ℕ
value c = c.in-Ok.value.next

told : (c : In-Ok) →
    let next = c.loop-at.at + 1 in
    counted (size c) (value c) ≡ counted_of next (length_front c.args.version (4096 - next) (drop next c.args.seal.now))
told c = sym c.in-Ok.is ∙ c.length_front.ensures

pub loop-at-init : goal.loop-at-init
loop-at-init c = kept_start _ _ _ (omega arith) (omega arith)

pub returns-then-tag-eq255 : goal.returns-then-tag-eq255
returns-then-tag-eq255 c =
    c.signature_front.ensures
    ∙ kept_mark c.args.version c.args.seal.now c.args.start c.loop-at.marks c.loop-at.at c.loop-at.invariant
    c.wide-tag.result (omega arith) c.wide-tag.ensures c.if-tag-eq255.true

pub returns-then-at-lt60 : goal.returns-then-at-lt60
returns-then-at-lt60 c =
    kept_cramped c.args.version c.args.seal.now c.args.start c.loop-at.marks c.loop-at.at c.loop-at.invariant
    c.wide-tag.result (omega arith) c.wide-tag.ensures c.if-tag-eq255.false (omega arith)

pub returns-then-marks-word-eq1 : goal.returns-then-marks-word-eq1
returns-then-marks-word-eq1 c =
    kept_used c.args.version c.args.seal.now c.args.start c.loop-at.marks c.loop-at.at c.loop-at.invariant
    c.wide-tag.result (omega arith) c.wide-tag.ensures c.if-tag-eq255.false (omega arith) c.if-marks-word-eq1.true

pub returns-in-Err : goal.returns-in-Err
returns-in-Err c =
    new_ends _ _ _ _ _ _ (new (goal.at.returns-in-Err c).Else-marks-word-eq1) _ (sym c.in-Err.is ∙ c.length_front.ensures)

pub overflow_sub-n : goal.overflow_sub-n
overflow_sub-n c = new_within _ _ _ _ _ _ (new (goal.at.overflow_sub-n c).Else-marks-word-eq1) _ _ (told (goal.at.overflow_sub-n c).In-Ok)

pub returns-then-n-value : goal.returns-then-n-value
returns-then-n-value c = new_short _ _ _ _ _ _ (new (goal.at.returns-then-n-value c).Else-marks-word-eq1) _ _ (told (goal.at.returns-then-n-value c).In-Ok) (omega arith)

pub loop-at-preserved : goal.loop-at-preserved
loop-at-preserved c =
    new_more _ _ _ _ _ _ (new (goal.at.loop-at-preserved c).Else-marks-word-eq1) _ _ (told (goal.at.loop-at-preserved c).In-Ok) (small (goal.at.loop-at-preserved c).After-wide-tag) (omega arith)

pub returns : goal.returns
returns c = kept_end _ _ _ _ _ c.loop-at.invariant (omega arith)
