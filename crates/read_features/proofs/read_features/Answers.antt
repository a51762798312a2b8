-- `read_features` meets its contract. The outer loop's invariant: the features are those of the rows before and of what
-- stands from the place on, and the rows' tags stand at the start of the array, with the bit of each set in the marks.
-- The inner loop's: none of the tags before is this one.
-- Assumes nothing.
use native.Mathlib.Omega.{arith}
use mathlib.Core.Path.{◌≡◌, ◌∙◌, refl, ap, sym}
use Prim.Native.Nat.{ℕ, ◌<◌}
use mathlib.Core.List.{List}
use lib.ListN.{length, take, get_or}
use borrow.Author.Count.{below_none, below_more}
use lib.Seq.{get_or-take, length-take-le}
use Rattle.format.specs.Bytes.{Bytes}
use Rattle.verdict.specs.Items.{is, byte, plain_in, feature_length}
use Rattle.causes.specs.declared.Item.TheVariants as item
use Rattle.versions.specs.declared.Version.{Version}
use Rattle.read_items.specs.Meaning.{byte_of, whole_of, item_of, refusal_of}
use Rattle.read_items.specs.Meaning.Laws.{says}
use Rattle.read_features.proofs.Turn.{Kept, kept_start, kept_cut, kept_end, kept_again, kept_most, New}
use Rattle.read_features.proofs.Turn.{byte_small, marked_start, marked_none, marked_more}
use Rattle.read_features.proofs.Turn.{new_unsized, new_small, new_room, new_short, new_more}
use Rattle.read_features.proofs.read_features.Goals as goal
use Rattle.read_features.proofs.read_features.Goals.{In-Some, In-Ok, Joined-marks-word-eq1, then-marks-word-eq1+else-loop-used-test, else-marks-word-eq1}

abbrev tag : In-Some → ℕ
tag c = c.in-Some.tag

abbrev next : In-Some → ℕ
next c = c.in-Some.next.place

-- the tag that was read
tag_read : (c : In-Some) →
    is (tag c) (next c) ≡ byte c.rows.here.place c.args.seal.now (plain_in c.rows.here.place)
tag_read c = sym (ap (byte_of _) c.in-Some.is) ∙ c.byte.ensures

-- it is a byte
small : (c : In-Some) → tag c < 256
small c =
    byte_small c.args.seal.now c.rows.here.place _ _ (tag_read c) (λ i. (c.type_inv.seal i).fits)

-- the earlier tags
module _ {v : Version} {s tags : List ℕ} {from count at : ℕ} (kept : Kept v s from tags count at) where
  whole : length (take count tags) ≡ count
  whole = length-take-le count tags (omega (arith, kept_most _ _ _ _ _ _ kept, kept.size))

  among : (k : ℕ) → k < count → get_or (take count tags) k 0 ≡ get_or tags k 0
  among k h = get_or-take count tags k 0 h

-- it is new, where none of the earlier ones is the same or it has no mark
new : (c : Joined-marks-word-eq1) →
    New c.args.version c.args.seal.now c.args.start.place c.rows.tags c.rows.count c.rows.here.place c.in-Some.tag c.in-Some.next.place
new c =
    record {
      kept = c.rows.invariant.0;
      read = tag_read (goal.at.Joined-marks-word-eq1 c).In-Some;
      other = c.if-tag-eq255.false;
      none = λ k h.
          elim c.if-marks-word-eq1.branch [
            | then-marks-word-eq1+else-loop-used-test w ↦ λ e. w.loop-used.invariant k (omega (arith, h, w.loop-used-test.false, whole c.rows.invariant.0)) (among c.rows.invariant.0 k h ∙ e)
            | else-marks-word-eq1 w ↦ marked_none c.rows.invariant.1 _ w.if-marks-word-eq1.false k h
          ];
    }

-- its length, under its name

size-read : (c : In-Ok) →
    is c.in-Ok.size c.in-Ok.value.place ≡ feature_length c.args.version c.in-Some.next.place c.args.seal.now
size-read c =
    sym (ap item_of c.in-Ok.is)
    ∙ c.feature_length-length.ensures

-- the seal's bytes
bytes : (c : Joined-marks-word-eq1) → Bytes c.args.seal.now
bytes c i = (c.type_inv.seal i).fits

-- there is room for one more
room : (c : Joined-marks-word-eq1) → c.rows.count < 255
room c = new_room _ _ _ _ _ _ _ _ (new c) (bytes c)

pub rows-init : goal.rows-init
rows-init c = (kept_start _ _ _ _ refl, marked_start _ _ refl)

pub returns-in_default : goal.returns-in_default
returns-in_default c =
    says _ _ _ _ c.of.ensures
    (kept_cut _ _ _ _ _ _ c.rows.invariant.0 (sym (ap (byte_of _) c.in_default.is) ∙ c.byte.ensures))

pub returns-then-tag-eq255 : goal.returns-then-tag-eq255
returns-then-tag-eq255 c = kept_end _ _ _ _ _ _ c.rows.invariant.0 _ _ (tag_read (goal.at.returns-then-tag-eq255 c).In-Some) c.if-tag-eq255.true

pub bounds-marks-word : goal.bounds-marks-word
bounds-marks-word c = omega (arith, small (goal.at.bounds-marks-word c).In-Some)

pub bounds-marks-word-in-rows : goal.bounds-marks-word-in-rows
bounds-marks-word-in-rows c = omega (arith, small (goal.at.bounds-marks-word-in-rows c).In-Some)

pub bounds-marks-word-in-rows-2 : goal.bounds-marks-word-in-rows-2
bounds-marks-word-in-rows-2 c = omega (arith, small (goal.at.bounds-marks-word-in-rows-2 c).In-Some)

pub slice_bounds-tags-end : goal.slice_bounds-tags-end
slice_bounds-tags-end c = omega (arith, kept_most _ _ _ _ _ _ c.rows.invariant.0, c.rows.invariant.0.size)

pub slice_bounds-used-items-end : goal.slice_bounds-used-items-end
slice_bounds-used-items-end c = sym (whole c.rows.invariant.0)

pub loop-used-init : goal.loop-used-init
loop-used-init c = below_none _

pub loop-used-preserved : goal.loop-used-preserved
loop-used-preserved c = below_more _ _ c.loop-used.invariant (λ e. c.if-wide-tag.false (c.wide.ensures ∙ e))

pub returns : goal.returns
returns c =
    let kept = c.rows.invariant.0 in
    let inside : c.loop-used.used-index < c.rows.count = omega (arith, c.loop-used-test.true, whole kept) in
    says _ _ _ _ c.of-2.ensures
    (kept_again _ _ _ _ _ _ kept _ _ _ (tag_read (goal.at.returns c).In-Some) inside
    (sym (among kept _ inside) ∙ sym c.wide.ensures ∙ c.if-wide-tag.true))

pub returns-in_default-length : goal.returns-in_default-length
returns-in_default-length c =
    says _ _ _ _ (c.unread.ensures ∙ ap (λ r. refusal_of item.Length r) c.in_default-length.is)
    (new_unsized _ _ _ _ _ _ _ _ (new (goal.at.returns-in_default-length c).Joined-marks-word-eq1) _ _ (sym (ap item_of c.in_default-length.is) ∙ c.feature_length-length.ensures))

pub overflow_add-count : goal.overflow_add-count
overflow_add-count c = omega (arith, room (goal.at.overflow_add-count c).Joined-marks-word-eq1)

pub rows-smaller : goal.rows-smaller
rows-smaller c = omega (arith, room (goal.at.rows-smaller c).Joined-marks-word-eq1)

pub rows-preserved : goal.rows-preserved
rows-preserved c =
    let kept = c.rows.invariant in (
      new_more _ _ _ _ _ _ _ _ (new (goal.at.rows-preserved c).Joined-marks-word-eq1) _ _ (size-read (goal.at.rows-preserved c).In-Ok) _ (bytes (goal.at.rows-preserved c).Joined-marks-word-eq1)
          (sym (ap (whole_of _) c.in-Some-skip.is) ∙ c.skip.ensures),
      marked_more _ _ _ _ kept.1 (small (goal.at.rows-preserved c).In-Some) (omega (arith, room (goal.at.rows-preserved c).Joined-marks-word-eq1, kept.0.size)),
    )

pub returns-in_default-skip : goal.returns-in_default-skip
returns-in_default-skip c =
    says _ _ _ _ c.of-in_default-skip.ensures
    (new_short _ _ _ _ _ _ _ _ (new (goal.at.returns-in_default-skip c).Joined-marks-word-eq1) _ _ (size-read (goal.at.returns-in_default-skip c).In-Ok)
    (sym (ap (whole_of _) c.in_default-skip.is) ∙ c.skip.ensures))

pub overflow_cast-tags : goal.overflow_cast-tags
overflow_cast-tags c = omega (arith, new_small _ _ _ _ _ _ _ _ (new (goal.at.overflow_cast-tags c).Joined-marks-word-eq1) (bytes (goal.at.overflow_cast-tags c).Joined-marks-word-eq1))

pub bounds-tags-count : goal.bounds-tags-count
bounds-tags-count c = room (goal.at.bounds-tags-count c).Joined-marks-word-eq1
