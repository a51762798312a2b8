-- `put_rows` meets its contract. The loop's invariant: the rows before stand in the table, and those that are left are
-- read from the place on.
-- Assumes nothing.
use native.Mathlib.Omega.{arith}
use mathlib.Core.Path.{◌≡◌, ◌∙◌, ap, sym}
use Prim.Native.Nat.{◌+◌, ◌≤◌}
use lib.ListN.{length}
use Rattle.verdict.specs.Items.{is, byte, plain_in, feature_length}
use Rattle.read_items.specs.Meaning.{byte_of, item_of}
use Rattle.rows.specs.Rows.{width}
use Rattle.reader.proofs.Turn.{put_start, put_end}
use Rattle.reader.proofs.Turn.{put_tag, put_size, put_value, put_room, put_more}
use Rattle.reader.proofs.table.put_rows.Goals as goal
use Rattle.reader.proofs.table.put_rows.Goals.{In-Some, In-Ok, In_default, In_default-feature_length}

-- the tag that was read, and its length
tag_read : (c : In-Some) →
    is c.in-Some.tag c.in-Some.next.place ≡ byte c.loop-to.at c.args.seal.now (plain_in c.loop-to.at)
tag_read c = sym (ap (byte_of _) c.in-Some.is) ∙ c.byte.ensures

size-read : (c : In-Ok) →
    is c.in-Ok.size c.in-Ok.value.place ≡ feature_length c.args.version c.in-Some.next.place c.args.seal.now
size-read c = sym (ap item_of c.in-Ok.is) ∙ c.feature_length.ensures

-- neither is ever missing
tag-there : In_default → ⊥
tag-there c =
    put_tag _ _ _ _ _ _ _ _ c.loop-to.invariant c.loop-to-test.true
    (sym (ap (byte_of _) c.in_default.is) ∙ c.byte.ensures)

size-there : In_default-feature_length → ⊥
size-there c =
    put_size _ _ _ _ _ _ _ _ c.loop-to.invariant c.loop-to-test.true _ _ (tag_read (goal.at.In_default-feature_length c).In-Some) _ _
    (sym (ap item_of c.in_default-feature_length.is) ∙ c.feature_length.ensures)

-- nor is the value
value_there : (c : In-Ok) →
    c.in-Ok.value.place + c.in-Ok.size ≤ length c.args.seal.now
value_there c =
    put_value _ _ _ _ _ _ _ _ c.loop-to.invariant c.loop-to-test.true _ _ (tag_read (goal.at.In-Ok c).In-Some) _ _ (size-read c)

-- the table has room for the row
room : (c : In-Ok) → c.loop-to.to + width ≤ length c.loop-to.table
room c =
    put_room _ _ _ _ _ _ _ _ c.loop-to.invariant c.loop-to-test.true _ _ (tag_read (goal.at.In-Ok c).In-Some) _ _ (size-read c)

pub returns-in_default : goal.returns-in_default
returns-in_default c = absurd (tag-there c)

pub loop-to-smaller : goal.loop-to-smaller
loop-to-smaller c = omega arith

pub returns : goal.returns
returns c = put_end _ _ _ _ _ _ _ _ c.loop-to.invariant c.loop-to-test.false

pub overflow_mul-end : goal.overflow_mul-end
overflow_mul-end c = omega (arith, c.requires.room)

pub loop-to-init : goal.loop-to-init
loop-to-init c = put_start _ _ _ _ _ c.requires.there c.requires.room

pub returns-in_default-feature_length : goal.returns-in_default-feature_length
returns-in_default-feature_length c = absurd (size-there c)

pub overflow_add-at : goal.overflow_add-at
overflow_add-at c = omega (arith, value_there (goal.at.overflow_add-at c).In-Ok)

pub overflow_add-to : goal.overflow_add-to
overflow_add-to c = omega (arith, room (goal.at.overflow_add-to c).In-Ok)

pub loop-to-preserved : goal.loop-to-preserved
loop-to-preserved c =
    put_more _ _ _ _ _ _ _ _ c.loop-to.invariant c.loop-to-test.true _ _ (tag_read (goal.at.loop-to-preserved c).In-Some) _ _ (size-read (goal.at.loop-to-preserved c).In-Ok) _
    c.put_row.ensures.written
