-- `walk_steps::feature_at` meets its contract: item by item, each way out by its law.
-- Assumes nothing.
use mathlib.Core.Path.{◌≡◌, ap, sym, ◌∙◌}
use Rattle.verdict.specs.Items.{is, byte, plain_in, feature_length}
use Rattle.read_items.specs.Meaning.{byte_of, item_of, whole_of}
use Rattle.walk_steps.proofs.Steps.Laws.{no_tag, at_mark, no_length, no_value, whole_feature}
use Rattle.walk_steps.proofs.feature_at.Goals as goal
use Rattle.walk_steps.proofs.feature_at.Goals.{In-Some, In-Ok}

-- the tag that was read
tag_read : (c : In-Some) → is c.in-Some.tag c.in-Some.next.place ≡ byte c.args.at c.args.seal.now (plain_in c.args.at)
tag_read c = sym (ap (byte_of _) c.in-Some.is) ∙ c.byte.ensures

-- the length that was read
size_read : (c : In-Ok) →
    is c.in-Ok.size c.in-Ok.value.place ≡ feature_length c.args.version c.in-Some.next.place c.args.seal.now
size_read c = sym (ap item_of c.in-Ok.is) ∙ c.feature_length.ensures

pub returns-in_default : goal.returns-in_default
returns-in_default c =
    c.no_more.ensures ∙ no_tag _ _ _ (sym (ap (byte_of _) c.in_default.is) ∙ c.byte.ensures)

pub returns-then-tag-eq255 : goal.returns-then-tag-eq255
returns-then-tag-eq255 c =
    c.no_more-then-tag-eq255.ensures ∙ at_mark _ _ _ _ _ (tag_read (goal.at.returns-then-tag-eq255 c).In-Some) c.if-tag-eq255.true

pub returns-in_default-feature_length : goal.returns-in_default-feature_length
returns-in_default-feature_length c =
    c.no_more-in_default-feature_length.ensures
    ∙ no_length _ _ _ _ _ (tag_read (goal.at.returns-in_default-feature_length c).In-Some) c.if-tag-eq255.false _ _
    (sym (ap item_of c.in_default-feature_length.is) ∙ c.feature_length.ensures)

pub returns-in_default-skip : goal.returns-in_default-skip
returns-in_default-skip c =
    c.no_more-in_default-skip.ensures
    ∙ no_value _ _ _ _ _ (tag_read (goal.at.returns-in_default-skip c).In-Some) c.if-tag-eq255.false _ _
    (size_read (goal.at.returns-in_default-skip c).In-Ok)
    (sym (ap (whole_of _) c.in_default-skip.is) ∙ c.skip.ensures)

pub returns : goal.returns
returns c =
    c.found.ensures
    ∙ whole_feature _ _ _ _ _ (tag_read (goal.at.returns c).In-Some) c.if-tag-eq255.false _ _
    (size_read (goal.at.returns c).In-Ok) _
    (sym (ap (whole_of _) c.in-Some-skip.is) ∙ c.skip.ensures)
