-- `read_rest` meets its contract, item by item.
-- Assumes nothing.
use mathlib.Core.Path.{◌≡◌, ◌∙◌, ap, sym}
use Rattle.causes.specs.declared.Item.TheVariants as item
use Rattle.verdict.specs.Items.{is, date, last}
use Rattle.read_items.specs.Meaning.{item_of, refusal_of}
use Rattle.read_header.specs.Steps.Laws.{dated_issued, dated_signed, dated_definition, dated_category, dated_all}
use Rattle.read_items.specs.Meaning.Laws.{says}
use Rattle.read_header.proofs.read_rest.Goals as goal
use Rattle.read_header.proofs.read_rest.Goals.{In-Ok, In-Ok-category_read, In-Ok-definition_read, In-Ok-signature_date}

-- what was read of each item
read_issued : (c : In-Ok) → is c.in-Ok.issued c.in-Ok.at2.place ≡ date c.args.at.place c.args.seal.now
read_issued c = sym (ap item_of c.in-Ok.is) ∙ c.date-issue_date.ensures

read_signed : (c : In-Ok-signature_date) → is c.in-Ok-signature_date.signed c.in-Ok-signature_date.at3.place ≡ date c.in-Ok.at2.place c.args.seal.now
read_signed c = sym (ap item_of c.in-Ok-signature_date.is) ∙ c.date-signature_date.ensures

read_definition : (c : In-Ok-definition_read)
    → is c.in-Ok-definition_read.definition c.in-Ok-definition_read.at4.place ≡ last c.in-Ok-signature_date.at3.place c.args.seal.now
read_definition c = sym (ap item_of c.in-Ok-definition_read.is) ∙ c.last-definition_read.ensures

read-category : (c : In-Ok-category_read)
    → is c.in-Ok-category_read.category c.in-Ok-category_read.next.place ≡ last c.in-Ok-definition_read.at4.place c.args.seal.now
read-category c = sym (ap item_of c.in-Ok-category_read.is) ∙ c.last-category_read.ensures

pub returns-in_default : goal.returns-in_default
returns-in_default c =
    says _ _ _ _ (c.unread.ensures ∙ ap (λ r. refusal_of item.Issued r) c.in_default.is)
    (dated_issued _ _ _ _ (sym (ap item_of c.in_default.is) ∙ c.date-issue_date.ensures))

pub returns-in_default-signature_date : goal.returns-in_default-signature_date
returns-in_default-signature_date c =
    says _ _ _ _ (c.unread-in_default-signature_date.ensures ∙ ap (λ r. refusal_of item.Signed r) c.in_default-signature_date.is)
    (dated_signed _ _ _ _ (read_issued (goal.at.returns-in_default-signature_date c).In-Ok) _ _ (sym (ap item_of c.in_default-signature_date.is) ∙ c.date-signature_date.ensures))

pub returns-in_default-definition_read : goal.returns-in_default-definition_read
returns-in_default-definition_read c =
    says _ _ _ _ (c.unread-in_default-definition_read.ensures ∙ ap (λ r. refusal_of item.Definition r) c.in_default-definition_read.is)
    (dated_definition _ _ _ _ (read_issued (goal.at.returns-in_default-definition_read c).In-Ok) _ _ (read_signed (goal.at.returns-in_default-definition_read c).In-Ok-signature_date) _ _
    (sym (ap item_of c.in_default-definition_read.is) ∙ c.last-definition_read.ensures))

pub returns-in_default-category_read : goal.returns-in_default-category_read
returns-in_default-category_read c =
    says _ _ _ _ (c.unread-in_default-category_read.ensures ∙ ap (λ r. refusal_of item.Category r) c.in_default-category_read.is)
    (dated_category _ _ _ _ (read_issued (goal.at.returns-in_default-category_read c).In-Ok) _ _ (read_signed (goal.at.returns-in_default-category_read c).In-Ok-signature_date) _ _ (read_definition (goal.at.returns-in_default-category_read c).In-Ok-definition_read) _ _
    (sym (ap item_of c.in_default-category_read.is) ∙ c.last-category_read.ensures))

pub returns : goal.returns
returns c =
    dated_all _ _ _ _ (read_issued (goal.at.returns c).In-Ok) _ _ (read_signed (goal.at.returns c).In-Ok-signature_date) _ _ (read_definition (goal.at.returns c).In-Ok-definition_read) _ _ (read-category c)
