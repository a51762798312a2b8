-- `read_front` meets its contract, item by item.
-- Assumes nothing.
use mathlib.Core.Path.{◌≡◌, ◌∙◌, ap, sym}
use Prim.Native.Nat.{ℕ}
use mathlib.Core.List.{List}
use Rattle.std.specs.Prelude.{Ok}
use Rattle.causes.specs.declared.Item.TheVariants as item
use Rattle.verdict.specs.Items.{is, mark, version, country, names}
use Rattle.read_items.specs.Meaning.{step_of, item_of, refusal_of, through}
use Rattle.read_names.specs.Meaning.{names_of, measured, text_over}
use Rattle.read_header.specs.Steps.{fields, front_of, names_in}
use Rattle.read_header.specs.Steps.Laws.{fields_mark, fields_version, fields_country, fields_names, fields_all, names_reached}
use Rattle.read_header.specs.Steps.Laws.{code_kept, code_given, text_kept}
use Rattle.read_items.specs.Meaning.Laws.{left, says}
use Rattle.read_header.proofs.read_front.Goals as goal
use Rattle.read_header.proofs.read_front.Goals.{After-country-code, After-signer_and_reference, In_ok-length, In-Ok-edition, In-Ok, In-Ok-code}

-- the country and the text that were left
abbrev code : After-country-code → List ℕ
code c = c.country-code.new.code

abbrev text : After-signer_and_reference → List ℕ
text c = c.signer_and_reference.new.text

-- what was read of each item
read_mark : (c : In-Ok) → is tt c.in-Ok.at.place ≡ mark 0 c.args.seal.now
read_mark c = sym (ap (step_of tt) c.in-Ok.is) ∙ c.mark-mark.ensures

read-version : (c : In-Ok-edition) →
    is c.in-Ok-edition.version c.in-Ok-edition.at2.place ≡ version c.in-Ok.at.place c.args.seal.now
read-version c = sym (ap item_of c.in-Ok-edition.is) ∙ c.version-edition.ensures

read-country : (c : In-Ok-code) →
    is c.country-code.new.code c.in-Ok-code.at3.place
    ≡ country c.in-Ok-edition.at2.place c.args.seal.now
read-country c =
    sym (ap (step_of (code (goal.at.In-Ok-code c).After-country-code)) c.in-Ok-code.is) ∙ c.country-code.ensures.item

read_names : (c : In_ok-length) →
    names_of c.signer_and_reference.new.text (Ok (c.in_ok-length.length, c.in_ok-length.next)) ≡ through measured
    (names c.in-Ok-edition.version c.in-Ok-code.at3.place c.args.seal.now)
read_names c =
    sym (ap (names_of (text (goal.at.In_ok-length c).After-signer_and_reference)) c.in_ok-length.was) ∙ c.signer_and_reference.ensures.item

-- what the names' item left is what the names of the whole leave
text-left : (c : After-signer_and_reference) →
    let args = c.args in
    text c ≡ text_over args.text.now (through names_in (fields args.seal.now))
text-left c =
    c.signer_and_reference.ensures.buffer
    ∙ ap (text_over _) (names_reached _ _ (read_mark (goal.at.After-signer_and_reference c).In-Ok) _ _ (read-version (goal.at.After-signer_and_reference c).In-Ok-edition) _ _ (read-country (goal.at.After-signer_and_reference c).In-Ok-code))

pub returns-in_default : goal.returns-in_default
returns-in_default c =
    let item = says _ _ _ _ (c.unread.ensures ∙ ap (λ r. refusal_of item.Mark r) c.in_default.is)
    (fields_mark _ _ _ (sym (ap (step_of tt) c.in_default.is) ∙ c.mark-mark.ensures)) in
    record { item = item; code = code_kept _ _ _ item _; names = text_kept _ _ _ item _ }

pub returns-in_default-edition : goal.returns-in_default-edition
returns-in_default-edition c =
    let item = says _ _ _ _ (c.unread-in_default-edition.ensures ∙ ap (λ r. refusal_of item.Version r) c.in_default-edition.is)
    (fields_version _ _ (read_mark (goal.at.returns-in_default-edition c).In-Ok) _ _ (sym (ap item_of c.in_default-edition.is) ∙ c.version-edition.ensures)) in
    record { item = item; code = code_kept _ _ _ item _; names = text_kept _ _ _ item _ }

pub returns-in_default-code : goal.returns-in_default-code
returns-in_default-code c =
    let item = says _ _ _ _ (c.unread-in_default-code.ensures ∙ ap (λ r. refusal_of item.Country r) c.in_default-code.is)
    (fields_country _ _ (read_mark (goal.at.returns-in_default-code c).In-Ok) _ _ (read-version (goal.at.returns-in_default-code c).In-Ok-edition) _ _
    (sym (ap (step_of (code (goal.at.returns-in_default-code c).After-country-code)) c.in_default-code.is) ∙ c.country-code.ensures.item)) in
    record { item = item; code = code_kept _ _ _ item _; names = text_kept _ _ _ item _ }

pub returns-in_err-length : goal.returns-in_err-length
returns-in_err-length c =
    let item =
    fields_names _ _ (read_mark (goal.at.returns-in_err-length c).In-Ok) _ _ (read-version (goal.at.returns-in_err-length c).In-Ok-edition) _ _ (read-country (goal.at.returns-in_err-length c).In-Ok-code) _ _
    (sym (ap (names_of (text (goal.at.returns-in_err-length c).After-signer_and_reference)) c.in_err-length.was) ∙ c.signer_and_reference.ensures.item) in
    record { item = ap (front_of _ _) (left _ _ c.from_residual.ensures.1) ∙ item; code = code_kept _ _ _ item _; names = text-left (goal.at.returns-in_err-length c).After-signer_and_reference }

pub returns : goal.returns
returns c =
    let item = fields_all _ _ (read_mark (goal.at.returns c).In-Ok) _ _ (read-version (goal.at.returns c).In-Ok-edition) _ _ (read-country (goal.at.returns c).In-Ok-code) _ _ (read_names (goal.at.returns c).In_ok-length) in
    record { item = item; code = code_given _ _ _ item _; names = text-left (goal.at.returns c).After-signer_and_reference }
