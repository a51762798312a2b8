-- `are_names` meets its contract: the country, then the text.
-- Assumes nothing.
use borrow.Author.Rules.{rules}
use mathlib.Core.Path.{sym, ◌∙◌}
use Rattle.write_given.specs.Tests.Laws.{names_country, names_text}
use Rattle.write_given.proofs.are_names.Goals as goal

pub returns-then-not-is_country : goal.returns-then-not-is_country
returns-then-not-is_country c =
    let a = c.args in
    names_country a.version a.header a.text.now (sym c.is_country.ensures ∙ c.if-not-is_country.true)

pub returns : goal.returns
returns c =
    let a = c.args in
    c.are_signer_and_reference.ensures
    ∙ names_text a.version a.header a.text.now (sym c.is_country.ensures ∙ c.if-not-is_country.false)
