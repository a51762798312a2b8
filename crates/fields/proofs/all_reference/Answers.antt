-- `fields::all_reference` meets its contract: it stops at the first character that may not stand there.
-- Assumes nothing.
use Rattle.std.proofs.Common.{◌≡◌, true, false, rules}
use Rattle.std.proofs.lemmas.Iterator.{cases_from_all, YieldsList-from_slice}
use Rattle.fields.specs.Characters.{is_reference}
use Rattle.fields.specs.Characters.Laws.{all_by_cases}
use Rattle.fields.proofs.all_reference.Goals as goal

pub returns : goal.returns
returns c =
    let text = c.args.text.now in
    all_by_cases is_reference text _
    (cases_from_all _ _ _ (λ x. is_reference x ≡ true) (λ x. is_reference x ≡ false) c.all.ensures.ran (YieldsList-from_slice text cc)
    (λ x q k. search rules) (λ x q k. search rules))
