-- `case_seals::unchanged` meets its contract: it asks of each number from the place on.
-- Assumes nothing.
use borrow.Author.Rules.{rules}
use borrow.Author.Tests.{tests}
use Rattle.std.proofs.Common.{◌≡◌, drop}
use Rattle.std.specs.Prelude.{◌≢◌}
use Rattle.std.proofs.lemmas.Iterator.{cases_from_all, YieldsList-from_slice}
use Rattle.std.proofs.lemmas.Iterator.Adapters.{YieldsList-from_skip}
use Rattle.case_seals.proofs.Kept.{all_tells}
use Rattle.case_seals.proofs.unchanged.Goals as goal

pub returns : goal.returns
returns c =
    all_tells 0x5A5A5A5A (drop c.args.from c.args.table.now) c.all.result
    (cases_from_all _ _ _ (λ x. x ≡ 0x5A5A5A5A) (λ x. x ≢ 0x5A5A5A5A) c.all.ensures.ran
    (YieldsList-from_skip c.args.from (YieldsList-from_slice c.args.table.now cc) cc)
    (λ x q k. search (rules, tests))
    (λ x q k. search (rules, tests)))
