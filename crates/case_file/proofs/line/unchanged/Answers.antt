-- `case_file::line::unchanged` meets its contract: it stops at the first byte that is another.
-- Assumes nothing.
use borrow.Author.Tests.{tests}
use Rattle.std.proofs.Common.{◌≡◌, drop, rules}
use Rattle.std.proofs.lemmas.Iterator.{cases_from_all, YieldsList-from_slice}
use Rattle.std.proofs.lemmas.Iterator.Adapters.{YieldsList-from_skip}
use Rattle.case_file.specs.Fill.Laws.{all_by_cases}
use Rattle.case_file.proofs.line.unchanged.Goals as goal

pub returns : goal.returns
returns c =
    let filling = c.args.filling in
    let buffer = c.args.buffer.now in
    all_by_cases filling (drop c.args.from buffer) _
    (cases_from_all _ _ _ (λ x. x ≡ filling) (λ x. x ≡ filling → ⊥) c.all.ensures.ran
    (YieldsList-from_skip c.args.from (YieldsList-from_slice buffer cc) c.skip.ensures.count)
    (λ x q k. search (rules, tests)) (λ x q k. search (rules, tests)))
