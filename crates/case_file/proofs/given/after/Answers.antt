-- `case_file::given::after` meets its contract: the first such letter is found, or there is none.
-- Assumes nothing.
use borrow.Author.Tests.{tests}
use Rattle.std.proofs.Common.{◌≡◌, rules, sym, arith}
use Rattle.std.proofs.lemmas.Iterator.{IsFirst-from_position, YieldsList-from_slice}
use Rattle.case_file.specs.Given.Laws.{after_found, after_none}
use Rattle.case_file.proofs.given.after.Goals as goal

pub returns-in-Some-clause-value : goal.returns-in-Some-clause-value
returns-in-Some-clause-value c =
    let letter = c.args.letter in
    let line = c.args.line.now in
    let found = IsFirst-from_position _ _ _ (λ x. x ≡ letter) (λ x. x ≡ letter → ⊥) c.in-Some.ensures.ran
    (YieldsList-from_slice line cc) (λ x q k. search (rules, tests)) (λ x q k. search (rules, tests)) in
    sym (after_found letter line c.in-Some.i found.0 (found.1 0) (λ k h. found.2 k 0 (omega arith) h))

pub returns-in-None-clause-value : goal.returns-in-None-clause-value
returns-in-None-clause-value c =
    let letter = c.args.letter in
    let line = c.args.line.now in
    let none = IsFirst-from_position _ _ _ (λ x. x ≡ letter) (λ x. x ≡ letter → ⊥) c.in-None.ensures.ran
    (YieldsList-from_slice line cc) (λ x q k. search (rules, tests)) (λ x q k. search (rules, tests)) in
    sym (after_none letter line (λ k h. none k 0 (omega arith) h))
