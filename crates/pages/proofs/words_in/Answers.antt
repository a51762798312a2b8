-- `pages::words_in` meets its contract.
-- Assumes nothing.
use borrow.Author.Tests.{tests}
use Rattle.std.proofs.Common.{◌≡◌, ◌+◌, ◌*◌, ℕ, eqb, rules, sym, ap₂, ◌∙◌}
use Rattle.std.proofs.lemmas.List.Sorted.{answers_always}
use Rattle.pages.specs.Page.{code_of, line_for}
use Rattle.pages.specs.Page.Laws.{Turn, turn}
use Rattle.pages.proofs.words_in.Goals as goal
use Rattle.pages.proofs.words_in.Goals.{After-digit-in-loop-line}

-- the number that the digits of the line say
said : (c : After-digit-in-loop-line) → c.digit.result * 10 + c.digit-in-loop-line.result ≡ code_of c.in-Some.line.now
said c = ap₂ (λ a b. a * 10 + b) c.digit.ensures.value c.digit-in-loop-line.ensures.value

here : (c : After-digit-in-loop-line) → Turn c.loop-line.line-iterator.rest.now c.in-Some.line.now c.next.new.self.rest.now c.next.new.self.done c.args.code
here c =
    let steps = c.in-Some.ensures.steps in
    let first = (steps.2 (λ (y : ℕ). eqb y 10) (answers_always _ _ _ (λ f a r f' q. search (rules, tests)))).1 in
    turn _ _ _ c.next.new.self.done c.args.code steps.1 first

-- the words are those that are found from this line on
so_far : (c : After-digit-in-loop-line) → line_for c.args.code c.args.page.now ≡ line_for c.args.code c.loop-line.line-iterator.rest.now
so_far c = rw c.in-Some.ensures.steps.0 at c.loop-line.invariant

pub returns-then-digit-code : goal.returns-then-digit-code
returns-then-digit-code c =
    let turn = (goal.at.returns-then-digit-code c).After-digit-in-loop-line in
    c.words_after.ensures ∙ sym (so_far turn ∙ (here turn).found (sym c.if-digit-code.true ∙ said turn))

pub loop-line-preserved : goal.loop-line-preserved
loop-line-preserved c =
    let turn = (goal.at.loop-line-preserved c).After-digit-in-loop-line in
    rw (so_far turn) ((here turn).passed (λ y. c.if-digit-code.false (said turn ∙ sym y)))
