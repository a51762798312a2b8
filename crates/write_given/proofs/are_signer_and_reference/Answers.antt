-- `are_signer_and_reference` meets its contract: each `return` is the first test that does not pass, and at the end one test is left.
-- Assumes nothing.
use borrow.Author.Rules.{rules}
use native.Mathlib.Omega.{arith}
use mathlib.Core.Path.{◌≡◌, ap, sym, ◌∙◌}
use mathlib.Core.Bool.{true}
use Prim.Native.Nat.{◌+◌, ◌≤◌}
use lib.ListN.{length, take}
use Rattle.fields.specs.Characters.{is_signer, is_reference, all}
use Rattle.format.specs.Places.{first_four, to_end}
use Rattle.write_given.specs.Tests.Laws.{text_size, text_length, text_signer, text_reference, size_any}
use Rattle.write_given.specs.Tests.{is_text_size}
use Rattle.write_given.proofs.are_signer_and_reference.Goals as goal
use Rattle.write_given.proofs.are_signer_and_reference.Goals.{After-is_signer, Else-length-text, Else-not-is_text_size}

-- what the tests passed say
size : (c : Else-not-is_text_size) → is_text_size c.args.version (length c.args.text.now) ≡ true
size c = sym c.is_text_size.ensures ∙ c.if-not-is_text_size.false

long : (c : Else-not-is_text_size) → 5 ≤ length c.args.text.now
long c = (size_any c.args.version (length c.args.text.now) (size c)).0

measured : (c : Else-length-text) → c.args.length + 4 ≡ length c.args.text.now
measured c =
    let l = long (goal.at.Else-length-text c).Else-not-is_text_size in
    let e = c.if-length-text.false in
    omega arith

signer :
    (c : After-is_signer) →
    c.is_signer.result ≡ is_signer (take 4 c.args.text.now)
signer c =
    let l = long (goal.at.After-is_signer c).Else-not-is_text_size in
    c.is_signer.ensures ∙ ap is_signer (first_four c.args.text.now (omega arith))

pub returns-then-not-is_text_size : goal.returns-then-not-is_text_size
returns-then-not-is_text_size c =
    let a = c.args in
    text_size a.version a.length a.text.now (sym c.is_text_size.ensures ∙ c.if-not-is_text_size.true)

pub overflow_sub-text : goal.overflow_sub-text
overflow_sub-text c = omega (arith, long c)

pub returns-then-length-text : goal.returns-then-length-text
returns-then-length-text c =
    let a = c.args in
    let l = long (goal.at.returns-then-length-text c).Else-not-is_text_size in
    text_length a.version a.length a.text.now (size (goal.at.returns-then-length-text c).Else-not-is_text_size) (λ e. c.if-length-text.true (omega arith))

pub bounds-text-0 : goal.bounds-text-0
bounds-text-0 c = let l = long (goal.at.bounds-text-0 c).Else-not-is_text_size in omega arith

pub bounds-text-1 : goal.bounds-text-1
bounds-text-1 c = let l = long (goal.at.bounds-text-1 c).Else-not-is_text_size in omega arith

pub bounds-text-2 : goal.bounds-text-2
bounds-text-2 c = let l = long (goal.at.bounds-text-2 c).Else-not-is_text_size in omega arith

pub bounds-text-3 : goal.bounds-text-3
bounds-text-3 c = let l = long (goal.at.bounds-text-3 c).Else-not-is_text_size in omega arith

pub returns-then-not-is_signer : goal.returns-then-not-is_signer
returns-then-not-is_signer c =
    let a = c.args in
    text_signer a.version a.length a.text.now (size (goal.at.returns-then-not-is_signer c).Else-not-is_text_size) (measured (goal.at.returns-then-not-is_signer c).Else-length-text) (sym (signer (goal.at.returns-then-not-is_signer c).After-is_signer) ∙ c.if-not-is_signer.true)

pub returns : goal.returns
returns c =
    let a = c.args in
    c.all_reference.ensures
    ∙ ap (all is_reference) (to_end a.text.now 4)
    ∙ text_reference a.version a.length a.text.now (size (goal.at.returns c).Else-not-is_text_size) (measured (goal.at.returns c).Else-length-text)
    (sym (signer (goal.at.returns c).After-is_signer) ∙ c.if-not-is_signer.false)
