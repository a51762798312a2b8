-- `read_names::text::fill` meets its contract: what the reading of C40 answers says whether the text fills its room, and else where not.
-- Assumes nothing.
use native.Mathlib.Omega.{arith}
use mathlib.Core.Path.{◌≡◌, ◌∙◌, ap, sym}
use Prim.Native.Nat.{ℕ, ◌-◌}
use Rattle.std.specs.Prelude.{Result, Ok, Err}
use Rattle.c40.specs.declared.ReadError.{ReadError}
use Rattle.verdict.specs.Items.{wrong_at}
use Rattle.read_names.specs.Meaning.Text.{filled_exactly, filled_less, filled_wrong, filled_more}
use Rattle.read_names.proofs.text.fill.Goals as goal

-- the error of a result, or another
abbrev error_of : Result ℕ ReadError → ReadError → ReadError
error_of (Ok n) other = other
error_of (Err e) other = e

same_error : {a b : ReadError} → ◌≡◌ {A = Result ℕ ReadError} (Err a) (Err b) → a ≡ b
same_error {a} {b} e = ap {A = Result ℕ ReadError} (λ r. error_of r a) e

no_count : {n : ℕ} {a : ReadError} → ◌≡◌ {A = Result ℕ ReadError} (Err a) (Ok n) → ⊥
no_count e = cc

pub overflow_sub-last : goal.overflow_sub-last
overflow_sub-last c = omega (arith, c.requires)

pub returns-then-count-text : goal.returns-then-count-text
returns-then-count-text c =
    filled_exactly c.args.bytes.now c.args.text.now c.read-read.new.out c.requires c.read-read.result c.read-read.ensures.answer
    c.read-read.ensures.buffer _ c.in-Ok.is c.if-count-text.true

pub returns-else-count-text : goal.returns-else-count-text
returns-else-count-text c =
    ap (λ k. wrong_at (k - 2)) c.requires.0
    ∙ filled_less c.args.bytes.now c.args.text.now c.read-read.new.out c.requires c.read-read.result c.read-read.ensures.answer
    c.read-read.ensures.buffer _ c.in-Ok.is c.if-count-text.false

pub returns-in-WrongPair : goal.returns-in-WrongPair
returns-in-WrongPair c =
    filled_wrong c.args.bytes.now c.args.text.now c.read-read.new.out c.requires c.read-read.result c.read-read.ensures.answer
    c.read-read.ensures.buffer _ (c.in-Err.is ∙ ap Err c.in-WrongPair.is)

pub returns-in_default : goal.returns-in_default
returns-in_default c =
    ap (λ k. wrong_at (k - 2)) c.requires.0
    ∙ filled_more c.args.bytes.now c.args.text.now c.read-read.new.out c.requires c.read-read.result c.read-read.ensures.answer
    c.read-read.ensures.buffer (λ n e. no_count (sym c.in-Err.is ∙ e)) (λ w e. c.in_default.not-WrongPair w (same_error (sym c.in-Err.is ∙ e)))
