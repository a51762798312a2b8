-- `put_left` meets its contract: two, one or none are left over, and with no mark the pair is their form.
-- Assumes nothing.
use native.Mathlib.Omega.{arith}
use mathlib.Core.Path.{ap, sym, ◌∙◌}
use Prim.Native.Nat.{ℕ, ◌+◌, ◌*◌}
use mathlib.Core.List.{List}
use lib.ListN.{get_or}
use Rattle.std.proofs.Common.{Fits, w8}
use Rattle.format.specs.Bytes.{Bytes}
use Rattle.format.specs.Choice.Laws.{not_true}
use Rattle.format.specs.Buffer.{over}
use Rattle.format.proofs.Buffer.Laws.{over_none}
use Rattle.c40_write_long.specs.Passed.{left_over_none, left_over_one, left_over_two}
use Rattle.c40_write_long.proofs.put_left.Goals as goal

-- what is left is bytes
all : (s : List ℕ) → ((i : ℕ) → Fits w8 (get_or s i 0)) → Bytes s
all s h i = (h i).fits

pub returns-then-a-b-ge128 : goal.returns-then-a-b-ge128
returns-then-a-b-ge128 c = record { good = λ e. absurd (not_true e); put = λ e. absurd (not_true e) }

pub returns-then-left-eq2 : goal.returns-then-left-eq2
returns-then-left-eq2 c =
    let good =
    left_over_two c.args.left.now (all c.args.left.now c.type_inv.left) (omega arith) c.entry-a.result c.entry-b.result
    c.entry-a.ensures.is c.entry-b.ensures.is c.if-a-b-ge128.false (1600 * c.wide.result + 40 * c.wide-then-left-eq2.result + 1)
    (omega (arith, c.wide.ensures, c.wide-then-left-eq2.ensures)) in
    record { good = λ e. good.0; put = λ e. c.put_two.ensures ∙ ap (over c.args.bytes.now c.args.at) (sym good.1) }

pub returns-then-entry-ge128 : goal.returns-then-entry-ge128
returns-then-entry-ge128 c = record { good = λ e. absurd (not_true e); put = λ e. absurd (not_true e) }

pub returns-else-entry-ge128 : goal.returns-else-entry-ge128
returns-else-entry-ge128 c =
    let good =
    left_over_one c.args.left.now (all c.args.left.now c.type_inv.left) (omega arith) c.entry.result c.entry.ensures.is c.if-entry-ge128.false
    (0xFE00 + c.wide-then-left-eq1.result + 1) (omega (arith, c.wide-then-left-eq1.ensures)) in
    record { good = λ e. good.0; put = λ e. c.put_two-then-left-eq1.ensures ∙ ap (over c.args.bytes.now c.args.at) (sym good.1) }

pub returns-else-left-eq1 : goal.returns-else-left-eq1
returns-else-left-eq1 c =
    let good = left_over_none c.args.left.now (omega arith) in
    let a = c.args in
    record { good = λ e. good.0; put = λ e. sym (ap (over a.bytes.now a.at) good.1 ∙ over_none a.bytes.now a.at) }
