-- `integers_read::read` meets its contract: what is taken is 02, the size in one byte, and 1 to 8 bytes of content.
-- Assumes nothing.
use native.Mathlib.Omega.{arith}
use mathlib.Core.Path.{◌∙◌, ap, sym}
use Prim.Native.Nat.{◌-◌}
use lib.ListN.{length, get_or, drop, length-drop}
use lib.Seq.{take_all}
use Rattle.integers.specs.Calls.{content}
use Rattle.integers.proofs.Exact.{small_reads, not_small}
use Rattle.integers_read.proofs.read.Goals as goal

pub returns-then-n-lt3 : goal.returns-then-n-lt3
returns-then-n-lt3 c = sym (not_small _ (λ i. (c.type_inv.s i).fits) (λ z some few e. omega (arith, ap length e)))

pub returns-then-n-gt10 : goal.returns-then-n-gt10
returns-then-n-gt10 c = sym (not_small _ (λ i. (c.type_inv.s i).fits) (λ z some few e. omega (arith, ap length e)))

pub returns-then-s-ne2 : goal.returns-then-s-ne2
returns-then-s-ne2 c = sym (not_small _ (λ i. (c.type_inv.s i).fits) (λ z some few e. c.if-s-ne2.true (ap (λ t. get_or t 0 0) e)))

pub returns-then-wide-n : goal.returns-then-wide-n
returns-then-wide-n c =
    sym (not_small _ (λ i. (c.type_inv.s i).fits) (λ z some few e. omega (arith, c.wide.ensures, ap length e, ap (λ t. get_or t 1 0) e)))

pub returns : goal.returns
returns c =
    let s = c.args.s.now in
    c.value_of.ensures
    ∙ ap content (take_all (length s - 2) (drop 2 s) (omega (arith, length-drop 2 s)))
    ∙ sym (small_reads s (omega arith) (omega arith) (omega arith) (omega (arith, c.wide.ensures)))
