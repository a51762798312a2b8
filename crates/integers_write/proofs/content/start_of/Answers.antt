-- `content::start_of` meets its contract.
-- Assumes nothing.
use Rattle.std.proofs.Common.{◌≡◌, ◌∙◌, sym, arith}
use Rattle.integers.specs.Integer.Laws.{start_drop, start_keep, start_last}
use Rattle.integers_write.proofs.content.start_of.Goals as goal

pub returns-then-not-is_redundant : goal.returns-then-not-is_redundant
returns-then-not-is_redundant c =
    let s = c.args.bytes.now in
    (omega arith, c.loop-i.invariant ∙ start_keep s c.loop-i.i (omega arith) (sym c.is_redundant.ensures ∙ c.if-not-is_redundant.true))

pub loop-i-preserved : goal.loop-i-preserved
loop-i-preserved c =
    c.loop-i.invariant ∙ start_drop c.args.bytes.now c.loop-i.i (omega arith) (sym c.is_redundant.ensures ∙ c.if-not-is_redundant.false)

pub returns : goal.returns
returns c =
    let last : c.loop-i.i ≡ 7 = omega arith in
    (omega arith, rw last at c.loop-i.invariant ∙ start_last c.args.bytes.now 7 (omega arith))
