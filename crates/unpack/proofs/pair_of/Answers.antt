-- `unpack::pair_of` meets its contract: each `return` is one case of the definition. FE is looked for only where the number is over 64,000.
-- Assumes nothing.
use native.Mathlib.Omega.{arith}
use mathlib.Core.Path.{◌≡◌, ◌∙◌}
use Prim.Native.Nat.{◌+◌, ◌*◌, ◌-◌}
use Rattle.pairs.specs.Pairs.{number, values, pair_of}
use Rattle.pairs.proofs.Pairs.Laws.{pair_zero, pair_values}
use Rattle.pairs.proofs.Pairs.Laws.{values_first, values_second, values_three, values_two, values_inner, values_third}
use Rattle.unpack.proofs.pair_of.Goals as goal
use Rattle.unpack.proofs.pair_of.Goals.{After-split-v}

pub returns-then-number-eq0 : goal.returns-then-number-eq0
returns-then-number-eq0 c = pair_zero _ _ _ _ (omega arith)

-- what the three values carry is what the pair carries
whole : (c : After-split-v)
    → let a = c.args in
    values a.chart.now a.last c.split-v.result.a c.split-v.result.b c.split-v.result.c
    ≡ pair_of a.chart.now a.last a.x a.y
whole c =
    let a = c.args in
    let s = c.split-v.ensures in
    let less = c.wide.result * 256 + c.wide-2.result - 1 in
    let e : less + 1 ≡ number a.x a.y = omega arith in
    cc (pair_values a.chart.now a.last a.x a.y (omega arith) (omega arith))

pub returns-then-a-lt3 : goal.returns-then-a-lt3
returns-then-a-lt3 c = values_first _ _ _ _ _ (omega arith) ∙ whole (goal.at.returns-then-a-lt3 c).After-split-v

pub returns-then-b-lt3 : goal.returns-then-b-lt3
returns-then-b-lt3 c = values_second _ _ _ _ _ (omega arith) (omega arith) ∙ whole (goal.at.returns-then-b-lt3 c).After-split-v

pub returns-then-c-ge3 : goal.returns-then-c-ge3
returns-then-c-ge3 c = values_three _ _ _ _ _ (omega arith) (omega arith) (omega arith) ∙ whole (goal.at.returns-then-c-ge3 c).After-split-v

pub returns-then-last : goal.returns-then-last
returns-then-last c =
    values_two _ _ _ _ _ c.if-last.true (omega arith) (omega arith) (omega arith) ∙ whole (goal.at.returns-then-last c).After-split-v

pub returns-else-last : goal.returns-else-last
returns-else-last c =
    values_inner _ _ _ _ _ c.if-last.false (omega arith) (omega arith) (omega arith) ∙ whole (goal.at.returns-else-last c).After-split-v

pub returns-else-c-eq0 : goal.returns-else-c-eq0
returns-else-c-eq0 c = values_third _ _ _ _ _ (omega arith) (omega arith) (omega arith) c.if-c-eq0.false ∙ whole (goal.at.returns-else-c-eq0 c).After-split-v
