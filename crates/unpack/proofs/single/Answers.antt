-- `unpack::single` meets its contract: each `return` is one case of the definition.
-- Assumes nothing.
use native.Mathlib.Omega.{arith}
use mathlib.Core.Path.{◌≡◌, ◌∙◌, ap, sym}
use Prim.Native.Nat.{◌-◌}
use lib.ListN.{get_or}
use Rattle.pairs.specs.Chart.{char_in, value_of}
use Rattle.pairs.proofs.Pairs.Laws.{pair_large, pair_single, single_inner, single_none, single_stranger, single_one}
use Rattle.unpack.proofs.single.Goals as goal
use Rattle.unpack.proofs.single.Goals.{After-t13-1}

pub returns-then-x-ne254 : goal.returns-then-x-ne254
returns-then-x-ne254 c = pair_large _ _ _ _ c.if-x-ne254.true c.requires

pub returns-then-not-last : goal.returns-then-not-last
returns-then-not-last c = single_inner _ _ _ c.if-not-last.true ∙ pair_single _ _ _ _ (omega arith)

pub returns-then-y-eq0 : goal.returns-then-y-eq0
returns-then-y-eq0 c = single_none _ _ _ (omega arith) ∙ pair_single _ _ _ _ (omega arith)

-- what the chart has at the value of the code
found : (c : After-t13-1)
    → let a = c.args in
    get_or a.chart.now c.value_of.result 0 ≡ char_in a.chart.now (value_of (a.y - 1))
found c = ap (char_in c.args.chart.now) c.value_of.ensures.0

pub returns-then-chart-value_of : goal.returns-then-chart-value_of
returns-then-chart-value_of c = single_stranger _ _ _ (λ i. c.if-chart-value_of.true (found (goal.at.returns-then-chart-value_of c).After-t13-1 ∙ i)) ∙ pair_single _ _ _ _ (omega arith)

pub returns : goal.returns
returns c =
    single_one _ _ _ c.if-not-last.false (omega arith) (sym (found (goal.at.returns c).After-t13-1) ∙ c.if-chart-value_of.false)
    ∙ pair_single _ _ _ _ (omega arith)
