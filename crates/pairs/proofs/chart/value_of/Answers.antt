-- `pairs::chart::value_of` meets its contract: what the last test that held put down is one range of the definition.
-- Assumes nothing.
use native.Mathlib.Omega.{arith}
use mathlib.Core.Path.{◌≡◌, ap, ◌∙◌}
use Prim.Native.Nat.{◌-◌, ◌<◌}
use Rattle.pairs.specs.Chart.{value_of}
use Rattle.pairs.specs.Chart.Laws.{value_space, value_digit, value_letter, value_other, value_range}
use Rattle.pairs.proofs.chart.value_of.Goals as goal
use Rattle.pairs.proofs.chart.value_of.Goals.{Joined-n-ge48, Joined-n-ge65, then-n-ge48, else-n-ge48, then-n-ge65, else-n-ge65}

-- past the first test: below the letters the value stands
low : (c : Joined-n-ge48) → c.wide-n.result < 65 → c.if-n-ge48.value ≡ value_of c.args.c
low c h =
    let n = c.wide-n.ensures in
    elim c.if-n-ge48.branch [
      | then-n-ge48 w ↦ w.value-is ∙ ap (λ k. k - 44) n ∙ value_digit _ (omega (arith, w.if-n-ge48.true)) (omega arith)
      | else-n-ge48 w ↦ w.value-is ∙ value_space _ (omega (arith, w.if-n-ge48.false))
    ]

-- past the second: below what comes after the letters
below : (c : Joined-n-ge65) → c.wide-n.result < 91 → c.if-n-ge65.value ≡ value_of c.args.c
below c h =
    let n = c.wide-n.ensures in
    elim c.if-n-ge65.branch [
      | then-n-ge65 w ↦ w.value-is ∙ ap (λ k. k - 51) n ∙ value_letter _ (omega (arith, w.if-n-ge65.true)) (omega arith)
      | else-n-ge65 w ↦ w.value-is ∙ low (goal.at.Joined-n-ge65 c).Joined-n-ge48 w.if-n-ge65.false
    ]

pub returns-then-n-ge91 : goal.returns-then-n-ge91
returns-then-n-ge91 c = (value_other _ (omega arith), omega arith)

pub returns-else-n-ge91 : goal.returns-else-n-ge91
returns-else-n-ge91 c = let e = below (goal.at.returns-else-n-ge91 c).Joined-n-ge65 c.if-n-ge91.false in (e, omega (arith, value_range c.args.c))
