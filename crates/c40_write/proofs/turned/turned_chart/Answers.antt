-- `turned::turned_chart` meets its contract. The loop's invariant: the values below v are laid.
-- Assumes nothing.
use native.Mathlib.Omega.{arith}
use mathlib.Core.Path.{◌≡◌, refl, ◌∙◌}
use Prim.Native.Nat.{◌<◌}
use Rattle.pairs.specs.Chart.{char}
use Rattle.pairs.specs.Chart.Laws.{char_in_lem, char_below, entry}
use Rattle.c40_write.specs.Turned.Laws.{laid_start, laid_more, laid_all}
use Rattle.c40_write.proofs.turned.turned_chart.Goals as goal
use Rattle.c40_write.proofs.turned.turned_chart.Goals.{After-wide}

pub loop-v-init : goal.loop-v-init
loop-v-init c = (omega arith, laid_start _ refl)

-- the character of v, at which its entry is laid
found : (c : After-wide) → (c.wide.result ≡ char c.loop-v.v) × (c.wide.result < 91)
found c =
    let e = c.wide.ensures ∙ entry _ c.loop-v.v _ c.the_chart-chart.ensures refl in
    let low = char_below (char c.loop-v.v) (char_in_lem c.loop-v.v c.loop-v.invariant.0 (omega arith)) in
    (e, omega arith)

pub bounds-values-wide : goal.bounds-values-wide
bounds-values-wide c = omega (arith, (found c).1)

pub loop-v-preserved : goal.loop-v-preserved
loop-v-preserved c =
    (omega arith, laid_more c.loop-v.v c.loop-v.values c.loop-v.invariant.1 _ (found c).0 c.loop-v.invariant.0 (omega arith))

pub invariant_of-result : goal.invariant_of-result
invariant_of-result c = record { is_turned = laid_all _ _ c.loop-v.invariant.1 (omega arith) }
