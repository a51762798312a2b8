-- `pairs::the_chart` meets its contract: the constant is Table 2, entry by entry.
-- Assumes nothing.
use mathlib.Core.Path.{refl}
use Rattle.pairs.specs.Chart.{the_chart}
use Rattle.pairs.proofs.chart.the_chart.Goals as goal

pub returns : goal.returns
unfolding the_chart
returns c = refl
