-- `value` meets its contract: from A on a letter, below it a digit.
-- Assumes nothing.
use native.Mathlib.Omega.{arith}
use mathlib.Core.Path.{ap, ◌∙◌}
use mathlib.Core.Logic.{⊎_elim}
use Prim.Native.Nat.{◌-◌, ◌≤◌}
use Rattle.pairs.specs.Chart.Laws.{value_digit, value_letter}
use Rattle.writer.proofs.names.value.Goals as goal
use Rattle.writer.proofs.names.value.Goals.{Start}

low : (s : Start) → 48 ≤ s.args.c
low c = ⊎_elim (λ l. omega (arith, l.0)) (λ d. d.0) c.requires

high : (s : Start) → s.args.c ≤ 90
high c = ⊎_elim (λ l. l.1) (λ d. omega (arith, d.1)) c.requires

pub returns-then-n-ge65 : goal.returns-then-n-ge65
returns-then-n-ge65 c =
    let most = high (goal.at.returns-then-n-ge65 c).Start in
    ap (λ n. n - 51) c.wide-n.ensures ∙ value_letter _ (omega arith) (omega arith)

pub overflow_sub-result-2 : goal.overflow_sub-result-2
overflow_sub-result-2 c = omega (arith, low (goal.at.overflow_sub-result-2 c).Start)

pub returns : goal.returns
returns c = ap (λ n. n - 44) c.wide-n.ensures ∙ value_digit _ (low (goal.at.returns c).Start) (omega arith)
