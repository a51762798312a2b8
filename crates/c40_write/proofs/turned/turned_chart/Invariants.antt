-- `turned::turned_chart` meets its contract. The loop's invariant: the values below v are laid.
use Prim.Native.Nat.{◌≤◌}
use Rattle.c40_write.specs.Turned.Laws.{Laid}
use Rattle.c40_write.proofs.turned.turned_chart.Given as goal

abbrev pub invariant-loop-v : goal.invariant-loop-v
invariant-loop-v l = (3 ≤ l.v) × Laid l.v l.values
