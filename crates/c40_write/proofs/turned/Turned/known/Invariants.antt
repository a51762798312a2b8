-- `Turned::known` meets its contract. The loop's invariant: all characters passed are known.
use mathlib.Core.Path.{◌≡◌}
use Prim.Native.Nat.{◌+◌, ◌≤◌}
use lib.ListN.{length, drop}
use Rattle.c40.specs.Calls.{known}
use Rattle.c40_write.proofs.turned.Turned.known.Given as goal

abbrev pub invariant-loop-i : goal.invariant-loop-i
invariant-loop-i l = (l.i ≤ length l.text) × (known l.text ≡ l.i + known (drop l.i l.text))
