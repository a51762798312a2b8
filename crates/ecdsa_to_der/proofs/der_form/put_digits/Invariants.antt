-- `der_form::put_digits` meets its contract. The loop's invariant: the first i bytes stand in `out`.
use native.Mathlib.Omega.{arith}
use mathlib.Core.Path.{◌≡◌, ◌∙◌, ap, sym}
use Prim.Native.Nat.{◌+◌, ◌-◌, ◌≤◌}
use lib.ListN.{length, take, set, get_or}
use lib.Seq.{length-take-le, take_all}
use Rattle.format.specs.Buffer.{over}
use Rattle.format.proofs.Buffer.Laws.{over_none, length_over}
use Rattle.octets.specs.Copy.Laws.{copied_not, copied_all, reached_not, reached_all, one_more}
use Rattle.ecdsa_to_der.proofs.der_form.put_digits.Given as goal

abbrev pub invariant-loop-i : goal.invariant-loop-i
invariant-loop-i l = (l.i ≤ length l.from) × (l.out ≡ over l.initial.out l.at (take l.i l.from))

abbrev pub decreases-loop-i : goal.decreases-loop-i
decreases-loop-i l = length l.from - l.i
