-- `front_seal::text_front` meets its contract: what is passed and what is left are the whole text.
use Prim.Native.Nat.{◌-◌, ◌*◌}
use Rattle.front_seal.specs.Steps.Names.{Stands}
use Rattle.front_seal.proofs.text_front.Given as goal

abbrev pub invariant-loop-i : goal.invariant-loop-i
invariant-loop-i l = Stands l.seal l.at l.size (2 * l.i) (l.size - 3 * l.i)
