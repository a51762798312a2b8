-- `octets::number` meets its contract. The loop's invariant: the value is that of the bytes passed.
use Rattle.std.proofs.Common.{◌≡◌}
use Rattle.format.specs.BigEndian.{val}
use Rattle.octets.proofs.number.Given as goal

abbrev pub invariant-loop-x : goal.invariant-loop-x
invariant-loop-x l = l.value ≡ val l.fn.s l.x-index
