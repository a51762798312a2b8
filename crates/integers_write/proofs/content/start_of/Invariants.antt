-- `content::start_of` meets its contract. The loop's invariant: the bytes passed are redundant.
use Rattle.std.proofs.Common.{◌≡◌, drop}
use Rattle.der.specs.Content.{shortest}
use Rattle.integers_write.proofs.content.start_of.Given as goal

abbrev pub invariant-loop-i : goal.invariant-loop-i
invariant-loop-i l = shortest l.bytes ≡ shortest (drop l.i l.bytes)
