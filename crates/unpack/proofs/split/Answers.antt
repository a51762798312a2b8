-- `unpack::split` meets its contract: a quarter of the tens is the forties, and one more and one less is the number itself.
-- Assumes nothing.
use native.Mathlib.Omega.{arith}
use Rattle.unpack.proofs.split.Goals as goal

pub returns : goal.returns
returns c = (omega arith, (omega arith, omega arith))
