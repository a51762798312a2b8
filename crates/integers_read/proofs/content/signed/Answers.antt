-- `content::signed` meets its contract: the byte, and from 80 on 256 less.
-- Assumes nothing.
use native.Mathlib.Omega.{arith}
use Rattle.integers.specs.Integer.Bytewise.{first_low, first_fits, first_back}
use Rattle.integers_read.proofs.content.signed.Goals as goal

pub overflow_sub-result : goal.overflow_sub-result
overflow_sub-result c = first_fits c.args.x (omega arith) (omega arith)

pub returns-then-x-ge128 : goal.returns-then-x-ge128
returns-then-x-ge128 c = first_back c.args.x (omega arith) (omega arith)

pub returns : goal.returns
returns c = first_low c.args.x (omega arith) (omega arith)
