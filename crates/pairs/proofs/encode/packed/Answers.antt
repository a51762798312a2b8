-- `pairs::encode::packed` meets its contract: three values below 40 make at most 64,000.
-- Assumes nothing.
use native.Mathlib.Omega.{arith}
use Rattle.pairs.proofs.encode.packed.Goals as goal

pub overflow_mul-result : goal.overflow_mul-result
overflow_mul-result c = omega arith

pub overflow_mul-result-2 : goal.overflow_mul-result-2
overflow_mul-result-2 c = omega arith

pub overflow_add-result : goal.overflow_add-result
overflow_add-result c = omega arith

pub overflow_add-result-2 : goal.overflow_add-result-2
overflow_add-result-2 c = omega arith

pub overflow_add-result-3 : goal.overflow_add-result-3
overflow_add-result-3 c = omega arith

pub returns : goal.returns
returns c = omega arith
