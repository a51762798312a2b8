-- `seal_size` meets its contract.
-- Assumes nothing.
use native.Mathlib.Omega.{arith}
use Prim.Native.Nat.{◌≤◌}
use Rattle.grammar.specs.Content.{four}
use Rattle.write_size.specs.SealSize.Laws.{width_small}
use Rattle.write_size.proofs.seal_size.Goals as goal
use Rattle.write_size.proofs.seal_size.Goals.{After-width_of}

-- the width of the signature's length
small : (c : After-width_of) → c.width_of.result ≤ 3
small c =
    omega (arith, c.width_of.ensures, width_small four c.args.signature (omega arith))

pub overflow_add-fixed-3 : goal.overflow_add-fixed-3
overflow_add-fixed-3 c = let w = small c in omega arith

pub overflow_add-fixed-4 : goal.overflow_add-fixed-4
overflow_add-fixed-4 c = let w = small c in omega arith
