-- `blocks::copy_sixteen` meets its contract: eight bytes, and eight more where these end.
-- Assumes nothing.
use native.Mathlib.Omega.{arith}
use mathlib.Core.Path.{ap, ◌∙◌}
use Prim.Native.Nat.{◌+◌}
use lib.ListN.{take, drop}
use Rattle.format.specs.Buffer.{over}
use Rattle.blocks.specs.Blocks.{sixteen}
use Rattle.blocks.proofs.copy_sixteen.Goals as goal

pub returns : goal.returns
returns c =
    let a = c.args in
    c.copy_eight-2.ensures
    ∙ ap (λ o. over o (a.at + 8) (take 8 (drop (a.i + 8) a.from.now))) c.copy_eight.ensures
    ∙ sixteen a.from.now a.out.now a.at a.i (omega arith) (omega arith)
