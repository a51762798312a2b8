-- `put_value` meets its contract: where there is room, all of the value is copied.
-- Assumes nothing.
use mathlib.Core.Path.{refl, ap, ◌∙◌}
use mathlib.Core.List.{◌++◌}
use Prim.Native.Nat.{◌-◌}
use lib.ListN.{length, take, drop}
use Rattle.blocks.specs.Blocks.{part}
use Rattle.writer.proofs.put.put_value.Goals as goal

pub returns : goal.returns
returns c =
    let a = c.args in
    let out = a.out.now in
    let at = a.at in record {
      place = refl;
      buffer = ap (λ t. take at out ++ (t ++ drop (length out - at) (drop at out))) c.copy_lent.ensures
          ∙ part a.value.now out at c.requires;
    }
