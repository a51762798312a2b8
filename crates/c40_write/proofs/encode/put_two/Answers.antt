-- `put_two` meets its contract: two stores in a row are the number's last two bytes.
-- Assumes nothing.
use native.Mathlib.Omega.{arith}
use mathlib.Core.Path.{◌∙◌, ap}
use lib.ListN.{length-set}
use Rattle.format.specs.BigEndian.Laws.{be_two_low}
use Rattle.format.specs.Buffer.{over}
use Rattle.format.proofs.Buffer.Laws.{over_two}
use Rattle.c40_write.proofs.encode.put_two.Goals as goal

pub bounds-out-at-2 : goal.bounds-out-at-2
bounds-out-at-2 c = simp length-set (omega arith)

pub returns : goal.returns
returns c =
    let a = c.args in
    over_two a.out.now a.at _ _ (omega arith)
    ∙ ap (over a.out.now a.at) (be_two_low a.number _ _ c.low.ensures c.low-2.ensures)
