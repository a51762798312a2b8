-- `put_values` meets its contract: two stores in a row are the two bytes of the values' number.
-- Assumes nothing.
use native.Mathlib.Omega.{arith}
use mathlib.Core.Path.{refl, ◌∙◌, ap}
use lib.ListN.{length-set}
use Rattle.format.specs.BigEndian.Laws.{be_two_low}
use Rattle.format.specs.Buffer.{over}
use Rattle.format.proofs.Buffer.Laws.{over_two}
use Rattle.pairs.specs.Pairs.{packed_of, triple}
use Rattle.writer.proofs.names.put_values.Goals as goal

pub bounds-out-at-2 : goal.bounds-out-at-2
bounds-out-at-2 c = simp length-set (omega arith)

pub returns : goal.returns
unfolding triple
returns c =
    let a = c.args in record {
      place = refl;
      buffer = over_two a.out.now a.at _ _ (omega arith)
          ∙ ap (over a.out.now a.at) (be_two_low (packed_of a.a a.b a.c) _ _ c.low.ensures c.low-2.ensures);
    }
