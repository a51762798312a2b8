-- `octets::copy` meets its contract.
-- Assumes nothing.
use Rattle.std.proofs.Common.{◌∙◌, arith}
use Rattle.octets.specs.Copy.Laws.{copied_not, copied_all, reached_not, reached_all, part_over}
use Rattle.octets.proofs.copy.Goals as goal

pub returns-then-room-at : goal.returns-then-room-at
returns-then-room-at c =
    let a = c.args in
    record { place = reached_not a.from.now a.out.now a.at (omega arith); buffer = copied_not a.from.now a.out.now a.at (omega arith) }

pub returns-then-room-at-2 : goal.returns-then-room-at-2
returns-then-room-at-2 c =
    let a = c.args in
    record { place = reached_not a.from.now a.out.now a.at (omega arith); buffer = copied_not a.from.now a.out.now a.at (omega arith) }

pub returns : goal.returns
returns c =
    let a = c.args in record {
      place = reached_all a.from.now a.out.now a.at (omega arith);
      buffer = part_over a.from.now a.out.now a.at _ c.copy_from_slice.ensures.after ∙ copied_all a.from.now a.out.now a.at (omega arith);
    }
