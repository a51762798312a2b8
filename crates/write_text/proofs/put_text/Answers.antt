-- `put_text` meets its contract.
-- Assumes nothing.
use native.Mathlib.Omega.{arith}
use mathlib.Core.Path.{◌∙◌}
use Rattle.octets.specs.Copy.Laws.{copied_not, copied_all, reached_not, reached_all}
use Rattle.write_text.specs.Coded.{coded}
use Rattle.write_text.specs.Coded.Laws.{length_coded}
use Rattle.write_text.proofs.put_text.Goals as goal

pub returns-then-room-at : goal.returns-then-room-at
returns-then-room-at c =
    let a = c.args in
    let bytes = coded a.text.now in
    record { place = reached_not bytes a.out.now a.at (omega arith); buffer = copied_not bytes a.out.now a.at (omega arith) }

pub returns-then-room-at-2 : goal.returns-then-room-at-2
returns-then-room-at-2 c =
    let a = c.args in
    let bytes = coded a.text.now in
    let many = length_coded a.text.now in
    record { place = reached_not bytes a.out.now a.at (omega arith); buffer = copied_not bytes a.out.now a.at (omega arith) }

pub put_pairs-requires : goal.put_pairs-requires
put_pairs-requires c = omega (arith, length_coded c.args.text.now)

pub returns : goal.returns
returns c =
    let a = c.args in
    let bytes = coded a.text.now in
    let many = length_coded a.text.now in record { place = c.put_pairs.ensures.place ∙ reached_all bytes a.out.now a.at (omega arith); buffer = c.put_pairs.ensures.buffer ∙ copied_all bytes a.out.now a.at (omega arith) }
