-- `listing::list` meets its contract: table and text have room for every seal, and the buffer for every listing.
-- Assumes nothing.
use native.Mathlib.Omega.{arith}
use mathlib.Core.Path.{refl, sym}
use Rattle.lines.specs.Written.Laws.{put_through}
use Rattle.listing.specs.Listed.Laws.{whole, enough}
use Rattle.listing.proofs.list.Goals as goal

pub returns : goal.returns
returns c =
    let read = c.read-reading in
    let held =
    whole c.args.seal.now (λ i. (c.type_inv.seal i).fits) _ _ _ _ read.result (omega (arith, read.type_inv)) _ _ (omega arith)
    (omega arith) read.ensures.answer read.ensures.rows read.ensures.names c.args.out.now _ c.at.result (omega arith)
    (put_through _ 0 c.new-line.result c.put_listing.new.line _ _ _ c.new-line.ensures c.put_listing.ensures refl
    (sym c.at.ensures)) in
    record { count = held.0; text = held.1.0; room = omega (arith, held.1.1); enough = enough (omega arith) }
