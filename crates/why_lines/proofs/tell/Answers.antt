-- `why_lines::tell` meets its contract: the buffer has room for every text.
-- Assumes nothing.
use native.Mathlib.Omega.{arith}
use mathlib.Core.Path.{ap, refl, sym}
use Rattle.lines.specs.Written.Laws.{put_through}
use Rattle.why.specs.Told.{told}
use Rattle.why_lines.proofs.Lines.Laws.{whole, enough}
use Rattle.why_lines.proofs.Room.{Word, room}
use Rattle.why_lines.proofs.tell.Goals as goal

pub returns : goal.returns
returns c =
    let seal = c.args.seal.now in
    let e = c.why-reason.ensures in
    let place : Word (told seal).place = omega (arith, c.why-reason.type_inv, ap (λ r. r.place) e) in
    let most = room seal (λ i. (c.type_inv.seal i).fits) place (omega arith) in
    let held =
    whole seal c.args.out.now _ c.at.result (omega (arith, most, c.well_formed)) c.why-reason.result c.front.result e
    c.front.ensures
    (put_through _ 0 c.new-line.result c.put_why.new.line _ _ _ c.new-line.ensures c.put_why.ensures refl (sym c.at.ensures)) in
    record { count = held.0; text = held.1; room = most; enough = enough (omega arith) }
