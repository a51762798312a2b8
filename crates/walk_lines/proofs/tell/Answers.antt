-- `walk_lines::tell` meets its contract: the seal is refused, or its features are told; the buffer has room for every text.
-- Assumes nothing.
use native.Mathlib.Omega.{arith}
use mathlib.Core.Path.{ap, refl, sym}
use Prim.Native.Nat.{ℕ, ◌≤◌}
use lib.ListN.{length}
use Rattle.verdict.specs.Judge.{judge}
use Rattle.lines.specs.Written.Laws.{put_through}
use Rattle.walk_lines.specs.Lines.{text_of}
use Rattle.walk_lines.specs.Lines.Laws.{enough, tells_through, whole_refusal, whole_walk}
use Rattle.walk_lines.specs.Room.{Word, room}
use Rattle.walk_lines.proofs.tell.Goals as goal

pub returns-then-start-ne0 : goal.returns-then-start-ne0
returns-then-start-ne0 c =
    let seal = c.args.seal.now in
    let start = c.start_at-start in
    -- the buffer has room for the text
    let place : Word (judge seal) = omega (arith, start.type_inv, ap (λ a. a.place) start.ensures) in
    let most : length (text_of (judge seal)) ≤ 11730 = room seal (λ i. (c.type_inv.seal i).fits) place in
    let held = whole_refusal _ _ _ _ (omega (arith, most, c.well_formed)) _ start.ensures c.if-start-ne0.true
    (put_through _ 0 c.new-line.result c.put_refused.new.line _ _ _ c.new-line.ensures c.put_refused.ensures refl
    (sym c.at.ensures)) in
    record { count = held.0; text = held.1; room = most; enough = enough (omega arith) }

pub returns : goal.returns
returns c =
    let seal = c.args.seal.now in
    let start = c.start_at-start in
    let bytes = λ (i : ℕ). (c.type_inv.seal i).fits in
    let place : Word (judge seal) = omega (arith, start.type_inv, ap (λ a. a.place) start.ensures) in
    let most : length (text_of (judge seal)) ≤ 11730 = room seal bytes place in
    let held = whole_walk _ _ _ _ (omega (arith, most, c.well_formed)) _ start.ensures bytes c.if-start-ne0.false
    (tells_through _ _ _ 0 c.new-line.result c.put_features.new.line _ _ c.new-line.ensures c.put_features.ensures refl
    (sym c.at-2.ensures)) in
    record { count = held.0; text = held.1; room = most; enough = enough (omega arith) }
