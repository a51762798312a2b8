-- `front_reading::read` meets its contract: the reading, and the front part beside it.
-- Assumes nothing.
use mathlib.Core.Logic.{inl, inr}
use Rattle.front_reading.specs.Fronted.{Whole}
use Rattle.front_reading.specs.Fronted.Laws.{read_whole}
use Rattle.front_reading.proofs.read.Goals as goal

pub returns-then-read-eq0 : goal.returns-then-read-eq0
returns-then-read-eq0 c =
    -- on 0 and 12 the bytes are their own front part
    let s = c.args.seal.now in
    let good : Whole s c.read-read.result.number = read_whole s (λ i. (c.type_inv.seal i).fits) _ _ _ c.read-read.ensures.answer in
    let whole = good (inl c.if-read-eq0.true) in
    record {
      answer = λ i. record { reading = c.read-read.ensures.answer i; front = whole i };
      rows = c.read-read.ensures.rows;
      names = c.read-read.ensures.names;
    }

pub returns-then-read-eq12 : goal.returns-then-read-eq12
returns-then-read-eq12 c =
    let s = c.args.seal.now in
    let good : Whole s c.read-read.result.number = read_whole s (λ i. (c.type_inv.seal i).fits) _ _ _ c.read-read.ensures.answer in
    let whole = good (inr c.if-read-eq12.true) in
    record {
      answer = λ i. record { reading = c.read-read.ensures.answer i; front = whole i };
      rows = c.read-read.ensures.rows;
      names = c.read-read.ensures.names;
    }

pub returns : goal.returns
returns c =
    record {
      answer = λ i. record { reading = c.read-read.ensures.answer i; front = c.front-front.ensures i };
      rows = c.read-read.ensures.rows;
      names = c.read-read.ensures.names;
    }
