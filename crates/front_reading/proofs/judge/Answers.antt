-- `front_reading::judge` meets its contract: the verdict, and the front part beside it.
-- Assumes nothing.
use mathlib.Core.Path.{◌≡◌}
use mathlib.Core.Logic.{inl}
use lib.ListN.{length}
use Rattle.front_header.specs.Header.{front}
use Rattle.front_reading.specs.Fronted.Laws.{judged_whole}
use Rattle.front_reading.proofs.judge.Goals as goal

pub returns-then-judged-eq0 : goal.returns-then-judged-eq0
returns-then-judged-eq0 c =
    -- on 0 the bytes are their own front part
    let s = c.args.seal.now in
    let whole : length s ≡ front s =
    judged_whole s (λ i. (c.type_inv.seal i).fits) _ c.judge-judged.ensures (inl c.if-judged-eq0.true) in
    λ i. record { reading = c.judge-judged.ensures i; front = whole i }

pub returns : goal.returns
returns c = λ i. record { reading = c.judge-judged.ensures i; front = c.front-found.ensures i }
