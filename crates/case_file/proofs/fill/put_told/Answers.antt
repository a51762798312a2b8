-- `case_file::fill::put_told` meets its contract: four parts, each after the one before it; the text is cut off at its end.
-- Assumes nothing.
use native.Mathlib.Omega.{arith}
use Prim.Native.Nat.{◌+◌}
use mathlib.Core.Path.{◌≡◌, ap, ◌∙◌}
use lib.ListN.{take}
use Rattle.std.proofs.lemmas.List.{take_min}
use Rattle.case_file.specs.Line.Laws.{puts_more}
use Rattle.case_file.proofs.fill.put_told.Goals as goal

pub returns : goal.returns
returns c =
    let text = c.args.text.now in
    let whole : 0 + c.args.count ≡ c.args.count = omega arith in
    let cut : take c.reach.result text ≡ take c.args.count text =
    ap (λ k. take k text) c.reach.ensures.value ∙ take_min (0 + c.args.count) text ∙ ap (λ k. take k text) whole in
    puts_more _ _ _ _ _ (rw cut at c.text.ensures)
    (puts_more _ _ _ _ _ c.number.ensures (puts_more _ _ _ _ _ c.put_kept.ensures c.put.ensures))
