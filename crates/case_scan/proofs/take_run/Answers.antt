-- `case_scan::take_run` meets its contract: pairs alone, or pairs and a count.
-- Assumes nothing.
use Rattle.std.proofs.Common.{◌∙◌, sym}
use Rattle.case_scan.specs.Scan.Laws.{run_counted, run_other}
use Rattle.case_scan.proofs.take_run.Goals as goal

pub returns-then-at-ne42 : goal.returns-then-at-ne42
returns-then-at-ne42 c =
    run_other c.args.s.now _ _ c.take_pairs-after.ensures.0 _ _ c.take_pairs-after.ensures.1 (λ e. c.if-at-ne42.true (c.at.ensures ∙ e))

pub returns : goal.returns
returns c =
    run_counted c.args.s.now _ _ c.take_pairs-after.ensures.0 _ _ c.take_pairs-after.ensures.1 (sym c.at.ensures ∙ c.if-at-ne42.false) _ _
    c.number-count.ensures.1.0 c.number-count.ensures.1.1 _ c.repeat.ensures
