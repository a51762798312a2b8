-- `case_file::fill::put_kept` meets its contract.
-- Assumes nothing.
use mathlib.Core.Path.{◌∙◌, sym}
use Rattle.case_file.proofs.fill.put_kept.Goals as goal

pub returns-then-unchanged : goal.returns-then-unchanged
returns-then-unchanged c = rw (sym c.unchanged.ensures ∙ c.if-unchanged.true) c.text.ensures

pub returns-else-unchanged : goal.returns-else-unchanged
returns-else-unchanged c = rw (sym c.unchanged.ensures ∙ c.if-unchanged.false) c.text-else-unchanged.ensures
