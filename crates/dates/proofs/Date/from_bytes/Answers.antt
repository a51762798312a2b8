-- `dates::Date::from_bytes` meets its contract: the sum is the number that the three bytes carry.
-- Assumes nothing.
use mathlib.Core.Path.{◌∙◌, ap}
use Rattle.dates.specs.Calls.{from_number}
use Rattle.dates.proofs.Days.Laws.{val_three}
use Rattle.dates.proofs.Date.from_bytes.Goals as goal

pub returns : goal.returns
returns c = c.from_number.ensures ∙ ap from_number (val_three _ _ _)
