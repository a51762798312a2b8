-- `fits` meets its contract: one character left over is told by FE, any other pair by its number.
-- Assumes nothing.
use mathlib.Core.Path.{◌∙◌}
use Rattle.front_pairs.specs.Pairs.{fits}
use Rattle.front_pairs.specs.Pairs.Laws.{fits_values}
use Rattle.front_pairs.proofs.fits.Goals as goal

pub returns-in-One : goal.returns-in-One
unfolding fits
returns-in-One c = cc

pub returns-in_default : goal.returns-in_default
returns-in_default c = c.is_kept.ensures ∙ fits_values _ _ _ c.in_default.not-One
