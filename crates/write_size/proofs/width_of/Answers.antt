-- `width_of` meets its contract.
-- Assumes nothing.
use mathlib.Core.Path.{◌∙◌}
use Rattle.write_size.specs.SealSize.Laws.{width_three, width_four}
use Rattle.write_size.proofs.width_of.Goals as goal

pub returns-in-Three : goal.returns-in-Three
returns-in-Three c = width_three _ _ c.in-Three.is

pub returns : goal.returns
returns c =
    c.length_width.ensures ∙ width_four _ _ c.in_default.is c.requires
