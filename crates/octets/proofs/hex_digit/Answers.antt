-- `octets::hex_digit` meets its contract: four bits are what 16 leaves, and they are a figure or a letter.
-- Assumes nothing.
use native.Mathlib.Omega.{arith}
use mathlib.Core.Path.{ap, ◌∙◌}
use lib.Bits.{and_mask}
use Rattle.format.specs.Hex.{hex_digit}
use Rattle.format.proofs.Hex.Laws.{digit_figure, digit_letter}
use Rattle.octets.proofs.hex_digit.Goals as goal

pub returns-then-last-lt10 : goal.returns-then-last-lt10
returns-then-last-lt10 c = let n = c.args.n in digit_figure _ (omega arith) ∙ ap hex_digit (and_mask n 4)

pub returns : goal.returns
returns c = let n = c.args.n in digit_letter _ (omega arith) ∙ ap hex_digit (and_mask n 4)
