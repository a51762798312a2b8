-- `content::bytes_of` meets its contract: each byte is the last of a quotient.
-- Assumes nothing.
use mathlib.Core.Path.{◌∙◌}
use mathlib.Core.List.{[], ◌∷◌}
use Rattle.integers.specs.Integer.FirstByte.{be_eight}
use Rattle.integers_write.proofs.content.bytes_of.Goals as goal

pub returns : goal.returns
returns c =
    (λ i.
    c.low.ensures i ∷ c.low-2.ensures i ∷ c.low-3.ensures i
    ∷ c.low-4.ensures i ∷ c.low-5.ensures i ∷ c.low-6.ensures i
    ∷ c.low-7.ensures i ∷ c.low-8.ensures i ∷ [])
    ∙ be_eight c.args.w
