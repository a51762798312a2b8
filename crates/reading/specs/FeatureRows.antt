-- The rows of so many features from a place on, as they are put into the table once the features were judged.
-- Assumes nothing.
pub mod Laws
use Rattle.std.specs.Prelude.{ℕ, zero, suc, List, [], ◌∷◌}
use Rattle.grammar.specs.Content.{Version}
use Rattle.causes.specs.declared.Item.TheVariants as item
use Rattle.verdict.specs.Items.{Way, is, not, next, pass, byte, plain_in}
use Rattle.read_items.specs.Meaning.{through}
use Rattle.verdict.specs.Judge.{Row, row}

-- so many rows, and the place after the last
unfoldable pub rows_at : ℕ → Version → ℕ → List ℕ → Way (List Row)
rows_at zero v at s = is [] at
rows_at (suc more) v at s =
    next item.Tag (byte at s (plain_in at))
    (λ x at'. pass (row v x at at' s)
    (λ r at. through (λ rows. r ∷ rows) (rows_at more v at s)))

-- the rows that are there, and that they are there
abbrev pub rows_read : Way (List Row) → List Row
rows_read (is rows end) = rows
rows_read (not why place) = []

abbrev pub AreRead : Way (List Row) → Type 0
AreRead (is rows end) = Unit
AreRead (not why place) = ⊥
