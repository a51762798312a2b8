-- The size of a seal, as a sum of its parts' sizes.
-- Assumes nothing.
pub mod Laws
use Rattle.std.specs.Prelude.{ℕ, ◌+◌, ◌*◌, ◌/◌, List, [], ◌∷◌, length}
use Rattle.der.specs.Length.{form}
use Rattle.grammar.specs.Content.{Version, three, four}
use Rattle.grammar.specs.Publish.{length_of}
use Rattle.rows.specs.declared.Row.{Row}

-- the features of the rows
unfoldable pub rows_size : Version → List Row → ℕ
rows_size v [] = 0
rows_size v (r ∷ rows) = 1 + length (length_of v r.size) + r.size + rows_size v rows

-- signer and reference, of so many characters
abbrev pub names_size : Version → ℕ → ℕ
names_size three text = 6
names_size four text = (text + 4) / 3 * 2

-- what is not features: header, FF, the signature's length and the signature
abbrev pub fixed_size : Version → ℕ → ℕ → ℕ
fixed_size v text signature = 12 + names_size v text + 1 + length (form signature) + signature

abbrev pub seal_size : Version → ℕ → List Row → ℕ → ℕ
seal_size v text rows signature = fixed_size v text signature + rows_size v rows
