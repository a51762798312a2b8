-- The chart turned round (document 01, C40): by a character's code its value, for every byte.
-- Assumes nothing.
pub mod Laws
use Rattle.std.specs.Prelude.{ℕ, zero, suc, List, [], ◌∷◌, ◌++◌}
use Rattle.format.specs.Choice.{pick}
use Rattle.pairs.specs.Chart.{value_of, in_chart}

-- a character of the chart has its value, and every other code the mark 128
abbrev pub entry_of : ℕ → ℕ
entry_of c = pick (in_chart c) (value_of c) 128

-- the entries of the codes below n, in order
unfoldable pub entries : ℕ → List ℕ
entries zero = []
entries (suc n) = entries n ++ (entry_of n ∷ [])

unfoldable pub turned : List ℕ
turned = entries 256
