-- C40 text and its published form (document 01, C40; Doc 9303-13, 2.6.1 and 2.6.3).
-- Assumes nothing.
pub mod Laws
use Rattle.std.specs.Prelude.{◌≡◌, ℕ, ◌+◌, ◌*◌, ◌/◌, List, [], ◌∷◌, ◌++◌, length}
use Rattle.format.specs.Bytes.{All}
use Rattle.pairs.specs.Chart.{value_of, InChart}
use Rattle.pairs.specs.Pairs.{triple}

-- text is characters of the chart; text of k characters
abbrev pub Text : List ℕ → Type 0
Text t = All InChart t

abbrev pub TextOf : ℕ → List ℕ → Type 0
TextOf k t = (length t ≡ k) × Text t

-- Full triples; two left over are completed with 0; one left over is FE and its ASCII code plus 1.
unfoldable pub publish : List ℕ → List ℕ
publish [] = []
publish (a ∷ []) = 0xFE ∷ (a + 1) ∷ []
publish (a ∷ b ∷ []) = triple (value_of a) (value_of b) 0
publish (a ∷ b ∷ c ∷ t) = triple (value_of a) (value_of b) (value_of c) ++ publish t

-- k characters take 2 x ceil(k / 3) bytes
abbrev pub width : ℕ → ℕ
width k = 2 * ((k + 2) / 3)
