-- The C40 bytes of characters that are not judged: for every byte, where the published form is one of text alone.
-- Assumes nothing.
pub mod Laws
use Rattle.std.specs.Prelude.{ℕ, ◌+◌, List, [], ◌∷◌, ◌++◌}
use Rattle.format.specs.BigEndian.{be}
use Rattle.pairs.specs.Chart.{value_of}
use Rattle.pairs.specs.Pairs.{triple, number}

-- full triples; two left over are completed with 0; one left over is FE and its code plus 1, as a number in two bytes
unfoldable pub coded : List ℕ → List ℕ
coded [] = []
coded (a ∷ []) = be 2 (number 0xFE (a + 1))
coded (a ∷ b ∷ []) = triple (value_of a) (value_of b) 0
coded (a ∷ b ∷ c ∷ t) = triple (value_of a) (value_of b) (value_of c) ++ coded t
