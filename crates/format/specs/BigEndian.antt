-- Numbers in bytes, big-endian, over the width: `be k n` is the number n in k bytes, and `val s k` the number that the
-- first k bytes of s carry.
-- Assumes nothing.
pub mod Laws
use Rattle.std.specs.Prelude.{ℕ, zero, suc, ◌+◌, ◌*◌, ◌/◌, ◌%◌, List, [], ◌∷◌, ◌++◌, get_or}

unfoldable pub be : ℕ → ℕ → List ℕ
be zero n = []
be (suc k) n = be k (n / 256) ++ (n % 256 ∷ [])

unfoldable pub val : List ℕ → ℕ → ℕ
val s zero = 0
val s (suc k) = val s k * 256 + get_or s k 0
