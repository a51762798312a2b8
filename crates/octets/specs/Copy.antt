-- Bytes copied into a buffer from a place on, all of them or none.
-- Assumes nothing.
pub mod Laws
use Rattle.std.specs.Prelude.{ℕ, ◌+◌, List, ltb, length}
use Rattle.format.specs.Choice.{pick}
use Rattle.format.specs.Buffer.{over}

unfoldable pub copied : List ℕ → List ℕ → ℕ → List ℕ
copied from out at = pick (ltb (length out) (at + length from)) out (over out at from)

unfoldable pub reached : List ℕ → ℕ → ℕ → ℕ
reached from room at = pick (ltb room (at + length from)) at (at + length from)
