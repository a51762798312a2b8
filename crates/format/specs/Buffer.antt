-- What a lent buffer holds after a write: the bytes from a place on, and every other byte as it was.
-- Assumes nothing.
use Rattle.std.specs.Prelude.{ℕ, ◌+◌, List, ◌++◌, length, take, drop}

unfoldable pub over : List ℕ → ℕ → List ℕ → List ℕ
over out at bytes = take at out ++ bytes ++ drop (at + length bytes) out
