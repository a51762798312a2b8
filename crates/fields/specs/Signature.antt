-- The length of a raw signature, which reader and writer test alike (document 01, Sizes).
-- Assumes nothing.
use Rattle.std.specs.Prelude.{Bool, ℕ, eqb}
use Rattle.format.specs.Choice.{either}

-- raw length 2n for n of 28, 32, 48, 64 or 66
abbrev pub is_signature : ℕ → Bool
is_signature n = either (eqb n 56) (either (eqb n 64) (either (eqb n 96) (either (eqb n 128) (eqb n 132))))
