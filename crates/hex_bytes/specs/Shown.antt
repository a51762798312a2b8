-- Bytes as people are shown them (document 02, Ticket 11): in hexadecimal, at most sixteen, and then how many more there are.
-- Assumes nothing.
use Rattle.std.specs.Prelude.{ℕ, ◌-◌, ◌/◌, ◌%◌, List, [], ◌∷◌, eqb, length, take}
use Rattle.format.specs.Choice.{pick}
use Rattle.format.specs.Hex.{hex_digit}
use Rattle.lines.specs.Line.{decimal_of, ascii, ◌then◌}

-- a space, and a byte in two digits, in upper case
abbrev pub spaced : ℕ → List ℕ
spaced b = 32 ∷ hex_digit (b / 16) ∷ hex_digit (b % 16) ∷ []

unfoldable pub hex_bytes : List ℕ → List ℕ
hex_bytes [] = []
hex_bytes (b ∷ s) = spaced b then hex_bytes s

-- how many bytes are shown at most
abbrev pub most : ℕ
most = 16

-- how many more there are, if there are any
abbrev pub and_more : ℕ → List ℕ
and_more n = pick (eqb n 0) [] (ascii " and " then decimal_of n then ascii " more")

-- what is shown of these bytes
abbrev pub shown : List ℕ → List ℕ
shown s = pick (eqb (length s) 0) (ascii " none") (hex_bytes (take most s) then and_more (length s - most))
