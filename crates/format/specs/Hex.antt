-- Hexadecimal digits in upper case: the digit of a number below 16, and the number that a character stands for.
-- Assumes nothing.
use Rattle.std.specs.Prelude.{ℕ, ◌+◌, ◌-◌, ltb}
use Rattle.format.specs.Choice.{pick, within}

-- 0 to 9, then A to F
abbrev pub hex_digit : ℕ → ℕ
hex_digit n = pick (ltb n 10) (48 + n) (55 + n)

-- 16 for any character that is no such digit
abbrev pub hex_value : ℕ → ℕ
hex_value c = pick (within 48 57 c) (c - 48) (pick (within 65 70 c) (c - 55) 16)
