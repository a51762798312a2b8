-- `octets::tens` meets its contract: the quotient by parts.
-- Assumes nothing.
use native.Mathlib.Omega.{arith}
use mathlib.Core.Path.{refl, ap}
use Prim.Native.Nat.{ℕ, ◌+◌, ◌*◌, ◌/◌, ◌^◌, ◌<◌}
use lib.Bits.{bit_and, and_mask, mask_lt}
use Rattle.format.specs.Quotient.{by_parts}
use Rattle.octets.proofs.tens.Goals as goal
use Rattle.octets.proofs.tens.Goals.{Start}

-- what is left for the low part, of a number of 64 bits and then of one of 35
abbrev rest : ℕ → ℕ
rest n = n / 4294967296 * 6 + bit_and n 4294967295

abbrev last : ℕ → ℕ
last n = n / 65536 * 6 + bit_and n 65535

rest_small : (n : ℕ) → n < 2 ^ 64 → rest n < 2 ^ 35
rest_small n h = omega (arith, mask_lt n 32)

last_small : (n : ℕ) → n < 2 ^ 35 → last n < 2 ^ 22
last_small n h = omega (arith, mask_lt n 16)

fits : (c : Start) → c.args.n < 2 ^ 64
fits c = omega arith

-- the three parts make up the quotient: `refl` is that the multipliers and the shift of the code are right
pub returns : goal.returns
returns c =
    let n = c.args.n in
    by_parts 10 _ _ 6 (omega arith) refl 4294967296 65536 _ _ 6 refl refl n (rest n) (last (rest n))
    (ap (λ k. n / 4294967296 * 6 + k) (and_mask n 32))
    (ap (λ k. rest n / 65536 * 6 + k) (and_mask (rest n) 16))
    (omega (arith, last_small (rest n) (rest_small n (fits c))))
