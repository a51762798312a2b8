-- `octets::threes` meets its contract: the quotient by parts.
-- Assumes nothing.
use native.Mathlib.Omega.{arith}
use mathlib.Core.Path.{◌≡◌, refl, ap, ◌∙◌}
use Prim.Native.Nat.{ℕ, ◌+◌, ◌*◌, ◌/◌, ◌^◌, ◌<◌}
use lib.Bits.{bit_and, and_mask, mask_lt}
use Rattle.format.specs.Quotient.{by_parts}
use Rattle.octets.proofs.threes.Goals as goal
use Rattle.octets.proofs.threes.Goals.{Start}

-- what is left for the low part, of a number of 64 bits and then of one of 33
abbrev rest : ℕ → ℕ
rest n = n / 4294967296 + bit_and n 4294967295

abbrev last : ℕ → ℕ
last n = n / 65536 + bit_and n 65535

rest_small : (n : ℕ) → n < 2 ^ 64 → rest n < 2 ^ 33
rest_small n h = omega (arith, mask_lt n 32)

last_small : (n : ℕ) → n < 2 ^ 33 → last n < 2 ^ 18
last_small n h = omega (arith, mask_lt n 16)

-- 3 leaves 1, which is taken once
once : (k b : ℕ) → k + b ≡ k * 1 + b
once k b = omega arith

fits : (c : Start) → c.args.n < 2 ^ 64
fits c = omega arith

-- the three parts make up the quotient: `refl` is that the multipliers and the shift of the code are right
pub returns : goal.returns
returns c =
    let n = c.args.n in
    by_parts 3 _ _ 1 (omega arith) refl 4294967296 65536 _ _ 1 refl refl n (rest n) (last (rest n))
    (ap (λ k. n / 4294967296 + k) (and_mask n 32) ∙ once _ _)
    (ap (λ k. rest n / 65536 + k) (and_mask (rest n) 16) ∙ once _ _)
    (omega (arith, last_small (rest n) (rest_small n (fits c))))
