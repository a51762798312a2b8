-- Which pairs of a text of so many characters are wrongly coded (document 02, Ticket 1: "the first byte of the item's first wrongly coded
-- pair, a last pair that does not fit the number of characters included"), and which is the first.
-- Assumes nothing.
use Rattle.std.specs.Prelude.{◌≡◌, ◌⊎◌, ℕ, ◌+◌, ◌-◌, ◌*◌, ◌/◌, ◌%◌, ◌<◌, ◌≤◌, List, ltb, length}
use Rattle.std.proofs.Common.{arith, ltb-true, ltb-false}
use Rattle.format.specs.Choice.Laws.{by_test}
use Rattle.pairs.specs.Pairs.{chars_of}
use Rattle.pairs.specs.declared.decode.Fault.{Fault}
use Rattle.c40.proofs.Decode.First.{FaultAt, last_pair}

-- a pair of a text of k characters is wrongly coded: it has a fault, or it is the last and does not carry as many characters as are left
abbrev pub Unfit : ℕ → List ℕ → ℕ → Type 0
Unfit k bytes i = (i + 2 ≡ length bytes) × (length (chars_of (last_pair bytes i)) ≡ k - i / 2 * 3 → ⊥)

abbrev pub WronglyCoded : ℕ → List ℕ → ℕ → Type 0
WronglyCoded k bytes i = ((fault : Fault) × FaultAt fault bytes i) ⊎ Unfit k bytes i

-- and it is the first one that is
pub record FirstWrong (k : ℕ) (bytes : List ℕ) (i : ℕ) : Type 0 where
  pub even : i % 2 ≡ 0
  pub inside : i + 2 ≤ length bytes
  pub here : WronglyCoded k bytes i
  pub before : (j : ℕ) → j < i → j % 2 ≡ 0 → WronglyCoded k bytes j → ⊥

-- there is one first
pub one_first : (k : ℕ) (bytes : List ℕ) (i j : ℕ) → FirstWrong k bytes i → FirstWrong k bytes j → i ≡ j
one_first k bytes i j f g =
    by_test (ltb i j)
    (λ e. absurd (g.before i (ltb-true i j e) f.even f.here))
    (λ e. by_test (ltb j i)
    (λ h. absurd (f.before j (ltb-true j i h) g.even g.here))
    (λ h. omega (arith, ltb-false i j e, ltb-false j i h)))
