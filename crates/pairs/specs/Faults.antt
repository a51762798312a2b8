-- Which pairs are well coded (document 01, C40), and the three faults of the others (document 02, Ticket 1), each in the document's words
-- and apart from `pair_of`, which tells them. proofs/Faults/Exact.antt shows that every pair is well coded or has one fault, and no two.
-- Assumes nothing.
use Rattle.std.specs.Prelude.{◌≡◌, ◌⊎◌, Bool, false, ℕ, ◌+◌, ◌<◌, ◌≤◌, [], ◌∷◌, length, Result}
use Rattle.format.specs.Bytes.{All}
use Rattle.pairs.specs.Chart.{InChart}
use Rattle.pairs.specs.Pairs.{number, first, second, third, chars_of, form_of}
use Rattle.pairs.specs.declared.decode.Fault.{Fault}
use Rattle.pairs.specs.declared.decode.Fault.TheVariants as fault
use Rattle.pairs.specs.declared.decode.Pair.{Pair}

-- 41: a pair value of 0 or over 64,000 that does not begin with FE
abbrev pub OutOfRange : ℕ → ℕ → Type 0
OutOfRange x y = (x ≡ 0xFE → ⊥) × ((number x y ≡ 0) ⊎ (64000 < number x y))

-- a shift value where none may stand: 0, 1 or 2 as first or second value, 1 or 2 as third, 0 as third in a pair that is not the last
abbrev pub Misplaced : Bool → ℕ → ℕ → ℕ → Type 0
Misplaced last a b c = (a < 3) ⊎ ((b < 3) ⊎ ((c ≡ 1) ⊎ ((c ≡ 2) ⊎ ((c ≡ 0) × (last ≡ false)))))

-- 46: one of the three values that the number is made of
abbrev pub ShiftValue : Bool → ℕ → Type 0
ShiftValue last n = (0 < n) × (n ≤ 64000) × Misplaced last (first n) (second n) (third n)

-- 47: FE misplaced, or followed by what is the code plus 1 of no character of the chart
abbrev pub WrongSingle : Bool → ℕ → ℕ → Type 0
WrongSingle last x y = (x ≡ 0xFE) × ((last ≡ false) ⊎ ((c : ℕ) → InChart c → y ≡ c + 1 → ⊥))

-- the pair has this fault
abbrev pub Has : Fault → Bool → ℕ → ℕ → Type 0
Has fault.OutOfRange last x y = OutOfRange x y
Has fault.Shift last x y = ShiftValue last (number x y)
Has fault.Single last x y = WrongSingle last x y

-- a pair carries characters of the chart whose form it is, and three of them where it is not the last
pub record Carries (last : Bool) (x y : ℕ) (p : Result Pair Fault) : Type 0 where
  pub is_text_lem : All InChart (chars_of p)
  pub form : form_of p ≡ x ∷ y ∷ []
  pub whole : last ≡ false → length (chars_of p) ≡ 3

abbrev pub WellCoded : Bool → ℕ → ℕ → Type 0
WellCoded last x y = (p : Result Pair Fault) × Carries last x y p
