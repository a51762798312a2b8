-- Laws of the pairs of a header: what the code's tests say, case by case, and the place of a number by its second and
-- third value.
-- Assumes nothing.
pub mod Kept
pub mod Opens
pub mod Witness
use Rattle.std.specs.Prelude.{◌≡◌, true, false, ℕ, ◌+◌, ◌-◌, ◌*◌, ◌<◌, ◌≤◌, List, [], ◌∷◌, ltb, length, get_or, drop}
use Rattle.std.proofs.Math.Path.{refl}
use Rattle.std.proofs.Common.{ap, sym, ◌∙◌, arith}
use Rattle.std.proofs.Math.Nat.{div-div-eq-div-mul}
use borrow.Author.Tests.{ltb-true, ltb-false}
use Rattle.format.specs.Choice.{pick, both, either}
use Rattle.format.specs.Choice.Laws.{by_test, within_true, within_below, within_above}
use Rattle.format.specs.Places.{at_place, past_end}
use Rattle.pairs.specs.Pairs.{number, first, second, third}
use Rattle.front_pairs.specs.Pairs.{kept, kept_by, place, starts_in, ends_in, leads, fits, opens, pair_front}
use Rattle.front_pairs.specs.declared.Kind.{Kind}
use Rattle.front_pairs.specs.declared.Kind.TheVariants.{Country, Signer, Triple, Length, Two, One}

-- a kind of more than one character
abbrev pub is_one : Kind → ℕ
is_one Country = 0
is_one Signer = 0
is_one Triple = 0
is_one Length = 0
is_one Two = 0
is_one One = 1

pub several : (kind : Kind) → is_one kind ≡ 0 → kind ≡ One → ⊥
several kind e f = let z : ◌≡◌ {A = ℕ} 0 1 = sym e ∙ ap is_one f in omega arith

-- a number in range fits by its values, any other not
module _ (kind : Kind) (n : ℕ) where
  pub kept_none : n ≡ 0 → false ≡ kept_by kind n
  kept_none e = rw (within_below 1 64000 n (omega arith)) refl

  pub kept_large : 64000 < n → false ≡ kept_by kind n
  kept_large h = rw (within_above 1 64000 n (omega arith) h) refl

  pub kept_values : 0 < n → n ≤ 64000 → kept kind (first n) (second n) (third n) ≡ kept_by kind n
  kept_values h g = rw (within_true 1 64000 n (omega arith) g) refl

-- a pair of three values, or of two and 0, by its number; and its first byte, by the first and the last of its numbers
pub fits_values : (kind : Kind) (x y : ℕ) → (kind ≡ One → ⊥) → kept_by kind (number x y) ≡ fits kind x y
unfolding fits
fits_values Country x y h = refl
fits_values Signer x y h = refl
fits_values Triple x y h = refl
fits_values Length x y h = refl
fits_values Two x y h = refl
fits_values One x y h = absurd (h refl)

pub opens_values : (kind : Kind) (x : ℕ)
    → (kind ≡ One → ⊥)
    → let low = number x 0 in
    let high = number x 255 in
    either (both (leads kind (first low)) (starts_in kind (place low))) (both (leads kind (first high)) (ends_in kind (place high)))
    ≡ opens kind x
unfolding opens
opens_values Country x h = refl
opens_values Signer x h = refl
opens_values Triple x h = refl
opens_values Length x h = refl
opens_values Two x h = refl
opens_values One x h = absurd (h refl)

-- 00 begins no pair
pub opens_none : (kind : Kind) → false ≡ opens kind 0
unfolding opens
opens_none Country = refl
opens_none Signer = refl
opens_none Triple = refl
opens_none Length = refl
opens_none Two = refl
opens_none One = refl

-- the place of a number: its second value, forty times, and its third
pub place_values : (n : ℕ) → second n * 40 + third n ≡ place n
place_values n = omega (arith, div-div-eq-div-mul (n - 1) 40 40)

-- how many bytes at a place can be completed to a pair
module _ (kind : Kind) (s : List ℕ) (at : ℕ) where
  pub front_end : length s ≤ at → 0 ≡ pair_front kind (drop at s)
  unfolding pair_front
  front_end h = rw (past_end s at h) refl

  -- one byte is left, or more
  last : at + 1 ≡ length s → drop at s ≡ get_or s at 0 ∷ []
  last h = at_place s at 0 (omega arith) ∙ ap (λ t. get_or s at 0 ∷ t) (past_end s (at + 1) (omega arith))

  next : at + 1 < length s → drop at s ≡ get_or s at 0 ∷ get_or s (at + 1) 0 ∷ drop (at + 1 + 1) s
  next h = at_place s at 0 (omega arith) ∙ ap (λ t. get_or s at 0 ∷ t) (at_place s (at + 1) 0 h)

  pub front_whole : at + 1 < length s → fits kind (get_or s at 0) (get_or s (at + 1) 0) ≡ true → 2 ≡ pair_front kind (drop at s)
  unfolding pair_front
  front_whole h e = rw (next h, e) refl

  -- no whole pair: the first byte alone
  pub front_byte : at < length s
      → (at + 1 < length s → fits kind (get_or s at 0) (get_or s (at + 1) 0) ≡ false)
      → pick (opens kind (get_or s at 0)) 1 0 ≡ pair_front kind (drop at s)
  unfolding pair_front
  front_byte h off =
      by_test (ltb (at + 1) (length s))
      (λ t. let more = ltb-true (at + 1) (length s) t in rw (next more, off more) refl)
      (λ t. let none = ltb-false (at + 1) (length s) t in rw (last (omega arith)) refl)
