-- Laws of tests and choices: a proof by the two answers of a test; what a test of two parts says of each, and back; a range, by its tests.
-- Assumes nothing.
use Rattle.std.specs.Prelude.{◌≡◌, refl, ◌⊎◌, Bool, true, false, ℕ, ◌<◌, ◌≤◌, leb}
use Rattle.std.proofs.Common.{ap, subst, ◌∙◌, inl, inr, le-leb, leb-true}
use Rattle.std.proofs.lemmas.Bool.{lt-leb}
use Rattle.format.specs.Choice.{pick, both, either, within}

pub by_test {ℓ} : {C : Type ℓ} (b : Bool) → (b ≡ true → C) → (b ≡ false → C) → C
by_test true f g = f refl
by_test false f g = g refl

pub not_true : false ≡ true → ⊥
not_true e = subst (λ b. pick b ⊥ Unit) e tt

pub both_true : (a b : Bool) → both a b ≡ true → (a ≡ true) × (b ≡ true)
both_true true b e = (refl, e)
both_true false b e = absurd (not_true e)

pub both_are : (a b : Bool) → a ≡ true → b ≡ true → both a b ≡ true
both_are a b e f = ap (λ x. both x b) e ∙ f

pub both_true_right : (b : Bool) → both b true ≡ b
both_true_right true = refl
both_true_right false = refl

pub either_true : (a b : Bool) → either a b ≡ true → (a ≡ true) ⊎ (b ≡ true)
either_true true b e = inl refl
either_true false b e = inr e

pub either_left : (a b : Bool) → a ≡ true → either a b ≡ true
either_left a b e = ap (λ x. either x b) e

pub either_right : (a b : Bool) → b ≡ true → either a b ≡ true
either_right true b e = refl
either_right false b e = e

-- the second way asks for more than the first
pub either_absorbed : (a b : Bool) → a ≡ either a (both b a)
either_absorbed true b = refl
either_absorbed false true = refl
either_absorbed false false = refl

-- a range, by its tests
pub within_both : (low high n : ℕ) → within low high n ≡ true → (low ≤ n) × (n ≤ high)
within_both low high n e =
    let t = both_true (leb low n) (leb n high) e in
    (leb-true low n t.0, leb-true n high t.1)

pub within_true : (low high n : ℕ) → low ≤ n → n ≤ high → within low high n ≡ true
within_true low high n h g = rw (le-leb low n h, le-leb n high g) refl

pub within_below : (low high n : ℕ) → n < low → within low high n ≡ false
within_below low high n h = rw (lt-leb low n h) refl

pub within_above : (low high n : ℕ) → low ≤ n → high < n → within low high n ≡ false
within_above low high n h g = rw (le-leb low n h, lt-leb n high g) refl

-- the range's last test
pub within_last : (low high n : ℕ) → low ≤ n → leb n high ≡ within low high n
within_last low high n h = rw (le-leb low n h) refl
