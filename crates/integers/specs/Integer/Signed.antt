-- What the code's operations on signed numbers of 64 bits give: a number is its bits, read and written at each step.
-- Assumes nothing.
use Rattle.std.specs.Prelude.{◌≡◌, refl, Bool, true, false, ℕ, zero, suc, ◌-◌, ◌^◌, ◌<◌, ◌≤◌, T, ℤ, pos, negsuc, neg_ℤ, nat_abs, ◌+ℤ◌, ◌-ℤ◌}
use Rattle.std.proofs.Common.{ap, sym, subst, ◌∙◌, arith, ltb-true, Fits, SFits, to_z, of_z, to_z-of_z}
use Rattle.std.proofs.Math.IntN.{suc_ℤ, pred_ℤ, +ℤ_one, +ℤ_idl, -ℤ_one}
use Rattle.std.specs.Int.Signed.{mag, lt_z, non_neg}
use Rattle.std.specs.Int.{w64}
use Rattle.std.proofs.Math.Facts.{to_z_pos, Fits-of_z}
use Rattle.format.specs.Choice.{pick}
use Rattle.integers.specs.Integer.{word}

differ : false ≡ true → ⊥
differ e = let z : ◌≡◌ {A = ℕ} 0 1 = ap (λ b. pick b 1 0) e in omega arith

-- a negative number, one more, and the other sign: how far it lies below -1
abbrev pub up : ℤ → ℤ
up v = to_z w64 (of_z w64 v) +ℤ pos 1

abbrev pub below : ℤ → ℤ
below v = pos 0 -ℤ to_z w64 (of_z w64 (up v))

up_is : (v : ℤ) → SFits w64 v → up v ≡ suc_ℤ v
up_is v f = ap (λ z. z +ℤ pos 1) (to_z-of_z f) ∙ +ℤ_one v

suc_fits : (k : ℕ) → k < 2 ^ 63 → SFits w64 (suc_ℤ (negsuc k))
suc_fits zero h = record { sfits = omega arith }
suc_fits (suc k) h = record { sfits = omega arith }

neg_suc : (k : ℕ) → pos 0 -ℤ suc_ℤ (negsuc k) ≡ pos k
neg_suc zero = refl
neg_suc (suc k) = +ℤ_idl (pos (suc k))

-- the test of the sign, as the code makes it
abbrev pub negative : ℤ → Bool
negative v = lt_z (to_z w64 (of_z w64 v)) (pos 0)

not_negative : (n : ℕ) → SFits w64 (pos n) → negative (pos n) ≡ true → ⊥
not_negative n f e = omega (arith, ltb-true n 0 (ap (λ z. lt_z z (pos 0)) (sym (to_z-of_z f)) ∙ e))

module _ (v : ℤ) (f : SFits w64 v) (e : negative v ≡ true) where
  pub up_fits : SFits w64 (up v)
  up_fits = go v f e
    where
      go : (v : ℤ) → SFits w64 v → negative v ≡ true → SFits w64 (up v)
      go (pos n) f e = absurd (not_negative n f e)
      go (negsuc k) f e = subst (SFits w64) (sym (up_is (negsuc k) f)) (suc_fits k f.sfits)

  below_is : below v ≡ pos (mag v)
  below_is = ap (λ z. pos 0 -ℤ z) (to_z-of_z up_fits ∙ up_is v f) ∙ go v f e
    where
      go : (v : ℤ) → SFits w64 v → negative v ≡ true → pos 0 -ℤ suc_ℤ v ≡ pos (mag v)
      go (pos n) f e = absurd (not_negative n f e)
      go (negsuc k) f e = neg_suc k

  pub below_fits : SFits w64 (below v)
  below_fits = subst (SFits w64) (sym below_is) (record { sfits = f.sfits })

  below_back : to_z w64 (of_z w64 (below v)) ≡ pos (mag v)
  below_back = to_z-of_z below_fits ∙ below_is

  pub below_cast : T (non_neg (to_z w64 (of_z w64 (below v)))) × Fits w64 (nat_abs (to_z w64 (of_z w64 (below v))))
  below_cast = subst (λ z. T (non_neg z) × Fits w64 (nat_abs z)) (sym below_back) (tt, record { fits = omega (arith, f.sfits) })

  pub below_room : nat_abs (to_z w64 (of_z w64 (below v))) ≤ 18446744073709551615
  below_room = omega (arith, below_cast.1)

  pub below_word : 18446744073709551615 - nat_abs (to_z w64 (of_z w64 (below v))) ≡ word v
  below_word = ap (λ z. 18446744073709551615 - nat_abs z) below_back ∙ go v f e
    where
      go : (v : ℤ) → SFits w64 v → negative v ≡ true → 18446744073709551615 - mag v ≡ word v
      go (pos n) f e = absurd (not_negative n f e)
      go (negsuc k) f e = omega arith

-- a number's bits are its word
pub word_bits : (v : ℤ) → of_z w64 v ≡ word v
word_bits (pos n) = refl
word_bits (negsuc k) = refl

pub word_fits : (v : ℤ) → SFits w64 v → Fits w64 (word v)
word_fits v f = subst (Fits w64) (word_bits v) (Fits-of_z f)

-- a number from 0 on is its own bits
module _ (v : ℤ) (f : SFits w64 v) (e : negative v ≡ false) where
  from_zero : to_z w64 (of_z w64 v) ≡ pos (word v)
  from_zero = to_z-of_z f ∙ go v f e
    where
      go : (v : ℤ) → SFits w64 v → negative v ≡ false → v ≡ pos (word v)
      go (pos n) f e = refl
      go (negsuc k) f e = absurd (differ (sym e ∙ ap (λ z. lt_z z (pos 0)) (to_z-of_z f)))

  pub word_cast : T (non_neg (to_z w64 (of_z w64 v))) × Fits w64 (nat_abs (to_z w64 (of_z w64 v)))
  word_cast = subst (λ z. T (non_neg z) × Fits w64 (nat_abs z)) (sym from_zero) (tt, word_fits v f)

  pub word_is : nat_abs (to_z w64 (of_z w64 v)) ≡ word v
  word_is = ap nat_abs from_zero

-- a natural number of 63 bits with the other sign, one less
abbrev pub other : ℕ → ℤ
other n = pos 0 -ℤ to_z w64 n

abbrev pub under : ℕ → ℤ
under n = to_z w64 (of_z w64 (other n)) -ℤ pos 1

neg_fits : (n : ℕ) → n < 2 ^ 63 → SFits w64 (neg_ℤ (pos n))
neg_fits zero h = record { sfits = h }
neg_fits (suc n) h = record { sfits = omega arith }

neg_pred : (n : ℕ) → pred_ℤ (neg_ℤ (pos n)) ≡ negsuc n
neg_pred zero = refl
neg_pred (suc n) = refl

module _ (n : ℕ) (h : n < 2 ^ 63) where
  other_is : other n ≡ neg_ℤ (pos n)
  other_is = ap (λ z. pos 0 -ℤ z) (to_z_pos w64 h) ∙ +ℤ_idl (neg_ℤ (pos n))

  pub other_fits : SFits w64 (other n)
  other_fits = subst (SFits w64) (sym other_is) (neg_fits n h)

  under_is : under n ≡ negsuc n
  under_is = -ℤ_one (to_z w64 (of_z w64 (other n))) ∙ ap pred_ℤ (to_z-of_z other_fits ∙ other_is) ∙ neg_pred n

  pub under_fits : SFits w64 (under n)
  under_fits = subst (SFits w64) (sym under_is) (record { sfits = h })
