-- Whether every byte of a text is the filling, by its bytes: each is, or one is not.
-- Assumes nothing.
use Rattle.std.specs.Prelude.{ℕ, zero, suc, ◌<◌, ◌≡◌, Bool, true, false, cond, eqb, List, [], ◌∷◌, length}
use Rattle.std.specs.Bool.{MatchBool}
use Rattle.std.specs.List.{AllWithin, HoldsAt}
use borrow.Author.Tests.{eq-eqb, ne_eqb}
use Rattle.std.proofs.Common.{sym, ◌∙◌, refl, arith}
use Rattle.std.proofs.Math.Path.{ap}
use Rattle.case_file.specs.Fill.{all_are}

no_more : (b : Bool) → false ≡ cond b false false
no_more true = refl
no_more false = refl

module _ (filling : ℕ) where
  all_same : (t : List ℕ) → AllWithin (λ b. b ≡ filling) t 0 (length t) → true ≡ all_are filling t
  unfolding all_are
  all_same [] f = refl
  all_same (b ∷ t) f =
      let rest = all_same t (λ k d l h. f (suc k) d (omega arith) (omega arith)) in
      rest ∙ sym (ap (λ e. cond e (all_are filling t) false) (eq-eqb b filling (f 0 0 (omega arith) (omega arith))))

  one_other : (t : List ℕ) (k : ℕ) → k < length t → HoldsAt (λ b. b ≡ filling → ⊥) t k → false ≡ all_are filling t
  unfolding all_are
  one_other [] k h f = absurd (omega arith)
  one_other (b ∷ t) zero h f = sym (ap (λ e. cond e (all_are filling t) false) (ne_eqb b filling (f 0)))
  one_other (b ∷ t) (suc k) h f = no_more (eqb b filling) ∙ ap (λ a. cond (eqb b filling) a false) (one_other t k (omega arith) f)

  pub all_by_cases :
      (t : List ℕ) (r : Bool) →
      MatchBool r (AllWithin (λ b. b ≡ filling) t 0 (length t)) ((k : ℕ) × (k < length t) × HoldsAt (λ b. b ≡ filling → ⊥) t k) →
      r ≡ all_are filling t
  all_by_cases t true f = all_same t f
  all_by_cases t false (k, h, f) = one_other t k h f
