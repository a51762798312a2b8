-- The faults, exactly: a pair is told to have a fault exactly when it has it; no pair has two; and a pair is well coded exactly when it has
-- none.
-- Assumes nothing.
use Rattle.std.specs.Prelude.{◌≡◌, refl, Bool, true, false, ℕ, ◌<◌, [], ◌∷◌, length, get_or, Result, Ok, Err}
use Rattle.std.proofs.Common.{ap, sym, subst, ◌∙◌, arith}
use Rattle.pairs.specs.Chart.{the_chart}
use Rattle.pairs.specs.Pairs.{pair_of, chars_of}
use Rattle.pairs.proofs.Pairs.Laws.{triple_is, fault_told, pair_cases, chars_some}
use Rattle.pairs.proofs.Pairs.Exact.{pair_sound, pair_three, pair_two, pair_one}
use Rattle.pairs.specs.Faults.{Has, Carries, WellCoded}
use Rattle.pairs.specs.declared.decode.Fault.{Fault}
use Rattle.pairs.specs.declared.decode.Pair.{Pair}
use Rattle.pairs.specs.declared.decode.Pair.TheVariants.{Three, Two, One}

-- the fault of a pair that is wrong
abbrev fault_or : Fault → Result Pair Fault → Fault
fault_or f (Ok (Three a b c)) = f
fault_or f (Ok (Two a b)) = f
fault_or f (Ok (One a)) = f
fault_or f (Err fault) = fault

same_fault : (f g : Fault) (p : Result Pair Fault) → p ≡ Err f → p ≡ Err g → f ≡ g
same_fault f g p e k = ap (fault_or f) (sym e ∙ k)

-- a pair that carries something is not wrong
good : (f : Fault) (p q : Result Pair Fault) → 0 < length (chars_of q) → p ≡ q → p ≡ Err f → ⊥
good f p q h e k = chars_some q h f (sym e ∙ k)

module _ (last : Bool) (x y : ℕ) where
  -- the fault that is told is one that the pair has; `fault_told` is the way back
  pub told_fault : (fault : Fault) → pair_of the_chart last x y ≡ Err fault → Has fault last x y
  told_fault fault e =
      pair_cases last x y
      (λ g has. subst (λ f. Has f last x y) (same_fault g fault (pair_of the_chart last x y) (fault_told last x y g has) e) has)
      (λ h k a b c is. absurd (good fault _ _ (omega arith) is e))
      (λ h k a b c l is. absurd (good fault _ _ (omega arith) is e))
      (λ f h i l is. absurd (good fault _ _ (omega arith) is e))

  -- exclusive: two faults of a pair are one
  pub one_fault : (f g : Fault) → Has f last x y → Has g last x y → f ≡ g
  one_fault f g h k = same_fault f g (pair_of the_chart last x y) (fault_told last x y f h) (fault_told last x y g k)

-- what a well coded pair carries is what is told of it
module _ (x y : ℕ) where
  by_bytes_lem : (last : Bool) (p : Result Pair Fault) (u v : ℕ) → u ∷ v ∷ [] ≡ x ∷ y ∷ [] → pair_of the_chart last u v ≡ p → pair_of the_chart last x y ≡ p
  by_bytes_lem last p u v e is =
      let eu : u ≡ x = ap (λ s. get_or s 0 0) e in
      let ev : v ≡ y = ap (λ s. get_or s 1 0) e in
      sym (λ i. pair_of the_chart last (eu i) (ev i)) ∙ is

  pub carried_told : (last : Bool) (p : Result Pair Fault) → Carries last x y p → (pair_of the_chart last x y ≡ p) × (0 < length (chars_of p))
  carried_told last (Ok (Three a b c)) h =
      let t = h.is_text_lem in
      (by_bytes_lem last (Ok (Three a b c)) _ _ (sym (triple_is _ _ _) ∙ h.form) (pair_three a b c last t.0 t.1.0 t.1.1.0), omega arith)
  carried_told true (Ok (Two a b)) h =
      let t = h.is_text_lem in
      (by_bytes_lem true (Ok (Two a b)) _ _ (sym (triple_is _ _ _) ∙ h.form) (pair_two a b t.0 t.1.0), omega arith)
  carried_told false (Ok (Two a b)) h = absurd (omega (arith, h.whole refl))
  carried_told true (Ok (One a)) h = (by_bytes_lem true (Ok (One a)) _ _ h.form (pair_one a h.is_text_lem.0), omega arith)
  carried_told false (Ok (One a)) h = absurd (omega (arith, h.whole refl))
  carried_told last (Err fault) h = absurd (omega (arith, ap length h.form))

-- complete: a pair of bytes is well coded exactly when it has no fault
module _ (last : Bool) (x y : ℕ) where
  pub coded_faultless : WellCoded last x y → (fault : Fault) → Has fault last x y → ⊥
  coded_faultless (p, carries) fault has =
      let t = carried_told x y last p carries in
      good fault (pair_of the_chart last x y) p t.1 t.0 (fault_told last x y fault has)

  pub faultless_coded : x < 256 → y < 256 → ((fault : Fault) → Has fault last x y → ⊥) → WellCoded last x y
  faultless_coded hx hy none =
      (pair_of the_chart last x y, pair_sound last x y hx hy (λ fault e. none fault (told_fault last x y fault e)))
