-- `read` refuses pairs exactly by their faults (document 02, Ticket 1): a fault's number at a place is the answer exactly when the bytes
-- are neither too many nor odd in number, and the first pair that has a fault has this one and stands there.
-- Assumes nothing.
use Rattle.std.specs.Prelude.{◌≡◌, refl, ℕ, ◌+◌, ◌%◌, ◌≤◌, List, ltb, eqb, length}
use Rattle.std.proofs.Common.{ap, sym, subst, ◌∙◌, arith, ltb-true, ltb-false, eqb-true}
use Rattle.std.proofs.lemmas.Bool.{eqb-false}
use Rattle.format.specs.Choice.{pick}
use Rattle.format.specs.Choice.Laws.{by_test}
use Rattle.format.specs.Answers.{Outcome, refused}
use Rattle.pairs.specs.declared.decode.Fault.{Fault}
use Rattle.pairs.specs.declared.decode.Fault.TheVariants.{OutOfRange, Shift, Single}
use Rattle.c40.specs.Decode.{Decoded, text, wrong, decode}
use Rattle.c40.proofs.Decode.First.{First, told_first, first_told}
use Rattle.c40.specs.Calls.{fault_number, reading}
use Rattle.c40.proofs.Calls.Laws.{fault_some, reading_long, reading_odd, reading_wrong, reading_no_room, reading_done}

-- a fault's number is that of no other answer, and of no other fault
own : (fault : Fault) (n : ℕ) → fault_number fault ≡ n → (n ≡ 40 → ⊥) × (n ≡ 42 → ⊥) × (n ≡ 45 → ⊥)
own OutOfRange n e = ((λ z. omega arith), (λ z. omega arith), (λ z. omega arith))
own Shift n e = ((λ z. omega arith), (λ z. omega arith), (λ z. omega arith))
own Single n e = ((λ z. omega arith), (λ z. omega arith), (λ z. omega arith))

fault_back : ℕ → Fault
fault_back n = pick (eqb n 41) OutOfRange (pick (eqb n 46) Shift Single)

fault_back_lem : (fault : Fault) → fault_back (fault_number fault) ≡ fault
unfolding fault_back
fault_back_lem OutOfRange = refl
fault_back_lem Shift = refl
fault_back_lem Single = refl

pub fault_one : (f g : Fault) → fault_number f ≡ fault_number g → f ≡ g
fault_one f g e = sym (fault_back_lem f) ∙ ap fault_back e ∙ fault_back_lem g

module _ (s : List ℕ) (room : ℕ) (fault : Fault) (at : ℕ) where
  pub faulty_refused : length s ≤ 4096 → length s % 2 ≡ 0 → First s fault at → reading s room ≡ refused (fault_number fault) at
  faulty_refused size even first =
      let here : 0 + at ≡ at = omega arith in
      reading_wrong s room size (λ odd. omega arith) fault at (first_told s 0 fault at first ∙ ap (wrong fault) here)

  pub refused_faulty : reading s room ≡ refused (fault_number fault) at → (length s ≤ 4096) × (length s % 2 ≡ 0) × First s fault at
  refused_faulty e =
      by_test (ltb 4096 (length s))
      (λ long. absurd (other.2 (number (reading_long s room (ltb-true 4096 (length s) long)))))
      (λ size. by_test (eqb (length s % 2) 1)
      (λ odd. absurd (other.0 (number (reading_odd s room (ltb-false 4096 (length s) size) (eqb-true (length s % 2) 1 odd)))))
      (λ even. by (ltb-false 4096 (length s) size) (eqb-false (length s % 2) 1 even) (decode 0 s) refl))
    where
      other : (fault_number fault ≡ 40 → ⊥) × (fault_number fault ≡ 42 → ⊥) × (fault_number fault ≡ 45 → ⊥)
      other = own fault (fault_number fault) refl

      number : {o : Outcome} → reading s room ≡ o → fault_number fault ≡ o.number
      number f = ap (λ o. o.number) (sym e ∙ f)

      place : {o : Outcome} → reading s room ≡ o → at ≡ o.place
      place f = ap (λ o. o.place) (sym e ∙ f)

      by : length s ≤ 4096 → (length s % 2 ≡ 1 → ⊥) → (d : Decoded) → decode 0 s ≡ d
          → (length s ≤ 4096) × (length s % 2 ≡ 0) × First s fault at
      by size even (text t) f =
          by_test (ltb room (length t))
          (λ short. absurd (other.1 (number (reading_no_room s room size even t f (ltb-true room (length t) short)))))
          (λ fits. absurd (omega (arith, fault_some fault, number (reading_done s room size even t f (ltb-false room (length t) fits)))))
      by size even (wrong g p) f =
          let is = reading_wrong s room size even g p f in
          let two : length s % 2 ≡ 0 = omega (arith, even) in
          let first = told_first s 0 two g p f in
          let same : first.0 ≡ at = omega (arith, first.1, place is) in
          let here = subst (λ h. First s h first.0) (fault_one g fault (sym (number is))) first.2 in
          (size, two, subst (λ i. First s fault i) same here)
