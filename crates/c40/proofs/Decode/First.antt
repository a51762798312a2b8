-- The first faulty pair decides, exactly: a fault is told at a place exactly when the pair there has it and no pair before has any.
-- Assumes nothing.
use Rattle.std.specs.Prelude.{◌≡◌, refl, Bool, true, false, ℕ, zero, suc, ◌+◌, ◌*◌, ◌/◌, ◌%◌, ◌<◌, ◌≤◌, List, [], ◌∷◌, eqb, length, get_or, Result, Err}
use Rattle.std.proofs.Common.{ap, sym, subst, ◌∙◌, arith, eq-eqb, ne_eqb, eqb-true, length-append}
use Rattle.std.proofs.lemmas.Bool.{eqb-false}
use Rattle.format.specs.Choice.Laws.{by_test}
use Rattle.pairs.specs.Chart.{the_chart}
use Rattle.pairs.specs.Pairs.{pair_of, chars_of}
use Rattle.pairs.proofs.Pairs.Laws.{by_pair, chars_some, fault_told, pair_full}
use Rattle.pairs.specs.Faults.{Has}
use Rattle.pairs.proofs.Faults.Exact.{told_fault}
use Rattle.pairs.specs.declared.decode.Fault.{Fault}
use Rattle.pairs.specs.declared.decode.Pair.{Pair}
use Rattle.c40.specs.Decode.{Decoded, text, wrong, ahead, follow, none, decode, text_of, wrong_at}
use Rattle.c40.proofs.Decode.Laws.{none_by_length, follow_good, ahead_text, wrong_text}

-- the pair that stands at a place has a fault; the last pair is the one that nothing follows
abbrev pub FaultAt : Fault → List ℕ → ℕ → Type 0
FaultAt fault s at = Has fault (eqb (at + 2) (length s)) (get_or s at 0) (get_or s (at + 1) 0)

-- what the last pair carries if it stands at this place
abbrev pub last_pair : List ℕ → ℕ → Result Pair Fault
last_pair s at = pair_of the_chart true (get_or s at 0) (get_or s (at + 1) 0)

-- this is the first pair that has a fault, and this is the fault
pub record First (s : List ℕ) (fault : Fault) (at : ℕ) : Type 0 where
  pub even : at % 2 ≡ 0
  pub inside : at + 2 ≤ length s
  pub here : FaultAt fault s at
  pub before : (i : ℕ) → i < at → i % 2 ≡ 0 → (g : Fault) → FaultAt g s i → ⊥

-- the pairs of the rest are those of the whole, one pair on
module _ (x y : ℕ) (s : List ℕ) (i : ℕ) where
  ends : eqb (suc (suc i) + 2) (suc (suc (length s))) ≡ eqb (i + 2) (length s)
  ends =
      by_test (eqb (i + 2) (length s))
      (λ e. eq-eqb (suc (suc i) + 2) (suc (suc (length s))) (omega (arith, eqb-true (i + 2) (length s) e)) ∙ sym e)
      (λ e. ne_eqb (suc (suc i) + 2) (suc (suc (length s))) (λ z. eqb-false (i + 2) (length s) e (omega arith)) ∙ sym e)

  code : get_or (x ∷ y ∷ s) (suc (suc i) + 1) 0 ≡ get_or s (i + 1) 0
  code = let e : suc (suc i) + 1 ≡ suc (suc (i + 1)) = omega arith in ap (λ k. get_or (x ∷ y ∷ s) k 0) e

  abbrev Both : Fault → Bool → ℕ → Type 0
  Both g last c = Has g last (get_or s i 0) c

  in_whole : (g : Fault) → FaultAt g s i → FaultAt g (x ∷ y ∷ s) (suc (suc i))
  in_whole g h =
      let last = subst (λ l. Both g l (get_or s (i + 1) 0)) (sym ends) h in
      subst (λ c. Both g (eqb (suc (suc i) + 2) (suc (suc (length s)))) c) (sym code) last

  in_rest : (g : Fault) → FaultAt g (x ∷ y ∷ s) (suc (suc i)) → FaultAt g s i
  in_rest g h = subst (λ l. Both g l (get_or s (i + 1) 0)) ends (subst (λ c. Both g (eqb (suc (suc i) + 2) (suc (suc (length s)))) c) code h)

-- the first pair is the last exactly where nothing follows it
first_last : (x y : ℕ) (s : List ℕ) → none s ≡ eqb 2 (length (x ∷ y ∷ s))
first_last x y s = none_by_length s (length (x ∷ y ∷ s)) 2 (omega arith) (omega arith)

-- what follows is wrong where all is, past a pair that carries characters
ahead_wrong : (p : List ℕ) (d : Decoded) (fault : Fault) (at : ℕ) → ahead p d ≡ wrong fault at → d ≡ wrong fault at
ahead_wrong p (text t) fault at e = absurd (wrong_text e refl)
ahead_wrong p (wrong f k) fault at e = e

text_is : {t u : List ℕ} → text t ≡ text u → t ≡ u
text_is e = ap text_of e

same_place : {f g : Fault} {i k : ℕ} → wrong f i ≡ wrong g k → i ≡ k
same_place e = ap wrong_at e

abbrev fault_or : Fault → Decoded → Fault
fault_or f (text t) = f
fault_or f (wrong fault at) = fault

same_fault : {f g : Fault} {i k : ℕ} → wrong f i ≡ wrong g k → f ≡ g
same_fault {f} e = ap (fault_or f) e

-- one pair and the rest: a fault of the pair, or else what is told of the rest
module _ (x y : ℕ) (s : List ℕ) where
  abbrev pair : Result Pair Fault
  pair = pair_of the_chart (none s) x y

  first_here : (fault : Fault) → pair ≡ Err fault → First (x ∷ y ∷ s) fault 0
  first_here fault e = record {
    even = refl;
    inside = omega arith;
    here = subst (λ l. Has fault l x y) (first_last x y s) (told_fault (none s) x y fault e);
    before = λ i h even g has. absurd (omega arith);
  }

  first_on : 0 < length (chars_of pair) → (fault : Fault) (at : ℕ) → First s fault at → First (x ∷ y ∷ s) fault (suc (suc at))
  first_on good fault at f = record {
    even = let e = f.even in omega arith;
    inside = let e = f.inside in omega arith;
    here = in_whole x y s at fault f.here;
    before = before;
  }
    where
      before : (i : ℕ) → i < suc (suc at) → i % 2 ≡ 0 → (g : Fault) → FaultAt g (x ∷ y ∷ s) i → ⊥
      before zero h even g has =
          chars_some pair good g (fault_told (none s) x y g (subst (λ l. Has g l x y) (sym (first_last x y s)) has))
      before (suc zero) h even g has = absurd (omega arith)
      before (suc (suc i)) h even g has = f.before i (omega arith) (omega arith) g (in_rest x y s i g has)

  rest_first : (fault : Fault) (at : ℕ) → First (x ∷ y ∷ s) fault (suc (suc at)) → First s fault at
  rest_first fault at f = record {
    even = let e = f.even in omega arith;
    inside = let e = f.inside in omega arith;
    here = in_rest x y s at fault f.here;
    before = λ i h even g has. f.before (suc (suc i)) (omega arith) (omega arith) g (in_whole x y s i g has);
  }

-- what is told is the first
pub told_first : (s : List ℕ) (at : ℕ) → length s % 2 ≡ 0 → (fault : Fault) (place : ℕ) → decode at s ≡ wrong fault place
    → (i : ℕ) × (place ≡ at + i) × First s fault i
unfolding decode
told_first [] at even fault place e = absurd (wrong_text e refl)
told_first (x ∷ []) at even fault place e = absurd (omega arith)
told_first (x ∷ y ∷ s) at even fault place e =
    let p = pair x y s in
    let d = decode (at + 2) s in
    let rest = told_first s (at + 2) (omega arith) fault place in
    by_pair p
    (λ good.
    let r = rest (ahead_wrong (chars_of p) d fault place (sym (follow_good at p d good) ∙ e)) in
    (suc (suc r.0), omega (arith, r.1), first_on x y s good fault r.0 r.2))
    (λ g bad.
    let is = sym (ap (λ q. follow at q d) bad) ∙ e in
    (0, sym (same_place is) ∙ omega arith, first_here x y s fault (bad ∙ ap Err (same_fault is))))

-- and the first is told
pub first_told : (s : List ℕ) (at : ℕ) (fault : Fault) (i : ℕ) → First s fault i → decode at s ≡ wrong fault (at + i)
unfolding decode
first_told [] at fault i f = absurd (omega (arith, f.inside))
first_told (x ∷ []) at fault i f = absurd (omega (arith, f.inside))
first_told (x ∷ y ∷ s) at fault zero f =
    ap (λ p. follow at p (decode (at + 2) s))
    (fault_told (none s) x y fault (subst (λ l. Has fault l x y) (sym (first_last x y s)) f.here))
    ∙ ap (wrong fault) (omega arith)
first_told (x ∷ y ∷ s) at fault (suc zero) f = absurd (omega (arith, f.even))
first_told (x ∷ y ∷ s) at fault (suc (suc i)) f =
    let p = pair x y s in
    let d = decode (at + 2) s in
    let rest = first_told s (at + 2) fault i (rest_first x y s fault i f) in
    let next : at + 2 + i ≡ at + suc (suc i) = omega arith in
    by_pair p
    (λ good. follow_good at p d good ∙ ap (ahead (chars_of p)) rest ∙ ap (wrong fault) next)
    (λ g bad.
    absurd
    (f.before 0 (omega arith) refl g (subst (λ l. Has g l x y) (first_last x y s) (told_fault (none s) x y g bad))))

-- where text is told, no pair has a fault
pub text_faultless : (s : List ℕ) (at : ℕ) (t : List ℕ) → decode at s ≡ text t
    → (i : ℕ) → i % 2 ≡ 0 → i + 2 ≤ length s → (g : Fault) → FaultAt g s i → ⊥
unfolding decode
text_faultless [] at t e i even inside g has = absurd (omega arith)
text_faultless (x ∷ []) at t e i even inside g has = absurd (omega arith)
text_faultless (x ∷ y ∷ s) at t e zero even inside g has =
    wrong_text
    (ap (λ p. follow at p (decode (at + 2) s)) (fault_told (none s) x y g (subst (λ l. Has g l x y) (sym (first_last x y s)) has)))
    e
text_faultless (x ∷ y ∷ s) at t e (suc zero) even inside g has = absurd (omega arith)
text_faultless (x ∷ y ∷ s) at t e (suc (suc i)) even inside g has =
    let p = pair x y s in
    let d = decode (at + 2) s in
    let rest = text_faultless s (at + 2) in
    by_pair p
    (λ good.
    let u = ahead_text (chars_of p) d t (sym (follow_good at p d good) ∙ e) in
    rest u.0 u.1 i (omega arith) (omega arith) g (in_rest x y s i g has))
    (λ f bad. wrong_text (ap (λ q. follow at q d) bad) e)

-- and the pairs before the last carry three characters each, and the last carries the rest
pub text_size : (s : List ℕ) (at i : ℕ) (t : List ℕ) → i % 2 ≡ 0 → i + 2 ≡ length s → decode at s ≡ text t
    → length t ≡ i / 2 * 3 + length (chars_of (last_pair s i))
unfolding decode
text_size [] at i t even end e = absurd (omega arith)
text_size (x ∷ []) at i t even end e = absurd (omega arith)
text_size (x ∷ y ∷ z ∷ s) at zero t even end e = absurd (omega arith)
text_size (x ∷ y ∷ s) at (suc zero) t even end e = absurd (omega arith)
text_size (x ∷ y ∷ []) at (suc (suc i)) t even end e = absurd (omega arith)
text_size (x ∷ y ∷ []) at zero t even end e =
    by_pair (pair_of the_chart true x y)
    (λ good.
    let p = pair_of the_chart true x y in
    let u = ahead_text (chars_of p) (text []) t (sym (follow_good at p (text []) good) ∙ e) in
    let none : u.0 ≡ [] = sym (text_is u.1) in
    omega (arith, ap length u.2, length-append (chars_of p) u.0, ap length none))
    (λ fault bad. absurd (wrong_text (ap (λ q. follow at q (text [])) bad) e))
text_size (x ∷ y ∷ z ∷ s) at (suc (suc i)) t even end e =
    let p = pair x y (z ∷ s) in
    let d = decode (at + 2) (z ∷ s) in
    let rest = text_size (z ∷ s) (at + 2) i in
    by_pair p
    (λ good.
    let u = ahead_text (chars_of p) d t (sym (follow_good at p d good) ∙ e) in
    let three : length (chars_of p) ≡ 3 = ap (λ q. length (chars_of q)) (pair_full false x y refl (chars_some p good)).2 in
    let same = ap (λ c. length (chars_of (pair_of the_chart true (get_or (z ∷ s) i 0) c))) (code x y (z ∷ s) i) in
    omega (arith, same, three, rest u.0 (omega arith) (omega arith) u.1, ap length u.2, length-append (chars_of p) u.0))
    (λ fault bad. absurd (wrong_text (ap (λ q. follow at q d) bad) e))
