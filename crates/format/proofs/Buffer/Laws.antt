-- Laws of writes: nothing written, a write at the start, one write after another, a single store.
-- Assumes nothing.
use Rattle.std.specs.Prelude.{◌≡◌, refl, ℕ, ◌+◌, ◌<◌, ◌≤◌, List, [], ◌∷◌, ◌++◌, length, take, drop, set}
use Rattle.std.proofs.Common.{ap, ap₂, sym, ◌∙◌, arith, add-zero, zero-add, add-one, append_assoc, append-nil, length-append, length-take, length-drop, take-append-drop, take_at, drop-drop, drop_at}
use Rattle.std.proofs.lemmas.List.{set_split}
use Rattle.format.specs.Buffer.{over}

pub over_none : (out : List ℕ) (at : ℕ) → over out at [] ≡ out
unfolding over
over_none out at = simp (append-nil, add-zero) (take-append-drop at out)

pub over_start : (out bytes : List ℕ) → over out 0 bytes ≡ bytes ++ drop (length bytes) out
unfolding over
over_start out bytes = simp zero-add

pub length_over : (out : List ℕ) (at : ℕ) (bytes : List ℕ) → at + length bytes ≤ length out → length (over out at bytes) ≡ length out
unfolding over
length_over out at bytes h = simp (length-append, length-take, length-drop) (omega arith)

-- a write that starts where another ends is one write of both
pub over_over :
    (out : List ℕ) (at : ℕ) (p q : List ℕ) →
    at + length p ≤ length out →
    over (over out at p) (at + length p) q ≡ over out at (p ++ q)
unfolding over
over_over out at p q h =
    let n = at + length p in
    let rest = drop n out in
    let head : length (take at out ++ p) ≡ n = simp (length-append, length-take) (omega arith) in
    let front : take n (take at out ++ p ++ rest) ≡ take at out ++ p = take_at (take at out ++ p) rest n head in
    let back : drop (n + length q) (take at out ++ p ++ rest) ≡ drop (n + length q) out =
    sym (drop-drop (length q) n (take at out ++ p ++ rest))
    ∙ ap (drop (length q)) (drop_at (take at out ++ p) rest n head)
    ∙ drop-drop (length q) n out in
    let sum : n + length q ≡ at + length (p ++ q) = simp length-append (omega arith) in
    ap₂ (λ a b. a ++ q ++ b) front (back ∙ ap (λ k. drop k out) sum)
    ∙ ap (λ a. a ++ drop (at + length (p ++ q)) out) (append_assoc (take at out) p q)

-- a store is a write of one byte
pub set_over : (out : List ℕ) (at x : ℕ) → at < length out → set out at x ≡ over out at (x ∷ [])
unfolding over
set_over out at x h = simp (set_split, add-one, append_assoc)

-- a store where a write ends makes it longer by one byte
pub over_set :
    (out : List ℕ) (at : ℕ) (p : List ℕ) (x : ℕ) →
    at + length p < length out →
    set (over out at p) (at + length p) x ≡ over out at (p ++ (x ∷ []))
over_set out at p x h =
    set_over (over out at p) (at + length p) x (omega (arith, length_over out at p (omega arith)))
    ∙ over_over out at p (x ∷ []) (omega arith)

-- two stores in a row, three, and four
pub over_two : (out : List ℕ) (at x y : ℕ) → at + 2 ≤ length out → set (set out at x) (at + 1) y ≡ over out at (x ∷ y ∷ [])
over_two out at x y h = ap (λ o. set o (at + 1) y) (set_over out at x (omega arith)) ∙ over_set out at (x ∷ []) y (omega arith)

pub over_three :
    (out : List ℕ) (at x y z : ℕ) →
    at + 3 ≤ length out →
    set (set (set out at x) (at + 1) y) (at + 2) z ≡ over out at (x ∷ y ∷ z ∷ [])
over_three out at x y z h = ap (λ o. set o (at + 2) z) (over_two out at x y (omega arith)) ∙ over_set out at (x ∷ y ∷ []) z (omega arith)

pub over_four :
    (out : List ℕ) (at w x y z : ℕ) →
    at + 4 ≤ length out →
    set (set (set (set out at w) (at + 1) x) (at + 2) y) (at + 3) z ≡ over out at (w ∷ x ∷ y ∷ z ∷ [])
over_four out at w x y z h =
    ap (λ o. set o (at + 3) z) (over_three out at w x y (omega arith)) ∙ over_set out at (w ∷ x ∷ y ∷ []) z (omega arith)

-- Writes one after another from the start: these bytes stand there so far, up to a place, and the rest is as it was.
pub record Held (entry out : List ℕ) (at : ℕ) (before : List ℕ) : Type 0 where
  pub many : length before ≡ at
  pub is : out ≡ over entry 0 before

pub held_start : (out : List ℕ) → Held out out 0 []
held_start out = record { many = refl; is = sym (over_none out 0) }

module _ (entry out : List ℕ) (at : ℕ) (before : List ℕ) (held : Held entry out at before) where
  pub held_length : at ≤ length entry → length out ≡ length entry
  held_length h = ap length held.is ∙ length_over entry 0 before (omega (arith, held.many))

  pub held_more :
      (p after : List ℕ) (to : ℕ) →
      after ≡ over out at p →
      at + length p ≡ to →
      to ≤ length entry →
      Held entry after to (before ++ p)
  held_more p after to e f h = record {
    many = length-append before p ∙ omega (arith, held.many);
    is =
        e ∙ ap₂ (λ o n. over o n p) held.is (sym held.many ∙ sym (zero-add (length before)))
        ∙ over_over entry 0 before p (omega (arith, held.many));
  }
