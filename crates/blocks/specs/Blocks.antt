-- Bytes copied by blocks: a block over what stands there already, and the eight stores that are one.
-- Assumes nothing.
use Rattle.std.specs.Prelude.{◌≡◌, ℕ, suc, ◌+◌, ◌-◌, ◌<◌, ◌≤◌, List, [], ◌++◌, length, get_or, take, drop, set}
use Rattle.std.proofs.Common.{ap, ap₂, sym, ◌∙◌, arith, add-zero, append_assoc, append-nil, length-append, length-drop, length-take-le, take_all, take-suc, take-add, take_at, drop_at, drop-drop, get_or-drop}
use Rattle.std.proofs.Math.Seq.{drop-length}
use Rattle.format.specs.Buffer.{over}
use Rattle.format.proofs.Buffer.Laws.{over_none, over_start, length_over, over_over, over_set}
use Rattle.octets.specs.Copy.{copied}
use Rattle.octets.specs.Copy.Laws.{copied_all}

-- of two writes at one place the second stays, if it is not the shorter one
pub over_again :
    (out : List ℕ) (at : ℕ) (p q : List ℕ) →
    at + length q ≤ length out →
    length p ≤ length q →
    over (over out at p) at q ≡ over out at q
unfolding over
over_again out at p q h more =
    let n = at + length p in
    let k = length q - length p in
    let rest = drop n out in
    let head : length (take at out) ≡ at = length-take-le at out (omega arith) in
    let both : length (take at out ++ p) ≡ n = simp (length-append, head) in
    let front : take at (take at out ++ p ++ rest) ≡ take at out =
    rw append_assoc (take_at (take at out) (p ++ rest) at head) in
    let sum : at + length q ≡ n + k = omega arith in
    let back : drop (at + length q) (take at out ++ p ++ rest) ≡ drop (at + length q) out =
    ap (λ m. drop m (take at out ++ p ++ rest)) sum
    ∙ sym (drop-drop k n (take at out ++ p ++ rest))
    ∙ ap (drop k) (drop_at (take at out ++ p) rest n both)
    ∙ drop-drop k n out
    ∙ ap (λ m. drop m out) (sym sum) in
    ap₂ (λ a b. a ++ q ++ b) front back

module _ (from out : List ℕ) (at : ℕ) where
  -- k bytes from i on, where the first j stand: no gap between them, and no fewer than before
  pub block :
      (i j k : ℕ) →
      i ≤ j →
      j ≤ i + k →
      i + k ≤ length from →
      at + (i + k) ≤ length out →
      over (over out at (take j from)) (at + i) (take k (drop i from)) ≡ over out at (take (i + k) from)
  block i j k low high inside room =
      let p = take i from in
      let q = take (j - i) (drop i from) in
      let r = take k (drop i from) in
      let behind = length-drop i from in
      let many_p : length p ≡ i = length-take-le i from (omega arith) in
      let many_q : length q ≡ j - i = length-take-le (j - i) (drop i from) (omega arith) in
      let many_r : length r ≡ k = length-take-le k (drop i from) (omega arith) in
      let sum : j ≡ i + (j - i) = omega arith in
      let kept = length_over out at p (omega arith) in
      let two : over out at (take j from) ≡ over (over out at p) (at + i) q =
      ap (λ n. over out at (take n from)) sum
      ∙ ap (over out at) (take-add i (j - i) from)
      ∙ sym (over_over out at p q (omega arith))
      ∙ ap (λ n. over (over out at p) (at + n) q) many_p in
      ap (λ o. over o (at + i) r) two
      ∙ over_again (over out at p) (at + i) q r (omega arith) (omega arith)
      ∙ ap (λ n. over (over out at p) (at + n) r) (sym many_p)
      ∙ over_over out at p r (omega arith)
      ∙ ap (over out at) (sym (take-add i k from))

  -- a byte more of a block
  one :
      (i k : ℕ) →
      i + k < length from →
      at + k < length out →
      set (over out at (take k (drop i from))) (at + k) (get_or from (i + k) 0) ≡ over out at (take (suc k) (drop i from))
  one i k inside room =
      let t = drop i from in
      let many : length (take k t) ≡ k = length-take-le k t (omega (arith, length-drop i from)) in
      ap₂ (λ n x. set (over out at (take k t)) (at + n) x) (sym many) (sym (get_or-drop i from k 0))
      ∙ over_set out at (take k t) (get_or t k 0) (omega arith)
      ∙ ap (over out at) (sym (take-suc t k 0 (omega (arith, length-drop i from))))

  -- eight stores in a row
  pub eight :
      (i : ℕ) →
      i + 8 ≤ length from →
      at + 8 ≤ length out →
      set
      (set
      (set
      (set
      (set
      (set
      (set
      (set out at (get_or from i 0))
      (at + 1) (get_or from (i + 1) 0))
      (at + 2) (get_or from (i + 2) 0))
      (at + 3) (get_or from (i + 3) 0))
      (at + 4) (get_or from (i + 4) 0))
      (at + 5) (get_or from (i + 5) 0))
      (at + 6) (get_or from (i + 6) 0))
      (at + 7) (get_or from (i + 7) 0)
      ≡ over out at (take 8 (drop i from))
  eight i inside room =
      let one1 : set out at (get_or from i 0) ≡ over out at (take 1 (drop i from)) =
      ap (λ o. set o at (get_or from i 0)) (sym (over_none out at))
      ∙ ap₂ (λ a n. set (over out at []) a (get_or from n 0)) (sym (add-zero at)) (sym (add-zero i))
      ∙ one i 0 (omega arith) (omega arith) in
      let one2 = ap (λ o. set o (at + 1) (get_or from (i + 1) 0)) one1 ∙ one i 1 (omega arith) (omega arith) in
      let one3 = ap (λ o. set o (at + 2) (get_or from (i + 2) 0)) one2 ∙ one i 2 (omega arith) (omega arith) in
      let one4 = ap (λ o. set o (at + 3) (get_or from (i + 3) 0)) one3 ∙ one i 3 (omega arith) (omega arith) in
      let one5 = ap (λ o. set o (at + 4) (get_or from (i + 4) 0)) one4 ∙ one i 4 (omega arith) (omega arith) in
      let one6 = ap (λ o. set o (at + 5) (get_or from (i + 5) 0)) one5 ∙ one i 5 (omega arith) (omega arith) in
      let one7 = ap (λ o. set o (at + 6) (get_or from (i + 6) 0)) one6 ∙ one i 6 (omega arith) (omega arith) in
      ap (λ o. set o (at + 7) (get_or from (i + 7) 0)) one7 ∙ one i 7 (omega arith) (omega arith)

-- eight bytes, and eight more
pub sixteen :
    (from out : List ℕ) (at i : ℕ) →
    i + 16 ≤ length from →
    at + 16 ≤ length out →
    over (over out at (take 8 (drop i from))) (at + 8) (take 8 (drop (i + 8) from)) ≡ over out at (take 16 (drop i from))
sixteen from out at i inside room =
    ap (λ t. over (over out at (take 8 (drop i from))) (at + 8) (take 8 t)) (sym (drop-drop 8 i from))
    ∙ block (drop i from) out at 8 8 8 (omega arith) (omega arith) (omega (arith, length-drop i from)) (omega arith)

-- bytes copied to the start of what lies from a place on are a write at that place
pub part :
    (from out : List ℕ) (at : ℕ) →
    at + length from ≤ length out →
    take at out ++ (copied from (take (length out - at) (drop at out)) 0 ++ drop (length out - at) (drop at out)) ≡ over out at from
unfolding over
part from out at room =
    let m = length out - at in
    let behind : take m (drop at out) ≡ drop at out = take_all m (drop at out) (omega (arith, length-drop at out)) in
    let end : drop m (drop at out) ≡ [] = ap (λ n. drop n (drop at out)) (sym (length-drop at out)) ∙ drop-length (drop at out) in
    let front : copied from (drop at out) 0 ≡ from ++ drop (at + length from) out =
    sym (copied_all from (drop at out) 0 (omega (arith, length-drop at out)))
    ∙ over_start (drop at out) from
    ∙ ap (λ t. from ++ t) (drop-drop (length from) at out) in
    ap₂ (λ t e. take at out ++ (copied from t 0 ++ e)) behind end
    ∙ ap (λ t. take at out ++ t) (append-nil (copied from (drop at out) 0) ∙ front)
    ∙ sym (append_assoc (take at out) from (drop (at + length from) out))
