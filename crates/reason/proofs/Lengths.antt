-- A DER length, rule by rule as it is read.
-- Assumes nothing.
use Rattle.std.specs.Prelude.{◌≡◌, refl, ◌⊎◌, ℕ, ◌+◌, ◌-◌, ◌≤◌, ◌<◌, List, [], ◌∷◌, ◌++◌, Result as Read, Err, ltb, eqb, length, take, drop, get_or}
use Rattle.std.proofs.Common.{ap, sym, subst, ◌∙◌, inl, inr, ⊎_elim, arith, add-zero, ltb-true, ltb-false, eqb-true, length-drop, take-append-drop, get_or-drop}
use Rattle.std.proofs.lemmas.Bool.{eqb-false}
use Rattle.format.specs.Bytes.{All, Bytes}
use Rattle.format.specs.Bytes.Laws.{bytes_drop}
use Rattle.format.specs.BigEndian.{val}
use Rattle.format.specs.Choice.Laws.{by_test}
use Rattle.der.specs.declared.Length.{Length}
use Rattle.der.specs.declared.Fault.{Fault}
use Rattle.der.specs.declared.Fault.TheVariants as fault
use Rattle.der.specs.Length.{Sized, form, is, least, read_length}
use Rattle.der.proofs.Lengths.Laws.{length_none, length_short, length_bad, length_high, length_long, long_cut, long_loose, long_is}
use Rattle.der.proofs.Lengths.Exact.{form_reads, read_is_form}
use Rattle.rules.specs.Rules.{Here, Rule, Keeps, der_size}
use Rattle.rules.specs.Layout.{Item, der_rules, rules_of, At, named}
use Rattle.verdict.specs.Items.{why, der_of, der_length}
use Rattle.reason.specs.Judged.{item_size}
use Rattle.reason.proofs.Goes.{Goes, all_there, some_there, fault_at}

-- a length that is read
pub record Der (s : List ℕ) (at n : ℕ) : Type 0 where
  pub sized : Sized n
  pub here : Here s at (form n)
  pub kept : All (Keeps s at) der_rules

-- what is not the shortest is the form of no length
unformed : (s : List ℕ) (at : ℕ) → Err fault.NotShortest ≡ read_length (drop at s) → Keeps s at Rule.shortest → ⊥
unformed s at e k =
    let n = k.0 in
    let rest = drop (length (form n)) (drop at s) in
    let parts : drop at s ≡ form n ++ rest = sym (take-append-drop (length (form n)) (drop at s)) ∙ ap (λ u. u ++ rest) k.2 in
    let read : read_length (drop at s) ≡ is n (length (form n)) = ap read_length parts ∙ form_reads n k.1 rest in
    let z : ◌≡◌ {A = ℕ} 0 1 = cc in
    omega arith

-- 80 and 85 to FF begin none
no_first : (x : ℕ) → 0x80 ≤ x → (0x80 < x → x < 0x85 → ⊥) → (x < 0x80) ⊎ ((0x80 < x) × (x < 0x85)) → ⊥
no_first x h out k = ⊎_elim (λ a. omega arith) (λ a. out a.0 a.1) k

module _ {s : List ℕ} {i : Item} {at : ℕ} (bytes : Bytes s) (w : At s i at) (later : List Rule) (own : der_rules ++ later ≡ rules_of i)
    (size : 1 ≡ item_size (named i)) (Good : ℕ → ℕ → Type 0) (go : (n : ℕ) → Der s at n → Good n (at + length (form n))) where
  abbrev Result : Type 0
  Result = Goes s (why (named i)) Good (der_length at s)

  abbrev x : ℕ
  x = get_or s at 0

  abbrev u : List ℕ
  u = drop at s

  first_is : x ≡ get_or u 0 0
  first_is = sym (get_or-drop at s 0 0 ∙ ap (λ n. get_or s n 0) (add-zero at))

  told : (l : Read Length Fault) → l ≡ read_length u → Goes s (why (named i)) Good (der_of at l) → Result
  told l e g = subst (λ r. Goes s (why (named i)) Good (der_of at r)) e g

  -- a length that is read
  good : (n wide : ℕ) → is n wide ≡ read_length u → Keeps s at (Rule.there 1) → Keeps s at Rule.begins_length
      → Keeps s at Rule.rest_there → Result
  good n wide e a b c =
      let t = read_is_form u (bytes_drop at s bytes) n wide (sym e) in
      let here : Here s at (form n) = ap (λ k. take k u) t.size ∙ sym t.front in
      told (is n wide) e
      (subst (λ k. Good n (at + k)) t.size
      (go n (record { sized = t.sized; here = here; kept = (a, (b, (c, ((n, t.sized, here), tt)))) })))

  -- a first byte that begins none
  not_first : at + 1 ≤ length s → Err fault.FirstByte ≡ read_length u → (Keeps s at Rule.begins_length → ⊥) → Result
  not_first h e none =
      told (Err fault.FirstByte) e
      (fault_at w (Rule.there 1 ∷ []) Rule.begins_length (Rule.rest_there ∷ Rule.shortest ∷ later) own (h, tt) none at refl
      (all_there 1 at s h ∙ size))

  -- one that announces more bytes
  long : at + 1 ≤ length s → 0x80 < x → x < 0x85 → Result
  long h low high =
      let k = x - 0x80 in
      let t = drop 1 u in
      let left : length u ≡ length s - at = length-drop at s in
      let left1 : length t ≡ length u - 1 = length-drop 1 u in
      let read = length_long u x first_is (omega arith) low high in
      let begins : Keeps s at Rule.begins_length = inr (low, high) in
      by_test (ltb (length t) k)
      (λ a.
      let short = ltb-true (length t) k a in
      told (Err fault.Cut) (sym (long_cut k t short) ∙ read)
      (fault_at w (Rule.there 1 ∷ Rule.begins_length ∷ []) Rule.rest_there (Rule.shortest ∷ later) own (h, (begins, tt)) (λ r. omega arith)
      at refl (some_there (der_size s at) at s (omega arith))))
      (λ a.
      let there = ltb-false (length t) k a in
      let rest : Keeps s at Rule.rest_there = omega arith in
      by_test (ltb (val t k) (least k))
      (λ b.
      let e = sym (long_loose k t there (ltb-true (val t k) (least k) b)) ∙ read in
      told (Err fault.NotShortest) e
      (fault_at w (Rule.there 1 ∷ Rule.begins_length ∷ Rule.rest_there ∷ []) Rule.shortest later own (h, (begins, (rest, tt)))
      (unformed s at e) at refl (all_there (der_size s at) at s rest)))
      (λ b. good (val t k) (k + 1) (sym (long_is k t there (ltb-false (val t k) (least k) b)) ∙ read) h begins rest))

  pub der_goes : Result
  der_goes =
      by_test (ltb at (length s))
      (λ e.
      let h : at + 1 ≤ length s = omega (arith, ltb-true at (length s) e) in
      let full : 0 < length u = omega (arith, length-drop at s) in
      by_test (ltb x 0x80)
      (λ a.
      let low = ltb-true x 0x80 a in
      good x 1 (length_short u x first_is full low) h (inl low) (omega arith))
      (λ a. by_test (eqb x 0x80)
      (λ b.
      let is_80 = eqb-true x 0x80 b in
      not_first h (length_bad u x first_is full is_80) (no_first x (omega arith) (λ c d. omega arith)))
      (λ b. by_test (ltb x 0x85)
      (λ c. long h (omega (arith, ltb-false x 0x80 a, eqb-false x 0x80 b)) (ltb-true x 0x85 c))
      (λ c.
      let high = ltb-false x 0x85 c in
      not_first h (length_high u x first_is full high) (no_first x (omega arith) (λ c d. omega arith))))))
      (λ e.
      let out = ltb-false at (length s) e in
      told (Err fault.NoByte) (length_none u (omega (arith, length-drop at s)))
      (fault_at w [] (Rule.there 1) (Rule.begins_length ∷ Rule.rest_there ∷ Rule.shortest ∷ later) own tt (λ k. omega arith)
      at refl (some_there 1 at s (omega arith))))
