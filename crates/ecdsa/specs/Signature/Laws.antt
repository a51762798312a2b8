-- Laws of the DER form: where a number's digits start, its size, the bytes of head and INTEGER.
-- Assumes nothing.
use Rattle.std.specs.Prelude.{◌≡◌, true, false, ℕ, suc, ◌+◌, ◌-◌, ◌%◌, ◌<◌, ◌≤◌, List, [], ◌∷◌, ◌++◌, ltb, eqb, length, get_or, drop}
use Rattle.std.proofs.Common.{ap, sym, ◌∙◌, arith, add-one, lt-ltb, le-ltb, ltb-true, ltb-false, eqb-true, length-drop}
use Rattle.format.specs.Choice.{pick}
use Rattle.format.specs.Choice.Laws.{by_test}
use Rattle.format.specs.BigEndian.{be}
use Rattle.format.specs.Places.{at_place, past_end}
use Rattle.der.specs.Length.{form}
use Rattle.der.proofs.Lengths.Exact.{form_short, form_long}
use Rattle.der.specs.Content.{shortest, integer}
use Rattle.der.specs.Content.Laws.{shortest_drop, shortest_keep, shortest_one, zero_redundant, zero_needed, byte_needed}
use Rattle.ecdsa.specs.Signature.{is_size, content_from}

-- the content, by the first digit's top bit
module _ (number : List ℕ) (k : ℕ) where
  pub content_low : get_or number k 0 < 0x80 → content_from number k ≡ drop k number
  content_low h = simp (lt-ltb (get_or number k 0) 0x80 h)

  pub content_high : 0x80 ≤ get_or number k 0 → content_from number k ≡ 0 ∷ drop k number
  content_high h = simp (le-ltb (get_or number k 0) 0x80 h)

  pub size_low : get_or number k 0 < 0x80 → length number - k ≡ length (content_from number k)
  size_low h = sym (ap length (content_low h) ∙ length-drop k number)

  pub size_high : 0x80 ≤ get_or number k 0 → length number - k + 1 ≡ length (content_from number k)
  size_high h = sym (ap length (content_high h) ∙ ap suc (length-drop k number) ∙ sym (add-one (length number - k)))

positive : (x : ℕ) → (x ≡ 0 → ⊥) → 0 < x
positive x e = omega arith

-- a digit that is not zero, or the last one, is kept
kept : (y : ℕ) (t : List ℕ) → (y ≡ 0 → ⊥) → shortest (0 ∷ y ∷ t) ≡ pick (ltb y 0x80) (y ∷ t) (0 ∷ y ∷ t)
kept y t h =
    by_test (ltb y 0x80)
    (λ e. simp e (shortest_drop 0 y t (zero_redundant y (ltb-true y 0x80 e)) ∙ alone t (ltb-true y 0x80 e)))
    (λ e. simp e (shortest_keep 0 y t (zero_needed y (ltb-false y 0x80 e))))
  where
    alone : (u : List ℕ) → y < 0x80 → shortest (y ∷ u) ≡ y ∷ u
    alone [] l = shortest_one y
    alone (z ∷ u) l = shortest_keep y z u (byte_needed y z (positive y h) l)

kept_last : (y : ℕ) → shortest (0 ∷ y ∷ []) ≡ pick (ltb y 0x80) (y ∷ []) (0 ∷ y ∷ [])
kept_last y =
    by_test (ltb y 0x80)
    (λ e. simp e (shortest_drop 0 y [] (zero_redundant y (ltb-true y 0x80 e)) ∙ shortest_one y))
    (λ e. simp e (shortest_keep 0 y [] (zero_needed y (ltb-false y 0x80 e))))

-- how far the leading zeros are passed
module _ (number : List ℕ) (k : ℕ) (h : k < length number) (sofar : shortest (0 ∷ number) ≡ shortest (0 ∷ drop k number)) where
  pub start_more : k + 1 < length number → get_or number k 0 ≡ 0 → shortest (0 ∷ number) ≡ shortest (0 ∷ drop (k + 1) number)
  start_more l z =
      sofar ∙ ap (λ t. shortest (0 ∷ t)) (at_place number k 0 h ∙ ap (λ y. y ∷ drop (k + 1) number) z)
      ∙ shortest_drop 0 0 (drop (k + 1) number) (zero_redundant 0 (omega arith))

  pub start_here : (get_or number k 0 ≡ 0 → ⊥) → shortest (0 ∷ number) ≡ content_from number k
  start_here z =
      let e = at_place number k 0 h in
      sofar ∙ ap (λ t. shortest (0 ∷ t)) e ∙ kept (get_or number k 0) (drop (k + 1) number) z
      ∙ ap (λ t. pick (ltb (get_or number k 0) 0x80) t (0 ∷ t)) (sym e)

  pub start_last : length number ≤ k + 1 → shortest (0 ∷ number) ≡ content_from number k
  start_last l =
      let e : drop k number ≡ get_or number k 0 ∷ [] = at_place number k 0 h ∙ ap (λ t. get_or number k 0 ∷ t) (past_end number (k + 1) l) in
      sofar ∙ ap (λ t. shortest (0 ∷ t)) e ∙ kept_last (get_or number k 0)
      ∙ ap (λ t. pick (ltb (get_or number k 0) 0x80) t (0 ∷ t)) (sym e)

-- a length below 256: one byte, or 81 and one byte
pub form_two : (n : ℕ) → 0x80 ≤ n → n < 0x100 → form n ≡ 0x81 ∷ n ∷ []
unfolding be
form_two n h l =
    let low : n % 256 ≡ n = omega arith in
    form_long 1 (omega arith) (omega arith) n h l ∙ ap (λ b. 0x81 ∷ b ∷ []) low

-- an INTEGER of fewer than 128 bytes
pub integer_is : (c : List ℕ) → length c < 0x80 → integer c ≡ 0x02 ∷ length c ∷ c
integer_is c h = ap (λ f. 0x02 ∷ (f ++ c)) (form_short (length c) h)

-- a head takes three bytes at most
pub head_most : (n : ℕ) → n < 0x100 → length (0x30 ∷ form n) ≤ 3
head_most n h =
    by_test (ltb n 0x80)
    (λ e. omega (arith, ap length (form_short n (ltb-true n 0x80 e))))
    (λ e. omega (arith, ap length (form_two n (ltb-false n 0x80 e) h)))

never : false ≡ true → ⊥
never e = let z : ◌≡◌ {A = ℕ} 0 1 = cc in omega arith

-- a size is at least 28 and at most 66
pub size_bounds : (n : ℕ) → is_size n ≡ true → (28 ≤ n) × (n ≤ 66)
unfolding is_size
size_bounds n e =
    by_test (eqb n 28) (λ h. let k = eqb-true n 28 h in (omega arith, omega arith))
    (λ a. by_test (eqb n 32) (λ h. let k = eqb-true n 32 h in (omega arith, omega arith))
    (λ b. by_test (eqb n 48) (λ h. let k = eqb-true n 48 h in (omega arith, omega arith))
    (λ c. by_test (eqb n 64) (λ h. let k = eqb-true n 64 h in (omega arith, omega arith))
    (λ d. by_test (eqb n 66) (λ h. let k = eqb-true n 66 h in (omega arith, omega arith))
    (λ f. absurd (never (simp (a, b, c, d, f) at e)))))))
