-- The shortest form: by the tests that lead there, what it keeps, and that it undoes sign extension.
-- Assumes nothing.
use Rattle.std.specs.Prelude.{◌≡◌, refl, Bool, true, false, ℕ, zero, suc, ◌+◌, ◌-◌, ◌<◌, ◌≤◌, List, [], ◌∷◌, ◌++◌, ltb, eqb, length, get_or, drop, replicate}
use Rattle.std.proofs.Math.Path.{ap}
use Rattle.std.proofs.Common.{sym, subst, ◌∙◌, arith, ltb-true, ltb-false, lt-ltb, le-ltb, eqb-true, length-append, length-drop, take_all}
use Rattle.std.proofs.Math.Bool.{not}
use Rattle.std.proofs.lemmas.List.{length-replicate}
use Rattle.format.specs.Bytes.{Bytes}
use Rattle.format.specs.Bytes.Laws.{bytes_cons}
use Rattle.format.specs.Choice.{pick}
use Rattle.format.specs.Choice.Laws.{by_test}
use Rattle.format.specs.BigEndian.{be, val}
use Rattle.format.specs.BigEndian.Laws.{be_val}
use Rattle.format.specs.Places.{at_place}
use Rattle.der.specs.Content.{redundant, shortest, strict}
use Rattle.der.specs.Content.Laws.{shortest_drop, shortest_keep, strict_shortest, strict_one}
use Rattle.integers.specs.Integer.FirstByte.{val_low}

-- the one byte that says no more than this byte's top bit does
abbrev pub sign : ℕ → ℕ
sign y = pick (ltb y 0x80) 0 0xFF

pub sign_low : (y : ℕ) → y < 0x80 → sign y ≡ 0
sign_low y h = simp (lt-ltb y 0x80 h)

pub sign_high : (y : ℕ) → 0x80 ≤ y → sign y ≡ 0xFF
sign_high y h = simp (le-ltb y 0x80 h)

pub sign_sign : (y : ℕ) → sign (sign y) ≡ sign y
sign_sign y = by_test (ltb y 0x80) (λ e. simp e) (λ e. simp e)

-- a first byte is redundant exactly where it is the second's sign
pub redundant_low : (x y : ℕ) → y < 0x80 → redundant x y ≡ eqb x 0
redundant_low x y h = simp (lt-ltb y 0x80 h)

pub redundant_high : (x y : ℕ) → 0x80 ≤ y → redundant x y ≡ eqb x 0xFF
redundant_high x y h = simp (le-ltb y 0x80 h)

pub sign_redundant : (y : ℕ) → redundant (sign y) y ≡ true
sign_redundant y = by_test (ltb y 0x80) (λ e. simp e) (λ e. simp e)

pub redundant_is : (x y : ℕ) → redundant x y ≡ true → x ≡ sign y
redundant_is x y e =
    by_test (ltb y 0x80)
    (λ t. let h = ltb-true y 0x80 t in eqb-true x 0 (sym (redundant_low x y h) ∙ e) ∙ sym (sign_low y h))
    (λ t. let h = ltb-false y 0x80 t in eqb-true x 0xFF (sym (redundant_high x y h) ∙ e) ∙ sym (sign_high y h))

-- strict content, by the test
module _ (x y : ℕ) (s : List ℕ) where
  pub strict_keep : redundant x y ≡ false → strict (x ∷ y ∷ s) ≡ true
  unfolding strict
  strict_keep e = ap not e

  pub strict_not : redundant x y ≡ true → strict (x ∷ y ∷ s) ≡ false
  unfolding strict
  strict_not e = ap not e

-- what holds of strict content, and past a redundant byte, holds of all content with its shortest form
pub by_shortest :
    (C : List ℕ → List ℕ → Type 0) →
    C [] [] →
    ((s : List ℕ) → strict s ≡ true → C s s) →
    ((x y : ℕ) (s t : List ℕ) → redundant x y ≡ true → C (y ∷ s) t → C (x ∷ y ∷ s) t) →
    (s : List ℕ) →
    C s (shortest s)
unfolding shortest strict
by_shortest C none stop more [] = none
by_shortest C none stop more (x ∷ []) = stop (x ∷ []) refl
by_shortest C none stop more (x ∷ y ∷ s) =
    let ih = by_shortest C none stop more (y ∷ s) in
    by_test (redundant x y)
    (λ e. subst (C (x ∷ y ∷ s)) (sym (shortest_drop x y s e)) (more x y s (shortest (y ∷ s)) e ih))
    (λ e. subst (C (x ∷ y ∷ s)) (sym (shortest_keep x y s e)) (stop (x ∷ y ∷ s) (strict_keep x y s e)))

apart : {b : Bool} → b ≡ true → b ≡ false → ⊥
apart e f = let z : ◌≡◌ {A = ℕ} 0 1 = ap (λ b. pick b 0 1) (sym e ∙ f) in omega arith

pub shortest_is_strict : (s : List ℕ) → 0 < length s → strict (shortest s) ≡ true
shortest_is_strict =
    by_shortest (λ s t. 0 < length s → strict t ≡ true) (λ h. absurd (omega arith)) (λ s e h. e) (λ x y s t e ih h. ih (omega arith))

pub shortest_size : (s : List ℕ) → length (shortest s) ≤ length s
shortest_size = by_shortest (λ s t. length t ≤ length s) (omega arith) (λ s e. omega arith) (λ x y s t e ih. omega arith)

pub shortest_some : (s : List ℕ) → 0 < length s → 0 < length (shortest s)
shortest_some = by_shortest (λ s t. 0 < length s → 0 < length t) (λ h. h) (λ s e h. h) (λ x y s t e ih h. ih (omega arith))

pub bytes_shortest : (s : List ℕ) → Bytes s → Bytes (shortest s)
bytes_shortest = by_shortest (λ s t. Bytes s → Bytes t) (λ b. b) (λ s e b. b) (λ x y s t e ih b. ih (λ i. b (suc i)))

pub strict_some : (s : List ℕ) → strict s ≡ true → 0 < length s
unfolding strict
strict_some [] e = absurd (apart {b = false} e refl)
strict_some (x ∷ s) e = omega arith

-- the byte in front that the top bit allows goes
pub shortest_sign : (s : List ℕ) → 0 < length s → shortest (sign (get_or s 0 0) ∷ s) ≡ shortest s
shortest_sign [] h = absurd (omega arith)
shortest_sign (y ∷ s) h = shortest_drop (sign y) y s (sign_redundant y)

-- the shortest form from a place on
module _ (s : List ℕ) (i : ℕ) where
  two_at : i + 1 < length s → drop i s ≡ get_or s i 0 ∷ get_or s (i + 1) 0 ∷ drop (i + 1 + 1) s
  two_at h = at_place s i 0 (omega arith) ∙ ap (λ t. get_or s i 0 ∷ t) (at_place s (i + 1) 0 h)

  pub start_drop : i + 1 < length s → redundant (get_or s i 0) (get_or s (i + 1) 0) ≡ true → shortest (drop i s) ≡ shortest (drop (i + 1) s)
  start_drop h e =
      ap shortest (two_at h)
      ∙ shortest_drop (get_or s i 0) (get_or s (i + 1) 0) (drop (i + 1 + 1) s) e
      ∙ ap shortest (sym (at_place s (i + 1) 0 h))

  pub start_keep : i + 1 < length s → redundant (get_or s i 0) (get_or s (i + 1) 0) ≡ false → shortest (drop i s) ≡ drop i s
  start_keep h e =
      ap shortest (two_at h) ∙ shortest_keep (get_or s i 0) (get_or s (i + 1) 0) (drop (i + 1 + 1) s) e ∙ sym (two_at h)

  pub start_last : i + 1 ≡ length s → shortest (drop i s) ≡ drop i s
  start_last h =
      let one : length (drop i s) ≡ 1 = length-drop i s ∙ omega arith in
      strict_shortest (drop i s) (sym (strict_one (drop i s) one))

-- sign extension: as many bytes of 00, or of FF, in front
abbrev pub extended : ℕ → List ℕ → List ℕ
extended d s = replicate d (sign (get_or s 0 0)) ++ s

pub first_extended : (d : ℕ) (s : List ℕ) → sign (get_or (extended d s) 0 0) ≡ sign (get_or s 0 0)
first_extended zero s = refl
first_extended (suc d) s = sign_sign (get_or s 0 0)

pub one_extended : (d : ℕ) (s : List ℕ) → extended (suc d) s ≡ sign (get_or (extended d s) 0 0) ∷ extended d s
one_extended d s = ap (λ x. x ∷ extended d s) (sym (first_extended d s))

pub length_extended : (d : ℕ) (s : List ℕ) → length (extended d s) ≡ d + length s
length_extended d s = length-append (replicate d (sign (get_or s 0 0))) s ∙ ap (λ n. n + length s) (length-replicate d (sign (get_or s 0 0)))

pub shortest_extended : (d : ℕ) (s : List ℕ) → 0 < length s → shortest (extended d s) ≡ shortest s
shortest_extended zero s h = refl
shortest_extended (suc d) s h =
    let ih = shortest_extended d s h in
    ap shortest (one_extended d s) ∙ shortest_sign (extended d s) (omega (arith, length_extended d s)) ∙ ih

pub sign_byte : (y : ℕ) → sign y < 256
sign_byte y =
    by_test (ltb y 0x80) (λ e. omega (arith, sign_low y (ltb-true y 0x80 e))) (λ e. omega (arith, sign_high y (ltb-false y 0x80 e)))

pub bytes_extended : (d : ℕ) (s : List ℕ) → Bytes s → Bytes (extended d s)
bytes_extended zero s b = b
bytes_extended (suc d) s b = bytes_cons (sign (get_or s 0 0)) (extended d s) (sign_byte (get_or s 0 0)) (bytes_extended d s b)

-- content below 80: so is its shortest form, which carries the same number
low_next : (x y : ℕ) → redundant x y ≡ true → x < 0x80 → y < 0x80
low_next x y e h =
    by_test (ltb y 0x80) (λ t. ltb-true y 0x80 t)
    (λ t. absurd (omega (arith, redundant_is x y e, sign_high y (ltb-false y 0x80 t))))

pub shortest_low : (s : List ℕ) → get_or s 0 0 < 0x80 → get_or (shortest s) 0 0 < 0x80
shortest_low =
    by_shortest (λ s t. get_or s 0 0 < 0x80 → get_or t 0 0 < 0x80) (λ h. h) (λ s e h. h) (λ x y s t e ih h. ih (low_next x y e h))

pub val_shortest : (s : List ℕ) → get_or s 0 0 < 0x80 → val (shortest s) (length (shortest s)) ≡ val s (length s)
val_shortest =
    by_shortest (λ s t. get_or s 0 0 < 0x80 → val t (length t) ≡ val s (length s)) (λ h. refl) (λ s e h. refl)
    (λ x y s t e ih h.
    let low = low_next x y e h in
    ih low ∙ sym (ap (λ z. val (z ∷ y ∷ s) (length (z ∷ y ∷ s))) (redundant_is x y e ∙ sign_low y low) ∙ val_low (y ∷ s)))

-- strict content below 80 is the shortest form of its number in any width that holds it
low_extended : (d : ℕ) (s : List ℕ) → get_or s 0 0 < 0x80 → val (extended d s) (length (extended d s)) ≡ val s (length s)
low_extended zero s h = refl
low_extended (suc d) s h =
    let ih = low_extended d s h in
    ap (λ z. val (z ∷ extended d s) (length (z ∷ extended d s))) (sign_low (get_or s 0 0) h) ∙ val_low (extended d s) ∙ ih

pub low_back : (k : ℕ) (s : List ℕ) → Bytes s → strict s ≡ true → get_or s 0 0 < 0x80 → length s ≤ k → shortest (be k (val s (length s))) ≡ s
low_back k s bytes e h l =
    let t = extended (k - length s) s in
    let many : length t ≡ k = length_extended (k - length s) s ∙ omega arith in
    let is : val s (length s) ≡ val t k = sym (low_extended (k - length s) s h) ∙ ap (val t) many in
    ap (λ n. shortest (be k n)) is
    ∙ ap shortest (be_val k t (bytes_extended (k - length s) s bytes) (omega arith) ∙ take_all k t (omega arith))
    ∙ shortest_extended (k - length s) s (strict_some s e)
    ∙ strict_shortest s e
