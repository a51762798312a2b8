-- From an index into a byte string to the list from there on, and back. Laws alone: what stands at a place is `drop at s`.
-- Assumes nothing.
use Rattle.std.specs.Prelude.{◌≡◌, refl, ℕ, ◌+◌, ◌-◌, ◌<◌, ◌≤◌, List, [], ◌∷◌, ◌++◌, length, get_or, take, drop}
use Rattle.std.proofs.Common.{ap, sym, ◌∙◌, arith, add-zero, add-one, length-drop, drop_of_length-le, take_all, drop-cons, drop-drop, drop_at, get_or-drop}

module _ {A : Type 0} (s : List A) where
  -- what stands here
  pub at_place : (at : ℕ) (d : A) → at < length s → drop at s ≡ get_or s at d ∷ drop (at + 1) s
  at_place at d h = rw (add-one, drop-cons s at d)

  pub here : (at : ℕ) {x : A} {t : List A} (d : A) → drop at s ≡ x ∷ t → get_or s at d ≡ x
  here at {x} {t} d e = ap (get_or s at) refl ∙ sym (get_or-drop at s 0 d ∙ ap (λ n. get_or s n d) (add-zero at)) ∙ ap (λ l. get_or l 0 d) e

  -- nothing stands past the end
  pub past_end : (at : ℕ) → length s ≤ at → drop at s ≡ []
  past_end at h = drop_of_length-le s h

  -- how much is left
  pub left : (at : ℕ) {t : List A} → drop at s ≡ t → length t ≡ length s - at
  left at {t} e = ap length (sym e) ∙ length-drop at s

  -- the part from here to the end
  pub to_end : (at : ℕ) → take (length s - at) (drop at s) ≡ drop at s
  to_end at = take_all (length s - at) (drop at s) (omega (arith, length-drop at s))

  pub inside : (at : ℕ) {x : A} {t : List A} → drop at s ≡ x ∷ t → at < length s
  inside at {x} {t} e = omega (arith, left at e)

  -- past a part
  pub past : (at : ℕ) (p : List A) {t : List A} → drop at s ≡ p ++ t → drop (at + length p) s ≡ t
  past at p {t} e = sym (drop-drop (length p) at s) ∙ ap (drop (length p)) e ∙ drop_at p t (length p) refl

-- the first four
pub first_four : (t : List ℕ) → 4 ≤ length t → get_or t 0 0 ∷ get_or t 1 0 ∷ get_or t 2 0 ∷ get_or t 3 0 ∷ [] ≡ take 4 t
first_four [] h = absurd (omega arith)
first_four (a ∷ []) h = absurd (omega arith)
first_four (a ∷ b ∷ []) h = absurd (omega arith)
first_four (a ∷ b ∷ c ∷ []) h = absurd (omega arith)
first_four (a ∷ b ∷ c ∷ d ∷ t) h = refl
