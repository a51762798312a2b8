-- Reading an element by the tests that lead there.
-- Assumes nothing.
use Rattle.std.specs.Prelude.{◌≡◌, refl, ℕ, ◌+◌, ◌-◌, ◌<◌, ◌≤◌, List, [], ◌∷◌, None, length, get_or, drop}
use Rattle.std.proofs.Math.Path.{ap, sym}
use Rattle.std.proofs.Common.{◌∙◌, arith, lt-ltb, le-ltb, eq-eqb, ne_eqb, length-drop, drop-cons}
use Rattle.der.specs.Length.{is, read_length}
use Rattle.der.specs.declared.Body.{Body}
use Rattle.der.specs.Element.{lies, body_in, element_in}

-- a body is told by its two places
pub lies_same : {a b c d : ℕ} → lies a b ≡ lies c d → (a ≡ c) × (b ≡ d)
lies_same {a} {b} {c} {d} e =
    let same : ◌≡◌ {A = Body} (record { start = a; end = b }) (record { start = c; end = d }) = cc in
    (ap (λ x. x.start) same, ap (λ x. x.end) same)

module _ (room size width : ℕ) where
  pub body_not : room < width + size → None ≡ body_in room (is size width)
  body_not h = simp (lt-ltb room (width + size) h)

  pub body_is : width + size ≤ room → lies (width + 1) (width + 1 + size) ≡ body_in room (is size width)
  body_is h = simp (le-ltb room (width + size) h)

pub element_none : (tag : ℕ) (s : List ℕ) → length s ≡ 0 → None ≡ element_in tag s
unfolding element_in
element_none tag [] h = refl
element_none tag (x ∷ t) h = absurd (omega arith)

module _ (tag : ℕ) (s : List ℕ) (h : 0 < length s) where
  pub element_other : (get_or s 0 0 ≡ tag → ⊥) → None ≡ element_in tag s
  unfolding element_in
  element_other e = sym (ap (element_in tag) (drop-cons s 0 0 h) ∙ simp (ne_eqb (get_or s 0 0) tag e))

  -- the body's places go by the length after the tag
  pub element_read : get_or s 0 0 ≡ tag → body_in (length s - 1) (read_length (drop 1 s)) ≡ element_in tag s
  unfolding element_in
  element_read e =
      ap (λ n. body_in n (read_length (drop 1 s))) (sym (length-drop 1 s))
      ∙ sym (ap (element_in tag) (drop-cons s 0 0 h) ∙ simp (eq-eqb (get_or s 0 0) tag e))
