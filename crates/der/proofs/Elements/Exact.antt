-- Reading an element is exact: complete and sound.
-- Assumes nothing.
use Rattle.std.specs.Prelude.{◌≡◌, refl, ℕ, suc, ◌+◌, ◌-◌, ◌≤◌, List, [], ◌∷◌, ◌++◌, Option, None, Result, Ok, Err, ltb, eqb, length, take, drop}
use Rattle.std.proofs.Common.{ap, ap₂, sym, subst, subst₂, ◌∙◌, arith, add-one, ltb-true, ltb-false, eq-eqb, eqb-true, append_assoc, length-append, length-drop, drop_at, take-add, length-take-le}
use Rattle.format.specs.Bytes.{Bytes}
use Rattle.format.specs.Choice.Laws.{by_test}
use Rattle.format.specs.Cut.{counted}
use Rattle.der.specs.Length.{Sized, form, read_length}
use Rattle.der.proofs.Lengths.Exact.{Taken, form_reads, read_is_form}
use Rattle.der.specs.Element.{element, lies, body_in, element_in}
use Rattle.der.specs.Element.Laws.{lies_same, body_not, body_is}
use Rattle.der.specs.declared.Fault.{Fault}
use Rattle.der.specs.declared.Length.{Length}
use Rattle.der.specs.declared.Body.{Body}

-- where the body of an element starts
abbrev pub start : List ℕ → ℕ
start body = length (form (length body)) + 1

-- complete: an element, followed by anything, is found with its body's places
pub element_found :
    (tag : ℕ) (body rest : List ℕ) →
    Sized (length body) →
    element_in tag (element tag body ++ rest) ≡ lies (start body) (start body + length body)
unfolding element_in
element_found tag body rest sized =
    let m = length body in
    let e : counted form body ++ rest ≡ form m ++ (body ++ rest) = append_assoc (form m) body rest in
    let room : length (counted form body ++ rest) ≡ length (form m) + (m + length rest) = ap length e ∙ simp length-append in
    simp (eq-eqb tag tag refl)
    (ap (λ r. body_in (length (counted form body ++ rest)) r) (ap read_length e ∙ form_reads m sized (body ++ rest))
    ∙ sym (body_is (length (counted form body ++ rest)) m (length (form m)) (omega arith)))

-- its body and what follows it stand there
pub element_body : (tag : ℕ) (body rest : List ℕ) → drop (start body) (element tag body ++ rest) ≡ body ++ rest
element_body tag body rest =
    let m = length body in
    ap (drop (start body)) (ap (λ t. tag ∷ t) (append_assoc (form m) body rest))
    ∙ drop_at (tag ∷ form m) (body ++ rest) (start body) (sym (add-one (length (form m))))

pub element_rest : (tag : ℕ) (body rest : List ℕ) → drop (start body + length body) (element tag body ++ rest) ≡ rest
element_rest tag body rest =
    drop_at (element tag body) rest (start body + length body) (ap suc (length-append (form (length body)) body) ∙ omega arith)

-- sound: what is found is an element, whole
pub record Found (tag : ℕ) (s : List ℕ) (from to : ℕ) : Type 0 where
  pub whole : take to s ≡ element tag (take (to - from) (drop from s))
  pub sized : Sized (to - from)
  pub inside : to ≤ length s
  pub order : from ≤ to

nothing : {from to : ℕ} {r : Option Body} → r ≡ None → r ≡ lies from to → ⊥
nothing e f = let z : ◌≡◌ {A = ℕ} 0 1 = cc in omega arith

-- where the length was read and the body is there
found : (x : ℕ) (t : List ℕ) (m w : ℕ) → Taken t m w → w + m ≤ length t → Found x (x ∷ t) (w + 1) (w + 1 + m)
found x t m w taken room =
    let to : w + 1 + m ≡ suc (w + m) = omega arith in
    let size : w + 1 + m - (w + 1) ≡ m = omega arith in
    let body : length (take m (drop w t)) ≡ m = length-take-le m (drop w t) (omega (arith, length-drop w t)) in
    let after : drop (w + 1) (x ∷ t) ≡ drop w t = ap (λ k. drop k (x ∷ t)) (add-one w) in
    record {
      whole =
          ap (λ k. take k (x ∷ t)) to
          ∙ ap (λ u. x ∷ u) (take-add w m t ∙ ap₂ (λ a b. a ++ b) (sym taken.front ∙ ap form (sym body)) refl)
          ∙ ap₂ (λ k u. element x (take k u)) (sym size) (sym after);
      sized = subst (λ k. Sized k) (sym size) taken.sized;
      inside = omega arith;
      order = omega arith;
    }

pub element_whole : (tag : ℕ) (s : List ℕ) → Bytes s → (from to : ℕ) → element_in tag s ≡ lies from to → Found tag s from to
unfolding element_in
element_whole tag [] bytes from to e = absurd (nothing {from = from} {to = to} refl e)
element_whole tag (x ∷ t) bytes from to e =
    by_test (eqb x tag)
    (λ h. read (eqb-true x tag h) (read_length t) refl (sym (simp h) ∙ e))
    (λ h. absurd (nothing {from = from} {to = to} refl (sym (simp h) ∙ e)))
  where
    read : x ≡ tag → (r : Result Length Fault) → read_length t ≡ r → body_in (length t) (read_length t) ≡ lies from to → Found tag (x ∷ t) from to
    read same (Ok l) f g =
        let m = l.size in
        let w = l.width in
        by_test (ltb (length t) (w + m))
        (λ h.
        absurd
        (nothing {from = from} {to = to} (ap (body_in (length t)) f ∙ sym (body_not (length t) m w (ltb-true (length t) (w + m) h))) g))
        (λ h.
        let room = ltb-false (length t) (w + m) h in
        let is_body : lies (w + 1) (w + 1 + m) ≡ lies from to = body_is (length t) m w room ∙ sym (ap (body_in (length t)) f) ∙ g in
        let places = lies_same is_body in
        subst (λ z. Found z (x ∷ t) from to) same
        (subst₂ (λ y z. Found x (x ∷ t) y z) places.0 places.1 (found x t m w (read_is_form t (λ i. bytes (suc i)) m w f) room)))
    read same (Err fault) f g = absurd (nothing {from = from} {to = to} (ap (body_in (length t)) f) g)
