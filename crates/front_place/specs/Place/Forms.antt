-- The items of the message and signature zones from which a seal goes on keep their rules.
-- Assumes nothing.
use Rattle.std.specs.Prelude.{◌≡◌, refl, ◌⊎◌, List, [], ◌∷◌, ◌++◌, ℕ, ◌+◌, ◌-◌, ◌≤◌, ◌<◌, ltb, eqb, length, drop, get_or}
use Rattle.std.proofs.Common.{sym, ap, ◌∙◌, subst, inl, inr, arith, ltb-true, ltb-false, eqb-true, length-append, get_or-take, get_or-drop, add-zero}
use Rattle.std.proofs.lemmas.Bool.{eqb-false}
use Rattle.std.proofs.Math.ListN.{get_or-append}
use Rattle.format.specs.Choice.Laws.{by_test}
use Rattle.der.specs.Length.{form}
use Rattle.der.proofs.Lengths.Exact.{form_short, form_some}
use Rattle.grammar.specs.Content.{Version, four}
use Rattle.grammar.specs.Legal.{Unused, SignatureSize}
use Rattle.rules.specs.Rules.{Here, Rule, Keeps, der_size}
use Rattle.front_message.specs.Message.Laws.{form_one, form_two, not_unused}
use Rattle.front_message.specs.Message.Languages.{Raw, Sig, Msg, Tagged}
use Rattle.front_message.specs.Message.Least.{value_cheapest, signature_range}
use Rattle.front_message.specs.Message.Steps.{msg_tag}
use Rattle.front_place.specs.Place.State.{Fits}
use Rattle.front_place.specs.Place.Kept.{part, Whole, front_here}

-- a byte with which a length may begin
abbrev Begin : ℕ → Type 0
Begin b = (b < 0x80) ⊎ ((0x80 < b) × (b < 0x85))

-- the first byte of a length's form, and how many bytes that announces
abbrev Announced : List ℕ → Type 0
Announced x = Begin (get_or x 0 0) × (length x ≡ 1 + (get_or x 0 0 - 0x80))

-- of lengths below 65,536
form_announced : (n : ℕ) → n < 65536 → Announced (form n)
form_announced n h =
    by_test (ltb n 128)
    (λ e.
    let l = ltb-true n 128 e in
    let a : Announced (n ∷ []) = (inl l, omega arith) in
    subst Announced (sym (form_short n l)) a)
    (λ e. by_test (ltb n 256)
    (λ f. subst Announced (sym (form_one n (ltb-false n 128 e) (ltb-true n 256 f))) (inr (omega arith, omega arith), refl))
    (λ f. subst Announced (sym (form_two n (ltb-false n 256 f) h)) (inr (omega arith, omega arith), refl)))

-- a length that may stand in a seal, and more
pub record Length (P : ℕ → Type 0) (t : List ℕ) : Type 0 where
  pub n : ℕ
  pub low : n < 65536
  pub good : P n
  pub rest : List ℕ
  pub is : form n ++ rest ≡ t

-- of a version 4 feature
pub tagged_length : (p : ℕ) (tags t : List ℕ) → Fits p (Tagged four tags) t → Length (λ n. Unit) t
tagged_length p tags t y =
    let g = y.0 in
    let all = (value_cheapest four tags g.n).all g.rest g.more in
    record {
      n = g.n;
      low = omega (arith, ap length g.is, length-append (form g.n) g.rest, y.1);
      good = tt;
      rest = g.rest;
      is = g.is;
    }

-- of a signature
pub sig_length : (t : List ℕ) → Sig t → Length SignatureSize t
sig_length t g =
    let r = signature_range (length g.sig) g.size in
    record { n = length g.sig; low = omega arith; good = g.size; rest = g.sig; is = g.is }

module _ (s : List ℕ) (p : ℕ) where
  -- the first byte of what goes on is the byte there
  first_is : (w : ℕ) → 1 ≤ w → Whole s p w → (x rest r : List ℕ) → 1 ≤ length x → x ++ rest ≡ part s p w ++ r → get_or x 0 0 ≡ get_or s p 0
  first_is w h whole x rest r some e =
      sym (get_or-append x rest 0 0 some)
      ∙ ap (λ (z : List ℕ). get_or z 0 0) e
      ∙ get_or-append (part s p w) r 0 0 (omega arith)
      ∙ get_or-take w (drop p s) 0 0 (omega arith)
      ∙ get_or-drop p s 0 0
      ∙ ap (λ (n : ℕ). get_or s n 0) (add-zero p)

  -- the first byte of a length
  pub begins_kept : (P : ℕ → Type 0) → Whole s p 1 → (r : List ℕ) → Length P (part s p 1 ++ r) → Keeps s p Rule.begins_length
  begins_kept P h r y =
      let f = form y.n in
      subst Begin (first_is 1 (omega arith) h f y.rest r (form_some y.n) y.is) (form_announced y.n y.low).0

  -- the whole length
  pub form_here :
      (P : ℕ → Type 0) →
      Whole s p (der_size s p) →
      (r : List ℕ) (y : Length P (part s p (der_size s p) ++ r)) →
      Here s p (form y.n)
  form_here P h r y =
      let f = form y.n in
      let b : get_or f 0 0 ≡ get_or s p 0 = first_is (der_size s p) (omega arith) h f y.rest r (form_some y.n) y.is in
      front_here s p (der_size s p) f y.rest r ((form_announced y.n y.low).1 ∙ ap (λ (n : ℕ). 1 + (n - 0x80)) b) h y.is

  -- the shortest form
  pub shortest_kept :
      (P : ℕ → Type 0) → Whole s p (der_size s p) → (r : List ℕ) → Length P (part s p (der_size s p) ++ r) → Keeps s p Rule.shortest
  shortest_kept P h r y = (y.n, omega (arith, y.low), form_here P h r y)

  -- a signature's
  pub size_kept :
      Whole s p (der_size s p) → (r : List ℕ) → Length SignatureSize (part s p (der_size s p) ++ r) → Keeps s p Rule.signature_size
  size_kept h r y = (y.n, y.good, form_here SignatureSize h r y)

  -- a tag
  pub tag_kept :
      (v : Version) (tags : List ℕ) →
      Unused 0xFF tags →
      Whole s p 1 →
      (r : List ℕ) →
      Msg v tags (part s p 1 ++ r) →
      Keeps s p (Rule.not_used_before tags)
  tag_kept v tags none h r m = go (part s p 1) h refl m
    where
      go : (x : List ℕ) → length x ≡ 1 → part s p 1 ≡ x → Msg v tags (x ++ r) → Unused (get_or s p 0) tags
      go [] l e m = absurd (omega arith)
      go (a ∷ b ∷ x) l e m = absurd (omega arith)
      go (a ∷ []) l e m =
          let same : a ≡ get_or s p 0 =
          sym (ap (λ (z : List ℕ). get_or z 0 0) e)
          ∙ get_or-take 1 (drop p s) 0 0 (omega arith)
          ∙ get_or-drop p s 0 0
          ∙ ap (λ (n : ℕ). get_or s n 0) (add-zero p) in
          subst (λ (n : ℕ). Unused n tags) same
          (by_test (eqb a 0xFF)
          (λ f. subst (λ (n : ℕ). Unused n tags) (sym (eqb-true a 0xFF f)) none)
          (λ f. not_unused a tags (msg_tag v tags a (eqb-false a 0xFF f) r m).0))

  -- no byte stands behind the end
  pub end_none : Whole s p 1 → (r : List ℕ) → Raw 0 (part s p 1 ++ r) → ⊥
  end_none h r y = omega (arith, y.0, length-append (part s p 1) r)
