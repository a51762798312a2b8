-- What the law of a part gives, and the ways to put parts together that keep it, each proved once.
-- Assumes nothing.
use Rattle.std.specs.Prelude.{◌≡◌, refl, ℕ, ◌^◌, ◌<◌, List, [], ◌∷◌, ◌++◌, length, take, drop}
use Rattle.std.proofs.Common.{ap, sym, subst, ◌∙◌, le_of_eq, append_assoc, append-nil, take_at, drop_at}
use Rattle.format.specs.Bytes.{All}
use Rattle.format.specs.BigEndian.{be, val}
use Rattle.format.specs.BigEndian.Laws.{length_be, val_be, val_append}
use Rattle.format.specs.Cut.{Cut, counted, each, NotFrom}

head_of : {x y : ℕ} {s t : List ℕ} → x ∷ s ≡ y ∷ t → x ≡ y
head_of e = cc

tail_of_lem : {x y : ℕ} {s t : List ℕ} → x ∷ s ≡ y ∷ t → s ≡ t
tail_of_lem e = cc

module _ {A : Type 0} (Legal : A → Type 0) (publish : A → List ℕ) (cut : Cut Legal publish) where
  -- a byte string has one reading
  pub one_reading : (a b : A) → Legal a → Legal b → publish a ≡ publish b → a ≡ b
  one_reading a b la lb e = (cut a b [] [] la lb (append-nil (publish a) ∙ e ∙ sym (append-nil (publish b)))).0

  -- no published form is the front part of another
  pub no_front : (a b : A) (t : List ℕ) → Legal a → Legal b → publish a ++ t ≡ publish b → (a ≡ b) × (t ≡ [])
  no_front a b t la lb e = cut a b t [] la lb (e ∙ sym (append-nil (publish b)))

  -- a part seen through a map with a way back
  pub cut_through :
      {B : Type 0} (LegalB : B → Type 0) (to : B → A) (back : A → B) →
      ((b : B) → LegalB b → Legal (to b)) →
      ((b : B) → LegalB b → back (to b) ≡ b) →
      Cut LegalB (λ b. publish (to b))
  cut_through LegalB to back legal way a b t u la lb e =
      let c = cut (to a) (to b) t u (legal a la) (legal b lb) e in
      (sym (way a la) ∙ ap back c.0 ∙ way b lb, c.1)

  -- two parts one after the other; the second's rule and form may go by the first's value
  pub cut_then :
      {B : Type 0} (LegalB : A → B → Type 0) (publish_b : A → B → List ℕ) →
      ((a : A) → Legal a → Cut (LegalB a) (publish_b a)) →
      Cut {A = A × B} (λ p. Legal p.0 × LegalB p.0 p.1) (λ p. publish p.0 ++ publish_b p.0 p.1)
  cut_then LegalB publish_b cut_b p q t u lp lq e =
      let c = cut p.0 q.0 (publish_b p.0 p.1 ++ t) (publish_b q.0 q.1 ++ u) lp.0 lq.0 (simp append_assoc at e) in
      let same : publish_b p.0 p.1 ++ t ≡ publish_b p.0 q.1 ++ u = c.1 ∙ ap (λ a. publish_b a q.1 ++ u) (sym c.0) in
      let d = cut_b p.0 lp.0 p.1 q.1 t u lp.1 (subst (λ a. LegalB a q.1) (sym c.0) lq.1) same in
      (λ i. (c.0 i, d.0 i), d.1)

  -- a mark is no front part of an item that does not begin with it
  off : (m : ℕ) (a : A) (t u : List ℕ) → NotFrom m (publish a) → m ∷ t ≡ publish a ++ u → ⊥
  off m a t u h e = from (publish a) h e
    where
      from : (p : List ℕ) → NotFrom m p → m ∷ t ≡ p ++ u → ⊥
      from [] h e = h
      from (x ∷ p) h e = h (sym (head_of e))

  -- items one after another up to a byte with which no item begins
  pub cut_until : (m : ℕ) → ((a : A) → Legal a → NotFrom m (publish a)) → Cut (All Legal) (λ s. each publish s ++ (m ∷ []))
  cut_until m not_from [] [] t u la lb e = (refl, tail_of_lem e)
  cut_until m not_from [] (b ∷ ys) t u la lb e =
      absurd (off m b t (each publish ys ++ (m ∷ []) ++ u) (not_from b lb.0) (e ∙ simp append_assoc))
  cut_until m not_from (a ∷ xs) [] t u la lb e =
      absurd (off m a u (each publish xs ++ (m ∷ []) ++ t) (not_from a la.0) (sym e ∙ simp append_assoc))
  cut_until m not_from (a ∷ xs) (b ∷ ys) t u la lb e =
      let c = cut a b (each publish xs ++ (m ∷ []) ++ t) (each publish ys ++ (m ∷ []) ++ u) la.0 lb.0
      (simp append_assoc (simp append_assoc at e)) in
      let d = cut_until m not_from xs ys t u la.1 lb.1 c.1 in
      (λ i. c.0 i ∷ d.0 i, d.1)

-- a number below 256 ^ k in k bytes
pub cut_be : (k : ℕ) → Cut (λ n. n < 256 ^ k) (be k)
cut_be k a b t u la lb e =
    let back : (n : ℕ) (s : List ℕ) → n < 256 ^ k → val (be k n ++ s) k ≡ n =
    λ n s h. val_append k (be k n) s (le_of_eq (sym (length_be k n))) ∙ val_be k n h in (
      sym (back a t la) ∙ ap (λ s. val s k) e ∙ back b u lb,
      sym (drop_at (be k a) t k (length_be k a)) ∙ ap (drop k) e ∙ drop_at (be k b) u k (length_be k b),
    )

-- a number as one byte
pub cut_byte : Cut (λ (n : ℕ). Unit) (λ n. n ∷ [])
cut_byte a b t u la lb e = (head_of e, tail_of_lem e)

-- bytes as they are, of a known size
pub cut_sized : (k : ℕ) → Cut (λ (v : List ℕ). length v ≡ k) (λ v. v)
cut_sized k a b t u la lb e =
    (sym (take_at a t k la) ∙ ap (take k) e ∙ take_at b u k lb, sym (drop_at a t k la) ∙ ap (drop k) e ∙ drop_at b u k lb)

-- a value after its length
pub cut_counted : (Legal : ℕ → Type 0) (publish : ℕ → List ℕ) → Cut Legal publish → Cut (λ v. Legal (length v)) (counted publish)
cut_counted Legal publish cut a b t u la lb e =
    let c = cut (length a) (length b) (a ++ t) (b ++ u) la lb (simp append_assoc at e) in
    cut_sized (length a) a b t u refl (sym c.0) c.1
