-- One item and then more: the longest front part goes by the item, and behind a whole one by what follows it.
-- Assumes nothing.
use Rattle.std.specs.Prelude.{◌≡◌, refl, List, [], ◌++◌, ℕ, ◌+◌, ◌<◌, ◌≤◌, ltb, length, take, drop}
use Rattle.std.proofs.Common.{ap, ap₂, ◌∙◌, subst, take-append-drop, ltb-true, ltb-false}
use Rattle.format.specs.Bytes.{Bytes}
use Rattle.format.specs.Bytes.Laws.{bytes_drop, bytes_nil}
use Rattle.format.specs.Choice.{pick}
use Rattle.format.specs.Choice.Laws.{by_test}
use Rattle.format.specs.Cut.{Cut}
use Rattle.front.specs.Front.{Begins, Longest}
use Rattle.front.proofs.Front.Laws.{longest_after, longest_some}
use Rattle.front.specs.Items.{Reader, item_whole, longest_part}
use Rattle.front_header.specs.Header.{past}

-- an item, and a string of the language that may stand behind its value
pub record Then {A : Type 0} (L : A → Type 0) (p : A → List ℕ) (Q : A → List ℕ → Type 0) (t : List ℕ) : Type 0 where
  pub a : A
  pub legal : L a
  pub rest : List ℕ
  pub more : Q a rest
  pub is : p a ++ rest ≡ t

-- a value's form, and a string behind it
pub put :
    {A : Type 0} {L : A → Type 0} (p : A → List ℕ) {Q : A → List ℕ → Type 0} (a : A) →
    L a →
    (t : List ℕ) →
    Q a t →
    Then L p Q (p a ++ t)
put p a l t q = record { a = a; legal = l; rest = t; more = q; is = refl }

module _ {A : Type 0} (L : A → Type 0) (p : A → List ℕ) (w : ℕ) (item : List ℕ → ℕ) (r : Reader L p w item) (cut : Cut L p) where
  -- what follows may go by the item's value
  module _ (Q : A → List ℕ → Type 0) (more : A → List ℕ → ℕ)
      (more_is : (a : A) → L a → (s : List ℕ) → Bytes s → Longest (Q a) s (more a s)) where
    abbrev Whole : List ℕ → Type 0
    Whole = Then L p Q

    -- an item goes on
    goes_on_lem : (a : A) → L a → Begins Whole (p a)
    goes_on_lem a l =
        let b = longest_some (Q a) [] (more a []) (more_is a l [] bytes_nil) in
        (b.0, put p a l b.0 b.1)

    -- while the item is not whole
    part : (s : List ℕ) → Bytes s → item s < w → Longest Whole s (item s)
    part s b h = longest_part L p w r.size Whole (λ t x. (x.a, x.legal, x.rest, x.is)) goes_on_lem s (item s) h (r.front s b)

    -- behind the item with the value a
    behind : (a : A) → L a → (s : List ℕ) → Bytes s → Longest Whole (p a ++ s) (length (p a) + more a s)
    behind a l s b =
        longest_after Whole (p a) (Q a)
        (λ t y.
        let c = cut y.a a y.rest t y.legal l y.is in
        subst (Q a) c.1 (subst (λ (z : A). Q z y.rest) c.0 y.more))
        (λ t q. put p a l t q)
        s (more a s) (more_is a l s b)

    -- behind a whole item; m is what its bytes say of the rest
    whole :
        (s : List ℕ) →
        Bytes s →
        (m : ℕ) →
        ((a : A) → L a → p a ≡ take w s → more a (drop w s) ≡ m) →
        w ≤ item s →
        Longest Whole s (w + m)
    whole s b m same h =
        let f = r.front s b in
        let o = item_whole L p w r.size s (item s) h f.within f.begun in
        let x = behind o.0 o.1 (drop w s) (bytes_drop w s b) in
        let e : p o.0 ++ drop w s ≡ s = ap (λ (y : List ℕ). y ++ drop w s) o.2 ∙ take-append-drop w s in
        let k : length (p o.0) + more o.0 (drop w s) ≡ w + m =
        ap₂ (λ (i : ℕ) (j : ℕ). i + j) (r.size o.0 o.1) (same o.0 o.1 o.2) in
        subst (λ (n : ℕ). Longest Whole s n) k
        (subst (λ (y : List ℕ). Longest Whole y (length (p o.0) + more o.0 (drop w s))) e x)

    -- the longest front part of an item and then more
    pub then_is :
        (s : List ℕ) →
        Bytes s →
        (m : ℕ) →
        ((a : A) → L a → p a ≡ take w s → more a (drop w s) ≡ m) →
        Longest Whole s (pick (ltb (item s) w) (item s) (w + m))
    then_is s b m same =
        by_test (ltb (item s) w)
        (λ e. rw e (part s b (ltb-true (item s) w e)))
        (λ e. rw e (whole s b m same (ltb-false (item s) w e)))

  -- what follows does not go by the item's value
  pub past_is :
      (Q : List ℕ → Type 0) (more : List ℕ → ℕ) →
      ((s : List ℕ) → Bytes s → Longest Q s (more s)) →
      (s : List ℕ) →
      Bytes s →
      Longest (Then L p (λ _. Q)) s (past item w more s)
  unfolding past
  past_is Q more more_is s b = then_is (λ _. Q) (λ _. more) (λ _ _. more_is) s b (more (drop w s)) (λ a l e. refl)
