-- How many bytes can be completed to a pair of a header is how many some published form of a legal text begins with (document 02, Ticket
-- 12): the pairs that fit are exactly those forms.
-- Assumes nothing.
pub mod Counted
pub mod Country
pub mod Fronts
pub mod Items
pub mod Values
use Rattle.std.specs.Prelude.{◌≡◌, true, ℕ, ◌+◌, ◌<◌, get_or, take}
use Rattle.std.proofs.Common.{sym, ap, ◌∙◌}
use native.Mathlib.Omega.{arith}
use mathlib.Core.List.{List, [], ◌∷◌, ◌++◌}
use Rattle.std.proofs.Math.ListN.{length}
use Rattle.format.specs.Bytes.{Bytes}
use Rattle.format.specs.Choice.{pick}
use Rattle.format.specs.Choice.Laws.{by_test, not_true}
use Rattle.front.specs.Front.{Begins, Longest}
use Rattle.front.proofs.Front.Laws.{longest_end, longest_stop}
use Rattle.front_pairs.specs.Pairs.{fits, opens, pair_front}
use Rattle.front_pairs.specs.Pairs.Laws.Opens.{some_opens}
use Rattle.front_pairs.specs.Pairs.Laws.Witness.{opens_some, one_fits}
use Rattle.front_pairs.specs.declared.Kind.{Kind}

-- a pair of bytes that fits
abbrev pub Pair : Kind → List ℕ → Type 0
Pair kind t = (x : ℕ) × (y : ℕ) × (t ≡ x ∷ y ∷ []) × (x < 256) × (y < 256) × (fits kind x y ≡ true)

-- a pair has two bytes, and fits by them
pair_whole : (kind : Kind) (x y : ℕ) (r : List ℕ) → Pair kind (x ∷ y ∷ r) → (fits kind x y ≡ true) × (length r ≡ 0)
pair_whole kind x y r p =
    let ex : p.0 ≡ x = sym (ap (λ t. get_or t 0 0) p.2) in
    let ey : p.1 ≡ y = sym (ap (λ t. get_or t 1 0) p.2) in
    ((λ i. fits kind (sym ex i) (sym ey i)) ∙ p.5, omega (arith, ap length p.2))

-- its first byte opens
pair_opens : (kind : Kind) (x : ℕ) (r : List ℕ) → Pair kind (x ∷ r) → opens kind x ≡ true
pair_opens kind x r p =
    let ex : p.0 ≡ x = sym (ap (λ t. get_or t 0 0) p.2) in
    ap (opens kind) (sym ex) ∙ some_opens kind p.0 p.1 p.3 p.4 p.5

-- any language whose strings are exactly the pairs that fit
module _ (kind : Kind) (I : List ℕ → Type 0)
    (sound : (x y : ℕ) → x < 256 → y < 256 → fits kind x y ≡ true → I (x ∷ y ∷ []))
    (complete : (t : List ℕ) → I t → Pair kind t) where
  -- there is one
  pub pair_begins : Begins I []
  pair_begins = let p = one_fits kind in (p.0 ∷ p.1 ∷ [], sound p.0 p.1 p.2 p.3 p.4)

  -- a first byte alone, by whether it opens
  byte_front_lem : (x : ℕ) (s : List ℕ) → x < 256
      → (opens kind x ≡ true → 0 < length s → Begins I (x ∷ take 1 s) → ⊥)
      → Longest I (x ∷ s) (pick (opens kind x) 1 0)
  byte_front_lem x s hx off =
      by_test (opens kind x)
      (λ e. let p = opens_some kind x hx e in
      rw e
      (record {
        within = omega arith;
        begun = (p.0 ∷ [], sound x p.0 hx p.1 p.2);
        no_more = λ h b. off e (omega arith) b;
      }))
      (λ e. rw e
      (longest_stop I x s pair_begins (λ b. not_true (sym e ∙ pair_opens kind x b.0 (complete (x ∷ b.0) b.1)))))

  -- as many bytes as can be completed to a pair are the longest front part
  pub pair_front_is : (s : List ℕ) → Bytes s → Longest I s (pair_front kind s)
  unfolding pair_front
  pair_front_is [] b = longest_end I pair_begins
  pair_front_is (x ∷ []) b = byte_front_lem x [] (b 0) (λ e h. absurd (omega arith))
  pair_front_is (x ∷ y ∷ s) b =
      by_test (fits kind x y)
      (λ e. rw e
      (record {
        within = omega arith;
        begun = ([], sound x y (b 0) (b 1) e);
        no_more = λ h r. too_long_lem s (omega arith) r.0 r.1;
      }))
      (λ e. rw e
      (byte_front_lem x (y ∷ s) (b 0) (λ f h r. not_true (sym e ∙ (pair_whole kind x y r.0 (complete (x ∷ y ∷ r.0) r.1)).0))))
    where
      too_long_lem : (s : List ℕ) → 0 < length s → (r : List ℕ) → I (x ∷ y ∷ (take 1 s ++ r)) → ⊥
      too_long_lem [] h r i = omega arith
      too_long_lem (z ∷ s) h r i =
          let p = pair_whole kind x y (z ∷ r) (complete (x ∷ y ∷ z ∷ r) i) in
          omega (arith, p.1)
