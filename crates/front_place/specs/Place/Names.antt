-- The bytes of signer and reference leave what may stand from the issue date on.
-- Assumes nothing.
use Rattle.std.specs.Prelude.{◌≡◌, refl, List, [], ◌∷◌, ◌++◌, ℕ, ◌+◌, ◌≤◌, ltb, length, take, drop}
use Rattle.std.proofs.Common.{sym, subst, arith, ltb-true, ltb-false}
use Rattle.format.specs.Bytes.{All}
use Rattle.format.specs.Choice.Laws.{by_test}
use Rattle.c40.specs.Text.{TextOf, width, publish as c40}
use Rattle.c40.proofs.Exact.{three_ahead, cut_text}
use Rattle.grammar.specs.Content.{three, four}
use Rattle.grammar.specs.Publish.{hex_digits}
use Rattle.grammar.specs.Legal.{Signer, LetterOrDigit}
use Rattle.rules.specs.Rules.{Carries, Digits, Keeps}
use Rattle.rules.specs.Layout.{Item, rules_of}
use Rattle.rules.specs.Reason.One.{here_one}
use Rattle.front.specs.Items.{First, Characters, Counted, counted_item}
use Rattle.front_header.specs.Header.Languages.{Issued, Texts, Reference, AfterFirst, AfterCountry}
use Rattle.front_header.specs.Header.Names.{texts_to, texts_from}
use Rattle.front_header.specs.Header.Parts.{first_cut, characters_cut, counted_cut}
use Rattle.front_place.specs.Place.State.{Leaves, leaves_both, leaves_as, then_leaves}

-- a text of letters and digits, pair by pair
pub texts_leaves : (n : ℕ) (Q : List ℕ → Type 0) (r : List ℕ) → Characters n r → Leaves (Texts n Q) (c40 r) Q
texts_leaves n Q r l =
    let one = then_leaves (Characters n) c40 (λ _. Q) (characters_cut n) r l in
    record {
      to = λ t y. one.to t (texts_from Q n (c40 r ++ t) y);
      from = λ t q. texts_to Q n (c40 r ++ t) (one.from t q);
    }

-- a signer of four characters
module _ (a b c d : ℕ) (legal : Signer (a ∷ b ∷ c ∷ d ∷ [])) where
  -- its first three
  lead : First (a ∷ b ∷ c ∷ [])
  lead = record { size = refl; first = legal.first; second = legal.second; third = legal.third }

  -- version 3: with a reference of five
  names_leaves :
      (r : List ℕ) → length r ≡ 5 → All LetterOrDigit r → Leaves (AfterCountry three) (c40 (a ∷ b ∷ c ∷ d ∷ r)) (Issued three 18)
  names_leaves r size h =
      leaves_as (c40 (a ∷ b ∷ c ∷ []) ++ c40 (d ∷ r)) (c40 (a ∷ b ∷ c ∷ d ∷ r)) (sym (three_ahead (a ∷ b ∷ c ∷ []) (d ∷ r) refl))
      (leaves_both (c40 (a ∷ b ∷ c ∷ [])) (c40 (d ∷ r))
      (then_leaves First c40 (λ _. AfterFirst three) first_cut (a ∷ b ∷ c ∷ []) lead)
      (texts_leaves 6 (Issued three 18) (d ∷ r) (omega arith, (legal.fourth, h))))

  -- version 4: with the digits of a reference's length
  length_leaves :
      (n : ℕ) →
      1 ≤ n →
      n ≤ 255 →
      Leaves (AfterCountry four) (c40 (a ∷ b ∷ c ∷ d ∷ hex_digits n)) (Texts n (Issued four (16 + width n)))
  length_leaves n low high =
      leaves_as (c40 (a ∷ b ∷ c ∷ []) ++ counted_item (d, n)) (c40 (a ∷ b ∷ c ∷ d ∷ hex_digits n))
      (sym (three_ahead (a ∷ b ∷ c ∷ []) (d ∷ hex_digits n) refl))
      (leaves_both (c40 (a ∷ b ∷ c ∷ [])) (counted_item (d, n))
      (then_leaves First c40 (λ _. AfterFirst four) first_cut (a ∷ b ∷ c ∷ []) lead)
      (then_leaves Counted counted_item Reference counted_cut (d, n) (legal.fourth, low, high)))

-- the same of characters that are not listed
names_listed :
    (u : List ℕ) →
    TextOf 9 u →
    Signer (take 4 u) →
    All LetterOrDigit (drop 4 u) →
    Leaves (AfterCountry three) (c40 u) (Issued three 18)
names_listed (a ∷ b ∷ c ∷ d ∷ r) l h g = names_leaves a b c d h r (omega (arith, l.0)) g
names_listed [] l h g = absurd (omega (arith, l.0))
names_listed (a ∷ []) l h g = absurd (omega (arith, l.0))
names_listed (a ∷ b ∷ []) l h g = absurd (omega (arith, l.0))
names_listed (a ∷ b ∷ c ∷ []) l h g = absurd (omega (arith, l.0))

length_listed :
    (u : List ℕ) →
    TextOf 6 u →
    Signer (take 4 u) →
    (n : ℕ) →
    1 ≤ n →
    Digits n u →
    Leaves (AfterCountry four) (c40 u) (Texts n (Issued four (16 + width n)))
length_listed (a ∷ b ∷ c ∷ d ∷ r) l h n low g =
    subst (λ (x : List ℕ). Leaves (AfterCountry four) (c40 (a ∷ b ∷ c ∷ d ∷ x)) (Texts n (Issued four (16 + width n)))) (sym g.1)
    (length_leaves a b c d h n low g.0)
length_listed [] l h n low g = absurd (omega (arith, l.0))
length_listed (a ∷ []) l h n low g = absurd (omega (arith, l.0))
length_listed (a ∷ b ∷ []) l h n low g = absurd (omega (arith, l.0))
length_listed (a ∷ b ∷ c ∷ []) l h n low g = absurd (omega (arith, l.0))

-- text that stands at a place is one text
module _ (s : List ℕ) (p k : ℕ) where
  one_text : (P Q : List ℕ → Type 0) (x : Carries s p k P) (y : Carries s p k Q) → x.0 ≡ y.0
  one_text P Q x y = here_one (TextOf k) c40 (cut_text k) s p x.0 y.0 x.1 y.1 x.2 y.2

  -- and all that is said of it holds of it at once
  pub both_carried : (P Q : List ℕ → Type 0) → Carries s p k P → Carries s p k Q → Carries s p k (λ t. P t × Q t)
  both_carried P Q x y = (x.0, x.1, x.2, (x.3, subst Q (sym (one_text P Q x y)) y.3))

-- characters that stand at a place, and what they leave
abbrev pub LeavesHere : List ℕ → ℕ → ℕ → (List ℕ → Type 0) → (List ℕ → Type 0) → Type 0
LeavesHere s p k P Q = Carries s p k (λ u. Leaves P (c40 u) Q)

-- version 3: signer and reference that keep their rules
pub names_here :
    (s : List ℕ) (p : ℕ) → All (Keeps s p) (rules_of Item.names) → LeavesHere s p 9 (AfterCountry three) (Issued three 18)
names_here s p k =
    let b = both_carried s p 9 (λ t. Signer (take 4 t)) (λ t. All LetterOrDigit (drop 4 t)) k.1.1.0 k.1.1.1.0 in
    (b.0, b.1, b.2, names_listed b.0 b.1 b.3.0 b.3.1)

-- version 4: the length of a reference is not 0
pub some_reference : (s : List ℕ) (p n : ℕ) → (Carries s p 6 (Digits 0) → ⊥) → Carries s p 6 (Digits n) → 1 ≤ n
some_reference s p n not c =
    by_test (ltb 0 n)
    (λ e. omega (arith, ltb-true 0 n e))
    (λ e.
    let low = ltb-false 0 n e in
    let z : n ≡ 0 = omega arith in
    absurd (not (subst (λ (m : ℕ). Carries s p 6 (Digits m)) z c)))

-- signer and length that keep their rules
pub length_here :
    (s : List ℕ) (p n : ℕ) →
    All (Keeps s p) (rules_of Item.signer_and_length) →
    Carries s p 6 (Digits n) →
    LeavesHere s p 6 (AfterCountry four) (Texts n (Issued four (16 + width n)))
length_here s p n k c =
    let b = both_carried s p 6 (λ t. Signer (take 4 t)) (Digits n) k.1.1.0 c in
    (b.0, b.1, b.2, length_listed b.0 b.1 b.3.0 n (some_reference s p n k.1.1.1.1.0 c) b.3.1)

-- a reference that keeps its rules
pub reference_here :
    (s : List ℕ) (p n : ℕ) →
    All (Keeps s p) (rules_of (Item.reference n)) →
    (Q : List ℕ → Type 0) →
    LeavesHere s p n (Texts n Q) Q
reference_here s p n k Q =
    let c = k.1.1.0 in
    (c.0, c.1, c.2, texts_leaves n Q c.0 (c.1.0, c.3))
