-- The place of 5 where an item is wrongly coded (document 02, Ticket 1), exactly: "the first byte of the item's first wrongly coded pair, a
-- last pair that does not fit the number of characters included". It lies in the item, an even number of bytes from its first.
-- Assumes nothing.
use Rattle.std.specs.Prelude.{◌≡◌, refl, Bool, true, false, ℕ, ◌+◌, ◌-◌, ◌%◌, ◌<◌, ◌≤◌, List, ltb, eqb, length, take, drop}
use Rattle.std.proofs.Common.{ap, sym, subst, ◌∙◌, inl, inr, ⊎_elim, arith, ne_eqb, le-ltb, ltb-true, ltb-false}
use Rattle.std.proofs.Math.Option.{Option, none, some, none-ne-some, some-injective}
use Rattle.std.proofs.lemmas.Bool.{eqb-false}
use Rattle.format.specs.Choice.{pick}
use Rattle.format.specs.Choice.Laws.{by_test}
use Rattle.pairs.specs.declared.decode.Fault.{Fault}
use Rattle.c40.specs.Text.{width}
use Rattle.c40.specs.Decode.{Decoded, text, wrong, decode}
use Rattle.c40.proofs.Decode.First.{First, told_first, text_faultless, text_size}
use Rattle.c40.proofs.Wrong.{WronglyCoded, FirstWrong, one_first}
use Rattle.fields.specs.Characters.{is_reference, is_country, is_signer, all}
use Rattle.causes.specs.Causes.{rule_number}
use Rattle.causes.specs.declared.Rule.{Rule}
use Rattle.causes.specs.declared.Rule.TheVariants as rule
use Rattle.verdict.specs.Items.{Item, is, not, Exact, exact, wrong_at, exactly, unless, judged_by, field_in, field, in_country, in_nine}
use Rattle.verdict.specs.Items.{length_in, is_hex, in_six, in_reference}
use Rattle.verdict.proofs.Items.Laws.{unread}
use Rattle.verdict.proofs.Items.Sound.{length_taken}

abbrev place_or : ℕ → Exact → ℕ
place_or i (exact t) = i
place_or i (wrong_at j) = j

abbrev IsWrong : Exact → Type 0
IsWrong (exact t) = ⊥
IsWrong (wrong_at j) = Unit

abbrev place_in : Item (List ℕ) → ℕ
place_in (is t at) = 0
place_in (not rule at) = at

abbrev rule_or : Rule → Item (List ℕ) → Rule
rule_or r (is t at) = r
rule_or r (not rule at) = rule

told_place : {i j : ℕ} {r q : Rule} → ◌≡◌ {A = Item (List ℕ)} (not r i) (not q j) → i ≡ j
told_place e = ap place_in e

told_rule : {i j : ℕ} {r q : Rule} → ◌≡◌ {A = Item (List ℕ)} (not r i) (not q j) → r ≡ q
told_rule {r = r} e = ap (rule_or r) e

same_place : {i j : ℕ} → wrong_at i ≡ wrong_at j → i ≡ j
same_place {i} e = ap (place_or i) e

-- the place is even, whatever k is
pub pair_even : (k : ℕ) (bytes : List ℕ) (i : ℕ) → length bytes ≡ width k → exactly k (decode 0 bytes) ≡ wrong_at i → i % 2 ≡ 0
pair_even k bytes i sized e = by (decode 0 bytes) refl
  where
    by : (d : Decoded) → decode 0 bytes ≡ d → i % 2 ≡ 0
    by (wrong fault p) f =
        let first = told_first bytes 0 (omega arith) fault p f in
        let same : p ≡ i = same_place (sym (ap (exactly k) f) ∙ e) in
        omega (arith, first.1, first.2.even)
    by (text t) f = by_size (eqb (length t) k) (sym (ap (exactly k) f) ∙ e)
      where
        by_size : (b : Bool) → pick b (exact t) (wrong_at (width k - 2)) ≡ wrong_at i → i % 2 ≡ 0
        by_size true g = absurd (subst IsWrong (sym g) tt)
        by_size false g = omega (arith, same_place g)

-- as many bytes as k characters take
module _ (k : ℕ) (bytes : List ℕ) (full : 0 < k) (sized : length bytes ≡ width k) where
  two : length bytes % 2 ≡ 0
  two = omega arith

  -- a fault that is the first is the first wrongly coded pair
  by_fault : (fault : Fault) (i : ℕ) → First bytes fault i → FirstWrong k bytes i
  by_fault fault i f = record {
    even = f.even;
    inside = f.inside;
    here = inl (fault, f.here);
    before = λ j h even. ⊎_elim (λ g. f.before j h even g.0 g.1) (λ u. let z = f.inside in omega (arith, u.0));
  }

  -- text of another length: no pair has a fault, and the last does not fit
  by_size : (t : List ℕ) → decode 0 bytes ≡ text t → (length t ≡ k → ⊥) → FirstWrong k bytes (width k - 2)
  by_size t e other = record {
    even = omega arith;
    inside = omega arith;
    here = inr (omega arith, λ z. other (omega (arith, z, text_size bytes 0 (width k - 2) t (omega arith) (omega arith) e)));
    before =
        λ j h even. ⊎_elim
        (λ g. text_faultless bytes 0 t e j even (omega arith) g.0 g.1)
        (λ u. omega (arith, u.0));
  }

  pub wrong_first : (i : ℕ) → exactly k (decode 0 bytes) ≡ wrong_at i → FirstWrong k bytes i
  wrong_first i e = by (decode 0 bytes) refl
    where
      by : (d : Decoded) → decode 0 bytes ≡ d → FirstWrong k bytes i
      by (wrong fault p) f =
          let first = told_first bytes 0 two fault p f in
          let same : p ≡ i = same_place (sym (ap (exactly k) f) ∙ e) in
          subst (λ j. FirstWrong k bytes j) (omega (arith, first.1)) (by_fault fault first.0 first.2)
      by (text t) f =
          by_test (eqb (length t) k)
          (λ b. absurd (subst IsWrong (sym e ∙ ap (exactly k) f ∙ ap (λ c. pick c (exact t) (wrong_at (width k - 2))) b) tt))
          (λ b.
          let same : width k - 2 ≡ i =
          same_place (sym (ap (λ c. pick c (exact t) (wrong_at (width k - 2))) b) ∙ sym (ap (exactly k) f) ∙ e) in
          subst (λ j. FirstWrong k bytes j) same (by_size t f (eqb-false (length t) k b)))

  -- and the other way
  pub first_wrong : (i : ℕ) → FirstWrong k bytes i → exactly k (decode 0 bytes) ≡ wrong_at i
  first_wrong i w = by (decode 0 bytes) refl
    where
      by : (d : Decoded) → decode 0 bytes ≡ d → exactly k (decode 0 bytes) ≡ wrong_at i
      by (wrong fault p) f =
          let e : exactly k (decode 0 bytes) ≡ wrong_at p = ap (exactly k) f in
          e ∙ ap wrong_at (one_first k bytes p i (wrong_first p e) w)
      by (text t) f =
          ⊎_elim
          (λ g. absurd (text_faultless bytes 0 t f i w.even w.inside g.0 g.1))
          (λ u.
          let size = text_size bytes 0 i t w.even u.0 f in
          let other : length t ≡ k → ⊥ = λ z. u.1 (omega (arith, size)) in
          let place : width k - 2 ≡ i = omega (arith, u.0) in
          ap (exactly k) f ∙ ap (λ c. pick c (exact t) (wrong_at (width k - 2))) (ne_eqb (length t) k other) ∙ ap wrong_at place)
          w.here

-- the first pair, where it is wrongly coded, is the first that is
pub first_pair : (k : ℕ) (bytes : List ℕ) (i : ℕ) → FirstWrong k bytes i → WronglyCoded k bytes 0 → i ≡ 0
first_pair k bytes i f here =
    by_test (ltb 0 i) (λ e. absurd (f.before 0 (ltb-true 0 i e) refl here)) (λ e. omega (arith, ltb-false 0 i e))

-- a field whose bytes are there: the place of its first wrongly coded pair is told; where every pair is well coded and fits, and the
-- characters break a rule, it is the item's first byte
module _ (k : ℕ) (broken : List ℕ → Option Rule) (at : ℕ) (s : List ℕ) (full : 0 < k) where
  abbrev bytes : List ℕ
  bytes = take (width k) (drop at s)

  abbrev judged : Item (List ℕ)
  judged = field_in k broken at (exactly k (decode 0 bytes))

  there_judged : at + width k ≤ length s → field k broken at s ≡ judged
  there_judged there = ap (λ b. pick b (not rule.There at) judged) (le-ltb (length s) (at + width k) there)

  pub told_at_pair : (i : ℕ) → at + width k ≤ length s → FirstWrong k bytes i → field k broken at s ≡ not rule.WellCoded (at + i)
  told_at_pair i there w =
      there_judged there ∙ ap (field_in k broken at) (first_wrong k bytes full (length_taken (width k) at s there) i w)

  pub told_at_item : (rule : Rule) (t : List ℕ) → at + width k ≤ length s → exactly k (decode 0 bytes) ≡ exact t → broken t ≡ some rule
      → field k broken at s ≡ not rule at
  told_at_item rule t there e breaks =
      there_judged there ∙ ap (field_in k broken at) e ∙ ap (λ o. judged_by o t at (at + width k)) breaks

  -- and no other place is told of a coding that is wrong
  pub wrong_told : (place : ℕ) → ((t : List ℕ) → broken t ≡ some rule.WellCoded → ⊥) → field k broken at s ≡ not rule.WellCoded place
      → (at + width k ≤ length s) × (i : ℕ) × (place ≡ at + i) × FirstWrong k bytes i
  wrong_told place own e =
      by_test (ltb (length s) (at + width k))
      (λ b. let no = ap rule_number (told_rule (sym (ap (λ c. pick c (not rule.There at) judged) b) ∙ e)) in absurd (omega (arith, no)))
      (λ b. let there = ltb-false (length s) (at + width k) b in
      by there (exactly k (decode 0 bytes)) refl (sym (there_judged there) ∙ e))
    where
      by : at + width k ≤ length s → (x : Exact) → exactly k (decode 0 bytes) ≡ x → judged ≡ not rule.WellCoded place
          → (at + width k ≤ length s) × (i : ℕ) × (place ≡ at + i) × FirstWrong k bytes i
      by there (wrong_at i) f g = (
        there,
        i,
        sym (told_place (sym (ap (field_in k broken at) f) ∙ g)),
        wrong_first k bytes full (length_taken (width k) at s there) i f,
      )
      by there (exact t) f g = kept (broken t) refl (sym (ap (field_in k broken at) f) ∙ g)
        where
          kept : {C : Type 0} (o : Option Rule) → broken t ≡ o → judged_by (broken t) t at (at + width k) ≡ not rule.WellCoded place → C
          kept none h g = absurd (unread rule.WellCoded place t (at + width k) (sym g ∙ ap (λ o. judged_by o t at (at + width k)) h))
          kept (some r) h g =
              absurd (own t (h ∙ ap some (told_rule (sym (ap (λ o. judged_by o t at (at + width k)) h) ∙ g))))

-- none of the rules of characters is that of the coding: so it is for every text of a header
not_coding : (b : Bool) (r : Rule) (later : Option Rule) → (r ≡ rule.WellCoded → ⊥) → (later ≡ some rule.WellCoded → ⊥)
    → unless b r later ≡ some rule.WellCoded → ⊥
not_coding true r later own rest e = rest e
not_coding false r later own rest e = own (some-injective r rule.WellCoded e)

no_more : none ≡ some rule.WellCoded → ⊥
no_more e = none-ne-some rule.WellCoded e

pub own_country : (t : List ℕ) → in_country t ≡ some rule.WellCoded → ⊥
own_country t = not_coding (is_country 32 t) rule.CountryCode none (λ e. let z : ◌≡◌ {A = ℕ} 0 1 = cc in omega arith) no_more

pub own_reference : (t : List ℕ) → in_reference t ≡ some rule.WellCoded → ⊥
own_reference t = not_coding (all is_reference t) rule.ReferenceCharacters none (λ e. let z : ◌≡◌ {A = ℕ} 0 1 = cc in omega arith) no_more

pub own_nine : (t : List ℕ) → in_nine t ≡ some rule.WellCoded → ⊥
own_nine t =
    not_coding (is_signer (take 4 t)) rule.SignerCharacters (in_reference (drop 4 t))
    (λ e. let z : ◌≡◌ {A = ℕ} 0 1 = cc in omega arith) (own_reference (drop 4 t))

pub own_six : (t : List ℕ) → in_six t ≡ some rule.WellCoded → ⊥
own_six t =
    not_coding (is_signer (take 4 t)) rule.SignerCharacters _ (λ e. let z : ◌≡◌ {A = ℕ} 0 1 = cc in omega arith)
    (not_coding (is_hex t) rule.HexadecimalDigits _ (λ e. let z : ◌≡◌ {A = ℕ} 0 1 = cc in omega arith)
    (not_coding (ltb 0 (length_in t)) rule.NotZero none (λ e. let z : ◌≡◌ {A = ℕ} 0 1 = cc in omega arith) no_more))
