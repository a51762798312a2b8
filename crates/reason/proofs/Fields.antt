-- The items of text: country, signer, the reference's length, reference.
-- Assumes nothing.
pub mod Names
use Rattle.std.specs.Prelude.{◌≡◌, refl, Bool, true, false, ℕ, ◌+◌, ◌-◌, ◌≤◌, ◌<◌, List, [], ◌∷◌, ◌++◌, map, eqb, length, take, drop}
use Rattle.std.proofs.Common.{ap, sym, subst, ◌∙◌, arith, eq-eqb, eqb-true}
use Rattle.std.proofs.Math.Option.{Option, none, some}
use Rattle.format.specs.Bytes.{All, Bytes}
use Rattle.format.specs.Bytes.Laws.{bytes_drop, bytes_take}
use Rattle.format.specs.Choice.{pick}
use Rattle.format.specs.Choice.Laws.{by_test, not_true}
use Rattle.c40.specs.Text.{TextOf, width, publish as c40}
use Rattle.c40.specs.Text.Laws.{length_publish}
use Rattle.c40.specs.Decode.{Decoded, text, wrong, decode}
use Rattle.c40.proofs.Exact.{published_decodes, decodes_published, cut_text}
use Rattle.grammar.specs.Content.{Version, three, four}
use Rattle.grammar.specs.Publish.{carried}
use Rattle.grammar.proofs.Parts.{country_text}
use Rattle.fields.specs.Characters.{is_country, shown}
use Rattle.causes.specs.declared.Item.TheVariants as item
use Rattle.causes.specs.declared.Rule.{Rule as Name}
use Rattle.causes.specs.declared.Rule.TheVariants as rule
use Rattle.causes.specs.declared.Why.{Why}
use Rattle.rules.specs.Rules.{Here, Carries, Rule, Keeps}
use Rattle.rules.specs.Layout.{Item, rules_of, At, on, named, to_names, to_signer}
use Rattle.rules.specs.Reason.One.{here_one}
use Rattle.verdict.specs.Items.{is, not, why, Exact, exact, wrong_at, exactly, unless, judged_by, field_in, field, in_country, country}
use Rattle.verdict.proofs.Items.Sound.{length_taken}
use Rattle.verdict.proofs.Items.Fields.{country_passes}
use Rattle.verdict.proofs.Items.FieldsSound.{country_legal}
use Rattle.verdict.proofs.Items.Wrong.{wrong_first}
use Rattle.reason.proofs.Goes.{Told, Goes, goes_pass, all_there, fault_at, goes_whole}

-- text of k characters that stands there
pub record Stands (k : ℕ) (s : List ℕ) (at : ℕ) (t : List ℕ) : Type 0 where
  pub is_text_lem : TextOf k t
  pub here : Here s at (c40 t)

-- of other text nothing stands there
pub no_carries : {k at : ℕ} {s t : List ℕ} (P : List ℕ → Type 0) → Stands k s at t → (P t → ⊥) → Carries s at k P → ⊥
no_carries {k} {at} {s} {t} P st other c =
    other (subst P (here_one (TextOf k) c40 (cut_text k) s at c.0 t c.1 st.is_text_lem c.2 st.here) c.3)

abbrev IsWrong : Exact → Type 0
IsWrong (exact t) = ⊥
IsWrong (wrong_at i) = Unit

-- the bytes of a field whose bytes are there: text of k characters that stands there, or none at all
module _ (s : List ℕ) (bytes : Bytes s) (at k : ℕ) where
  abbrev part : List ℕ
  part = take (width k) (drop at s)

  abbrev found : Exact
  found = exactly k (decode 0 part)

  carried_found : (t : List ℕ) → TextOf k t → Here s at (c40 t) → found ≡ exact t
  carried_found t h e =
      let is_part : part ≡ c40 t = ap (λ n. take n (drop at s)) (sym (length_publish t ∙ ap width h.0)) ∙ e in
      ap (exactly k) (ap (decode 0) is_part ∙ published_decodes t h.1 0)
      ∙ ap (λ b. pick b (exact t) (wrong_at (width k - 2))) (eq-eqb (length t) k h.0)

  pub wrong_carries : (i : ℕ) → found ≡ wrong_at i → Carries s at k (λ t. Unit) → ⊥
  wrong_carries i e c = subst IsWrong (sym e ∙ carried_found c.0 c.1 c.2) tt

  pub exact_stands : (t : List ℕ) → found ≡ exact t → Stands k s at t
  exact_stands t e = by (decode 0 part) refl
    where
      sized : (u : List ℕ) → decode 0 part ≡ text u → length u ≡ k → Stands k s at u
      sized u d size =
          let r = decodes_published part (bytes_take (width k) (drop at s) (bytes_drop at s bytes)) 0 u d in
          record {
            is_text_lem = (size, r.0);
            here = ap (λ n. take n (drop at s)) (length_publish u ∙ ap width size) ∙ sym r.1;
          }

      by : (d : Decoded) → decode 0 part ≡ d → Stands k s at t
      by (wrong fault p) d = absurd (subst IsWrong (sym (ap (exactly k) d) ∙ e) tt)
      by (text u) d =
          by_test (eqb (length u) k)
          (λ b.
          let same : exact u ≡ exact t = sym (ap (exactly k) d ∙ ap (λ c. pick c (exact u) (wrong_at (width k - 2))) b) ∙ e in
          let is_u : u ≡ t = cc in
          subst (Stands k s at) is_u (sized u d (eqb-true (length u) k b)))
          (λ b. absurd (subst IsWrong (sym (ap (exactly k) d ∙ ap (λ c. pick c (exact u) (wrong_at (width k - 2))) b) ∙ e) tt))

-- characters that break no rule, or break one
pub goes_unless : {s : List ℕ} (names : Name → Why) (Good : List ℕ → ℕ → Type 0) (b : Bool) (r : Name) (later : Option Name) (t : List ℕ)
    (at after : ℕ) → (b ≡ true → Goes s names Good (judged_by later t at after)) → (b ≡ false → Told s (names r) at)
    → Goes s names Good (judged_by (unless b r later) t at after)
goes_unless names Good true r later t at after go stop = go refl
goes_unless names Good false r later t at after go stop = stop refl

-- a field of k characters: there, well coded, and then what its characters come to
pub field_goes : {s : List ℕ} {i : Item} {at : ℕ} (Good : List ℕ → ℕ → Type 0) → Bytes s → At s i at → (k : ℕ)
    (broken : List ℕ → Option Name) (later : List Rule) → 0 < k → Rule.there (width k) ∷ Rule.well_coded k ∷ later ≡ rules_of i
    → ((t : List ℕ) → at + width k ≤ length s → Stands k s at t → Goes s (why (named i)) Good (judged_by (broken t) t at (at + width k)))
    → Goes s (why (named i)) Good (field k broken at s)
field_goes {s} {i} {at} Good bytes w k broken later full own go =
    goes_whole w Good (width k) (λ b. field_in k broken at (exactly k (decode 0 b))) (Rule.well_coded k ∷ later) own
    (λ h. by h (found s bytes at k) refl)
  where
    by : at + width k ≤ length s → (x : Exact) → found s bytes at k ≡ x
        → Goes s (why (named i)) Good (field_in k broken at (found s bytes at k))
    by h (exact t) e = subst (λ x. Goes s (why (named i)) Good (field_in k broken at x)) (sym e) (go t h (exact_stands s bytes at k t e))
    by h (wrong_at p) e =
        let long = length_taken (width k) at s h in
        let first = wrong_first k (part s bytes at k) full long p e in
        let stop : Told s (why (named i) rule.WellCoded) (at + p) =
        fault_at w (Rule.there (width k) ∷ []) (Rule.well_coded k) later own (h, tt) (wrong_carries s bytes at k p e)
        (at + p) (p, refl, first) (all_there 2 (at + p) s (omega (arith, first.inside))) in
        subst (λ x. Goes s (why (named i)) Good (field_in k broken at x)) (sym e) stop

-- the country
abbrev pub AfterCountry : List ℕ → Version → ℕ → Type 0
AfterCountry s three after = At s Item.names after
AfterCountry s four after = At s Item.signer_and_length after

next_names : (s : List ℕ) (at : ℕ) (v : Version) → At s (Item.country v) at → All (Keeps s at) (rules_of (Item.country v))
    → AfterCountry s v (at + 2)
next_names s at three w kept = on w kept (to_names at)
next_names s at four w kept = on w kept (to_signer at)

pub country_goes : {s : List ℕ} {at : ℕ} (v : Version) → Bytes s → At s (Item.country v) at
    → Goes s (why item.Country) (λ _ after. AfterCountry s v after) (country at s)
country_goes {s} {at} v bytes w =
    goes_pass s (why item.Country) Next Next (field 3 in_country at s) (λ t at. is (map shown t) at)
    (field_goes Next bytes w 3 in_country (Rule.country_code ∷ []) (omega arith) refl
    (λ t h st. goes_unless (why item.Country) Next (is_country 32 t) rule.CountryCode none t at (at + 2)
    (λ e.
    let c = country_legal t st.is_text_lem.0 e in
    next_names s at v w
    (h, ((t, st.is_text_lem, st.here, tt), ((map shown t, c.legal, subst (λ u. Here s at (c40 u)) (sym c.back) st.here), tt))))
    (λ e. fault_at w (Rule.there 2 ∷ Rule.well_coded 3 ∷ []) Rule.country_code [] refl (h, ((t, st.is_text_lem, st.here, tt), tt))
    (λ c.
    let same =
    here_one (TextOf 3) c40 (cut_text 3) s at (map carried c.0) t (country_text c.0 c.1) st.is_text_lem c.2 st.here in
    not_true (sym e ∙ ap (is_country 32) (sym same) ∙ country_passes c.0 c.1))
    at refl (all_there 2 at s h))))
    (λ t at g. g)
  where
    Next : List ℕ → ℕ → Type 0
    Next t after = AfterCountry s v after
