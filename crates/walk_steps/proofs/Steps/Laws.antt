-- What a step finds, one law for each way out.
-- Assumes nothing.
use Rattle.std.specs.Prelude.{◌≡◌, ℕ, ◌+◌, ◌<◌, List, ◌∷◌, eqb, drop}
use Rattle.std.proofs.Math.Path.{ap, sym}
use Rattle.std.proofs.Common.{◌∙◌, eq-eqb, ne_eqb}
use Rattle.format.specs.Choice.{pick}
use Rattle.format.specs.Places.{at_place}
use Rattle.der.specs.Length.{read_length}
use Rattle.der.proofs.Lengths.Laws.{first_short}
use Rattle.grammar.specs.Content.{Version, three, four}
use Rattle.causes.specs.declared.Item.TheVariants as item
use Rattle.causes.specs.declared.Rule.{Rule}
use Rattle.causes.specs.declared.Rule.TheVariants as rule
use Rattle.rows.specs.Rows.{row_of}
use Rattle.verdict.specs.Items.{Item, is, not, next, whole, byte, version, plain_in, der_of, feature_length}
use Rattle.verdict.specs.Judge.{value_in, row}
use Rattle.read_items.specs.Meaning.{past}
use Rattle.read_items.specs.Meaning.Laws.{whole_none, past_whole, judged, read_byte}
use Rattle.walk_steps.specs.Steps.{no_more, found, unless, feature_at, step_at}

-- a length whose first byte is below 128 is that byte, in both versions
short_length : (v : Version) (s : List ℕ) (at n after : ℕ) → is n after ≡ byte at s (plain_in at) → n < 0x80
    → is n after ≡ feature_length v at s
short_length three s at n after e h = e
short_length four s at n after e h =
    let b = read_byte at s n after e in
    let there : drop at s ≡ n ∷ drop (at + 1) s = at_place s at 0 b.there ∙ ap (λ x. x ∷ drop (at + 1) s) (sym b.is_byte) in
    ap (is n) b.reached ∙ sym (ap (der_of at) (ap read_length there ∙ first_short n (drop (at + 1) s) h))

-- the feature whose tag stands at a place
module _ (v : Version) (s : List ℕ) (at : ℕ) where
  pub no_tag : not rule.There at ≡ byte at s (plain_in at) → no_more ≡ feature_at v s at
  unfolding feature_at
  no_tag e = ap (λ i. unless i (λ tag at'. pick (eqb tag 0xFF) no_more (unless (row v tag at at' s) found))) e

  module _ (x mid : ℕ) (is_tag : is x mid ≡ byte at s (plain_in at)) where
    tagged : pick (eqb x 0xFF) no_more (unless (row v x at mid s) found) ≡ feature_at v s at
    unfolding feature_at
    tagged = ap (λ i. unless i (λ tag at'. pick (eqb tag 0xFF) no_more (unless (row v tag at at' s) found))) is_tag

    pub at_mark : x ≡ 0xFF → no_more ≡ feature_at v s at
    at_mark e = sym (ap (λ b. pick b no_more (unless (row v x at mid s) found)) (eq-eqb x 0xFF e)) ∙ tagged

    module _ (other : x ≡ 0xFF → ⊥) where
      pub at_row : unless (row v x at mid s) found ≡ feature_at v s at
      at_row = sym (ap (λ b. pick b no_more (unless (row v x at mid s) found)) (ne_eqb x 0xFF other)) ∙ tagged

      -- its length, as it is read
      by_length : (i : Item ℕ) → i ≡ feature_length v mid s
          → unless (next item.Length i (λ n at'. next item.Value (whole n at' s (value_in x at n at')) is)) found ≡ feature_at v s at
      unfolding row
      by_length i e =
          ap (λ i. unless (next item.Length i (λ n at'. next item.Value (whole n at' s (value_in x at n at')) is)) found) e ∙ at_row

      pub no_length : (r : Rule) (place : ℕ) → not r place ≡ feature_length v mid s → no_more ≡ feature_at v s at
      no_length r place e = by_length (not r place) e

      module _ (n value : ℕ) (is_size_lem : is n value ≡ feature_length v mid s) where
        pub no_value : not rule.There value ≡ whole n value s (past n value) → no_more ≡ feature_at v s at
        no_value e =
            ap (λ i. unless (next item.Value i is) found) (whole_none n value s (value_in x at n value) e) ∙ by_length (is n value) is_size_lem

        pub whole_feature : (end : ℕ) → is tt end ≡ whole n value s (past n value) → found (row_of x at value n) end ≡ feature_at v s at
        whole_feature end e =
            let p = past_whole n value s end e in
            ap (found (row_of x at value n)) p.reached
            ∙ sym (ap (λ i. unless (next item.Value i is) found) (judged n value s end (value_in x at n value) p))
            ∙ by_length (is n value) is_size_lem

-- a step at a place
module _ (s : List ℕ) (at : ℕ) where
  pub step_closed : at ≡ 0 → no_more ≡ step_at s at
  unfolding step_at
  step_closed e = sym (ap (λ b. pick b no_more (unless (version 1 s) (λ v after. feature_at v s at))) (eq-eqb at 0 e))

  module _ (on : at ≡ 0 → ⊥) where
    by_version : (i : Item Version) → i ≡ version 1 s → unless i (λ v after. feature_at v s at) ≡ step_at s at
    unfolding step_at
    by_version i e =
        ap (λ i. unless i (λ v after. feature_at v s at)) e
        ∙ sym (ap (λ b. pick b no_more (unless (version 1 s) (λ v after. feature_at v s at))) (ne_eqb at 0 on))

    pub no_version : (r : Rule) (place : ℕ) → not r place ≡ version 1 s → no_more ≡ step_at s at
    no_version r place e = by_version (not r place) e

    pub step_versioned : (v : Version) (after : ℕ) → is v after ≡ version 1 s → feature_at v s at ≡ step_at s at
    step_versioned v after e = by_version (is v after) e

    -- with a length below 128, whichever the version
    pub short_feature :
        (v : Version) (after : ℕ) → is v after ≡ version 1 s →
        (x mid : ℕ) → is x mid ≡ byte at s (plain_in at) → (x ≡ 0xFF → ⊥) →
        (n value : ℕ) → is n value ≡ byte mid s (plain_in mid) → n < 0x80 →
        (end : ℕ) → is tt end ≡ whole n value s (past n value) →
        found (row_of x at value n) end ≡ step_at s at
    short_feature v after is_version_lem x mid is_tag other n value is_size_lem short end e =
        whole_feature v s at x mid is_tag other n value (short_length v s mid n value is_size_lem short) end e
        ∙ step_versioned v after is_version_lem
