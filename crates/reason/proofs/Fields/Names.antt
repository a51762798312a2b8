-- Signer and reference: nine characters in version 3; in version 4 six, which give the reference's length, and the reference.
-- Assumes nothing.
use Rattle.std.specs.Prelude.{◌≡◌, refl, true, false, ℕ, ◌+◌, ◌*◌, ◌/◌, ◌%◌, ◌≤◌, ◌<◌, List, [], ◌∷◌, ◌++◌, ltb, length, take, drop}
use Rattle.std.proofs.Common.{ap, sym, subst, ◌∙◌, arith, ltb-true, ltb-false, take-append-drop, length-take-le}
use Rattle.std.proofs.Math.Option.{none}
use Rattle.format.specs.Bytes.{All, Bytes}
use Rattle.format.specs.Choice.Laws.{not_true, both_true}
use Rattle.format.specs.Hex.{hex_digit, hex_value}
use Rattle.format.proofs.Hex.Laws.{value_digit}
use Rattle.c40.specs.Text.{width}
use Rattle.grammar.specs.Content.{Version, three, four}
use Rattle.grammar.specs.Publish.{hex_digits}
use Rattle.grammar.specs.Legal.{Signer, ReferenceCharacter}
use Rattle.fields.specs.Characters.{is_reference, is_signer, all}
use Rattle.fields.specs.Characters.Grammar.{reference_passes, reference_of, all_pass, all_of, signer_passes, signer_of}
use Rattle.causes.specs.declared.Item.TheVariants as item
use Rattle.causes.specs.declared.Rule.TheVariants as rule
use Rattle.rules.specs.Rules.{Digits, Rule, Keeps}
use Rattle.rules.specs.Layout.{Item, At, on, to_issued_3, to_reference, to_issued_4}
use Rattle.verdict.specs.Items.{is, why, unless, is_hex, length_in, in_nine, in_six, in_reference, field, Names, named, after, names}
use Rattle.verdict.proofs.Items.Fields.{six_length, six_digits}
use Rattle.reason.proofs.Goes.{Goes, own, goes_next, all_there, fault_at}
use Rattle.reason.proofs.Fields.{Stands, no_carries, goes_unless, field_goes, AfterCountry}

-- the rules of characters that stand there
module _ {k at : ℕ} {s t : List ℕ} (st : Stands k s at t) where
  coded : Keeps s at (Rule.well_coded k)
  coded = (t, st.is_text_lem, st.here, tt)

  signer : 4 ≤ k → is_signer (take 4 t) ≡ true → Keeps s at (Rule.signer_characters k)
  signer h e = (t, st.is_text_lem, st.here, signer_of (take 4 t) (length-take-le 4 t (omega (arith, st.is_text_lem.0))) e)

  no_signer : is_signer (take 4 t) ≡ false → Keeps s at (Rule.signer_characters k) → ⊥
  no_signer e = no_carries (λ u. Signer (take 4 u)) st (λ l. not_true (sym e ∙ signer_passes (take 4 t) l))

  reference : (from : ℕ) → all is_reference (drop from t) ≡ true → Keeps s at (Rule.reference_characters k from)
  reference from e = (t, st.is_text_lem, st.here, all_of ReferenceCharacter is_reference reference_of (drop from t) e)

  no_reference : (from : ℕ) → all is_reference (drop from t) ≡ false → Keeps s at (Rule.reference_characters k from) → ⊥
  no_reference from e =
      no_carries (λ u. All ReferenceCharacter (drop from u)) st
      (λ a. not_true (sym e ∙ all_pass ReferenceCharacter is_reference reference_passes (drop from t) a))

-- version 3
three_goes : {s : List ℕ} {at : ℕ} → Bytes s → At s Item.names at
    → Goes s own (λ _ after. At s (Item.issued three) after) (names three at s)
three_goes {s} {at} bytes w =
    goes_next s item.Names Next (λ _ after. At s (Item.issued three) after) (field 9 in_nine at s)
    (λ t at. is (record { signer = take 4 t; reference = drop 4 t }) at)
    (field_goes Next bytes w 9 in_nine (Rule.signer_characters 9 ∷ Rule.reference_characters 9 4 ∷ []) (omega arith) refl
    (λ t h st. goes_unless (why item.Names) Next (is_signer (take 4 t)) rule.SignerCharacters
    (unless (all is_reference (drop 4 t)) rule.ReferenceCharacters none) t at (at + 6)
    (λ e. goes_unless (why item.Names) Next (all is_reference (drop 4 t)) rule.ReferenceCharacters none t at (at + 6)
    (λ f. on w (h, (coded st, (signer st (omega arith) e, (reference st 4 f, tt)))) (to_issued_3 at))
    (λ f. fault_at w (Rule.there 6 ∷ Rule.well_coded 9 ∷ Rule.signer_characters 9 ∷ []) (Rule.reference_characters 9 4) [] refl
    (h, (coded st, (signer st (omega arith) e, tt))) (no_reference st 4 f) at refl (all_there 6 at s h)))
    (λ e. fault_at w (Rule.there 6 ∷ Rule.well_coded 9 ∷ []) (Rule.signer_characters 9) (Rule.reference_characters 9 4 ∷ []) refl
    (h, (coded st, tt)) (no_signer st e) at refl (all_there 6 at s h))))
    (λ t at g. g)
  where
    Next : List ℕ → ℕ → Type 0
    Next t after = At s (Item.issued three) after

-- version 4: the digits of six characters, both ways
digits_of : (t : List ℕ) → length t ≡ 6 → is_hex t ≡ true → Digits (length_in t) t
digits_of [] l e = absurd (omega arith)
digits_of (a ∷ []) l e = absurd (omega arith)
digits_of (a ∷ b ∷ []) l e = absurd (omega arith)
digits_of (a ∷ b ∷ c ∷ []) l e = absurd (omega arith)
digits_of (a ∷ b ∷ c ∷ d ∷ []) l e = absurd (omega arith)
digits_of (a ∷ b ∷ c ∷ d ∷ x ∷ []) l e = absurd (omega arith)
digits_of (a ∷ b ∷ c ∷ d ∷ x ∷ y ∷ z ∷ t) l e = absurd (omega arith)
digits_of (a ∷ b ∷ c ∷ d ∷ x ∷ y ∷ []) l e =
    let r = both_true (ltb (hex_value x) 16) (ltb (hex_value y) 16) e in
    let n = hex_value x * 16 + hex_value y in
    let hx = ltb-true (hex_value x) 16 r.0 in
    let hy = ltb-true (hex_value y) 16 r.1 in
    let high : n / 16 ≡ hex_value x = omega arith in
    let low : n % 16 ≡ hex_value y = omega arith in (
      omega arith,
      ap (λ u. u ∷ y ∷ []) (sym (ap hex_digit high ∙ value_digit x hx))
          ∙ ap (λ u. hex_digit (n / 16) ∷ u ∷ []) (sym (ap hex_digit low ∙ value_digit y hy)),
    )

record HexRead (n : ℕ) (t : List ℕ) : Type 0 where
  passes : is_hex t ≡ true
  value : length_in t ≡ n

digits_read : (n : ℕ) (t : List ℕ) → length t ≡ 6 → Digits n t → HexRead n t
digits_read n t l d =
    let u = take 4 t in
    let size : length u ≡ 4 = length-take-le 4 t (omega arith) in
    let same : t ≡ u ++ hex_digits n = sym (take-append-drop 4 t) ∙ ap (λ z. u ++ z) d.1 in
    record { passes = ap is_hex same ∙ six_digits u n size d.0; value = ap length_in same ∙ six_length u n size d.0 }

-- the reference after six characters
reference_goes : {s : List ℕ} {at n : ℕ} → Bytes s → 0 < n → At s (Item.reference n) at
    → Goes s (why (item.Reference (width n))) (λ _ after. At s (Item.issued four) after) (field n in_reference at s)
reference_goes {s} {at} {n} bytes full w =
    field_goes Next bytes w n in_reference (Rule.reference_characters n 0 ∷ []) full refl
    (λ t h st. goes_unless (why (item.Reference (width n))) Next (all is_reference t) rule.ReferenceCharacters none t at (at + width n)
    (λ e. on w (h, (coded st, (reference st 0 e, tt))) (to_issued_4 at n))
    (λ e. fault_at w (Rule.there (width n) ∷ Rule.well_coded n ∷ []) (Rule.reference_characters n 0) [] refl (h, (coded st, tt))
    (no_reference st 0 e) at refl (all_there (width n) at s h)))
  where
    Next : List ℕ → ℕ → Type 0
    Next t after = At s (Item.issued four) after

-- the six characters
record SixRead (s : List ℕ) (t : List ℕ) (after : ℕ) : Type 0 where
  some : 0 < length_in t
  way : At s (Item.reference (length_in t)) after

six_goes : {s : List ℕ} {at : ℕ} → Bytes s → At s Item.signer_and_length at
    → Goes s (why item.SignerAndLength) (SixRead s) (field 6 in_six at s)
six_goes {s} {at} bytes w =
    field_goes (SixRead s) bytes w 6 in_six (Rule.signer_characters 6 ∷ Rule.hexadecimal_digits ∷ Rule.not_zero ∷ []) (omega arith) refl
    (λ t h st.
    let size = st.is_text_lem.0 in
    let value : is_hex t ≡ true → Digits (length_in t) t = digits_of t size in
    let there = all_there 4 at s h in
    let digits : is_hex t ≡ true → Keeps s at Rule.hexadecimal_digits = λ e. (t, st.is_text_lem, st.here, (length_in t, value e)) in
    goes_unless (why item.SignerAndLength) (SixRead s) (is_signer (take 4 t)) rule.SignerCharacters
    (unless (is_hex t) rule.HexadecimalDigits (unless (ltb 0 (length_in t)) rule.NotZero none)) t at (at + 4)
    (λ e. goes_unless (why item.SignerAndLength) (SixRead s) (is_hex t) rule.HexadecimalDigits
    (unless (ltb 0 (length_in t)) rule.NotZero none) t at (at + 4)
    (λ f. goes_unless (why item.SignerAndLength) (SixRead s) (ltb 0 (length_in t)) rule.NotZero none t at (at + 4)
    (λ g.
    let full = ltb-true 0 (length_in t) g in
    let not_none : Keeps s at Rule.not_zero = no_carries (Digits 0) st (λ d. omega (arith, (digits_read 0 t size d).value)) in
    record {
      some = full;
      way =
          on w (h, (coded st, (signer st (omega arith) e, (digits f, (not_none, tt)))))
          (to_reference at (length_in t) (t, st.is_text_lem, st.here, value f));
    })
    (λ g.
    let zero : length_in t ≡ 0 = omega (arith, ltb-false 0 (length_in t) g) in
    fault_at w (Rule.there 4 ∷ Rule.well_coded 6 ∷ Rule.signer_characters 6 ∷ Rule.hexadecimal_digits ∷ []) Rule.not_zero [] refl
    (h, (coded st, (signer st (omega arith) e, (digits f, tt))))
    (λ full. full (t, st.is_text_lem, st.here, subst (λ n. Digits n t) zero (value f))) at refl there))
    (λ f. fault_at w (Rule.there 4 ∷ Rule.well_coded 6 ∷ Rule.signer_characters 6 ∷ []) Rule.hexadecimal_digits (Rule.not_zero ∷ []) refl
    (h, (coded st, (signer st (omega arith) e, tt)))
    (no_carries (λ u. (n : ℕ) × Digits n u) st (λ d. not_true (sym f ∙ (digits_read d.0 t size d.1).passes))) at refl there))
    (λ e. fault_at w (Rule.there 4 ∷ Rule.well_coded 6 ∷ []) (Rule.signer_characters 6) (Rule.hexadecimal_digits ∷ Rule.not_zero ∷ []) refl
    (h, (coded st, tt)) (no_signer st e) at refl there))

four_goes : {s : List ℕ} {at : ℕ} → Bytes s → At s Item.signer_and_length at
    → Goes s own (λ _ after. At s (Item.issued four) after) (names four at s)
four_goes {s} {at} bytes w =
    goes_next s item.SignerAndLength (SixRead s) Next (field 6 in_six at s) (after s) (six_goes bytes w)
    (λ t mid g. goes_next s (item.Reference (width (length_in t))) (λ _ end. At s (Item.issued four) end) Next
    (field (length_in t) in_reference mid s) (named t) (reference_goes bytes g.some g.way) (λ u end k. k))
  where
    Next : Names → ℕ → Type 0
    Next n end = At s (Item.issued four) end

pub names_goes : (s : List ℕ) (at : ℕ) (v : Version) → Bytes s → AfterCountry s v at
    → Goes s own (λ _ after. At s (Item.issued v) after) (names v at s)
names_goes s at three bytes w = three_goes bytes w
names_goes s at four bytes w = four_goes bytes w
