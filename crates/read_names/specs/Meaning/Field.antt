-- Laws of a field of C40 text: by the bytes that are there, by the text that they carry, and by the rules that the text keeps.
-- Assumes nothing.
use Rattle.std.specs.Prelude.{◌≡◌, ℕ, ◌+◌, ◌-◌, ◌<◌, ◌≤◌, List, ltb, length, take, drop}
use Rattle.std.specs.Prelude.{Option as CodeOption, Some, None}
use Rattle.std.proofs.Math.Path.{refl, ap}
use Rattle.std.proofs.Common.{sym, subst, ◌∙◌, arith}
use Rattle.std.proofs.Math.Option.{Option}
use Rattle.format.specs.Choice.{pick}
use Rattle.format.specs.Choice.Laws.{by_test}
use Rattle.c40.specs.Text.{width}
use Rattle.c40.specs.Decode.{decode}
use Rattle.causes.specs.declared.Rule.{Rule}
use Rattle.causes.specs.declared.Rule.TheVariants as rule
use Rattle.verdict.specs.Items.{Item, Exact, exact, wrong_at, is, not, pass, whole, exactly, judged_by, field_in, field}
use Rattle.verdict.proofs.Items.Sound.{length_taken}
use Rattle.verdict.proofs.Items.Wrong.{wrong_first}
use Rattle.read_items.specs.Meaning.Laws.{whole_is, whole_none, past_whole}
use Rattle.read_items.specs.Meaning.{whole_of, past}
use Rattle.read_names.specs.Meaning.{any_text}
use Rattle.read_items.specs.declared.cursor.Cursor.{Cursor}

-- what a skip says of a field of k characters
module _ (k size at : ℕ) (s : List ℕ) (wide : size ≡ width k) (r : CodeOption Cursor) (skipped : whole_of at r ≡ whole size at s (past size at)) where
  pub field_cut : r ≡ None → not rule.There at ≡ field k any_text at s
  field_cut e =
      whole_none (width k) at s (λ bytes. field_in k any_text at (exactly k (decode 0 bytes)))
      (subst (λ n. not rule.There at ≡ whole n at s (past n at)) wide (sym (ap (whole_of at) e) ∙ skipped))

  pub field_place : (n : Cursor) → r ≡ Some n → (n.place ≡ at + width k) × (at + width k ≤ length s)
  field_place n e =
      let p = past_whole size at s n.place (sym (ap (whole_of at) e) ∙ skipped) in
      (omega (arith, p.reached), omega (arith, p.there))

-- the bytes up to the next place are as many as a field takes
pub field_wide : (k at n : ℕ) (s : List ℕ) → (n ≡ at + width k) × (at + width k ≤ length s) → length (take (n - at) (drop at s)) ≡ width k
field_wide k at n s there =
    let e : n - at ≡ width k = omega (arith, there.0) in
    ap (λ m. length (take m (drop at s))) e ∙ length_taken (width k) at s there.1

-- a field whose bytes are there, by what they carry
module _ (k at n : ℕ) (s : List ℕ) (there : (n ≡ at + width k) × (at + width k ≤ length s)) where
  field_in_lem : (x : Exact) → x ≡ exactly k (decode 0 (take (n - at) (drop at s))) → field_in k any_text at x ≡ field k any_text at s
  field_in_lem x e =
      let same : n - at ≡ width k = omega (arith, there.0) in
      ap (field_in k any_text at) (e ∙ ap (λ m. exactly k (decode 0 (take m (drop at s)))) same)
      ∙ sym (whole_is (width k) at s (λ bytes. field_in k any_text at (exactly k (decode 0 bytes))) there.1)

  pub field_coded : (out : List ℕ) → exact out ≡ exactly k (decode 0 (take (n - at) (drop at s))) → is out n ≡ field k any_text at s
  field_coded out e = ap (is out) there.0 ∙ field_in_lem (exact out) e

  pub field_wrong : (pair : ℕ) → wrong_at pair ≡ exactly k (decode 0 (take (n - at) (drop at s)))
      → not rule.WellCoded (at + pair) ≡ field k any_text at s
  field_wrong pair e = field_in_lem (wrong_at pair) e

  -- a wrong pair lies in the field
  pub field_inside : 0 < k → (pair : ℕ) → wrong_at pair ≡ exactly k (decode 0 (take (n - at) (drop at s))) → at + pair + 2 ≤ length s
  field_inside full pair e =
      let bytes = take (n - at) (drop at s) in
      let inside = (wrong_first k bytes full (field_wide k at n s there) pair (sym e)).inside in
      omega (arith, inside, field_wide k at n s there, there.1)

-- any text, and then its rules
module _ (k : ℕ) (broken : List ℕ → Option Rule) (at : ℕ) (s : List ℕ) where
  asked : List ℕ → ℕ → Item (List ℕ)
  asked t n = judged_by (broken t) t at n

  asked_in : (x : Exact) → pass (field_in k any_text at x) asked ≡ field_in k broken at x
  unfolding asked
  asked_in (exact t) = refl
  asked_in (wrong_at pair) = refl

  asked_of : pass (field k any_text at s) asked ≡ field k broken at s
  asked_of =
      let x = exactly k (decode 0 (take (width k) (drop at s))) in
      by_test (ltb (length s) (at + width k))
      (λ e.
      ap (λ b. pass (pick b (not rule.There at) (field_in k any_text at x)) asked) e
      ∙ sym (ap (λ b. pick b (not rule.There at) (field_in k broken at x)) e))
      (λ e.
      ap (λ b. pass (pick b (not rule.There at) (field_in k any_text at x)) asked) e
      ∙ asked_in x
      ∙ sym (ap (λ b. pick b (not rule.There at) (field_in k broken at x)) e))

  -- one law for every kind of text: what was read is judged by its rules, and what was not stays so
  pub field_judged : (out : List ℕ) (n : ℕ) → is out n ≡ field k any_text at s → judged_by (broken out) out at n ≡ field k broken at s
  unfolding asked
  field_judged out n e = ap (λ i. pass i asked) e ∙ asked_of

  pub field_unread : (rule : Rule) (place : ℕ) → not rule place ≡ field k any_text at s → not rule place ≡ field k broken at s
  field_unread rule place e = ap (λ i. pass i asked) e ∙ asked_of
