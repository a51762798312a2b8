-- The items of one byte and of three: mark, version, dates, definition, category.
-- Assumes nothing.
use Rattle.std.specs.Prelude.{◌≡◌, refl, ℕ, ◌+◌, ◌≤◌, List, [], ◌∷◌, eqb, length, take, drop, get_or}
use Rattle.std.proofs.Common.{ap, sym, subst, ◌∙◌, arith, eqb-true, take_all}
use Rattle.std.proofs.Math.Option.{Option, none, some, none-ne-some}
use Rattle.std.proofs.lemmas.Bool.{eqb-false}
use Rattle.format.specs.Bytes.{All, Bytes}
use Rattle.format.specs.Bytes.Laws.{bytes_drop, bytes_take}
use Rattle.format.specs.BigEndian.{val}
use Rattle.format.specs.Choice.{within}
use Rattle.format.specs.Choice.Laws.{not_true, within_both, within_true}
use Rattle.dates.specs.Days.{is_day, date_of, publish as date_form}
use Rattle.dates.proofs.Days.Laws.{length_publish, val_publish, number_date}
use Rattle.dates.proofs.Exact.{from_day, taken_published}
use Rattle.versions.specs.Versions.{version_of_byte}
use Rattle.versions.proofs.Versions.Laws.{byte_of, byte_back_lem}
use Rattle.grammar.specs.Content.{Version}
use Rattle.causes.specs.declared.Item.TheVariants as item
use Rattle.causes.specs.declared.Rule.TheVariants as rule
use Rattle.rules.specs.Rules.{Rule, Keeps}
use Rattle.rules.specs.Layout.{Item, rules_of, At, on, named, to_version, to_country}
use Rattle.verdict.specs.Items.{is, not, why, mark, mark_in, version, version_in, version_at, last, last_in, date, date_in}
use Rattle.verdict.proofs.Items.Sound.{length_taken}
use Rattle.reason.specs.Judged.{item_size}
use Rattle.reason.proofs.Goes.{Goes, goes_pick, all_there, fault_at, goes_whole, goes_byte}

pub mark_goes : {s : List ℕ} {at : ℕ} → At s Item.mark at → Goes s (why item.Mark) (λ _ after. At s Item.version after) (mark at s)
mark_goes {s} {at} w =
    goes_byte w (λ _ after. At s Item.version after) (mark_in at) (Rule.is_mark ∷ []) refl
    (λ h. goes_pick s (why item.Mark) (λ _ after. At s Item.version after) (eqb (get_or s at 0) 0xDC) (is tt (at + 1)) (not rule.IsMark at)
    (λ e. on w (h, (eqb-true (get_or s at 0) 0xDC e, tt)) (to_version at))
    (λ e. fault_at w (Rule.there 1 ∷ []) Rule.is_mark [] refl (h, tt) (eqb-false (get_or s at 0) 0xDC e) at refl (all_there 1 at s h)))

pub version_goes : {s : List ℕ} {at : ℕ} → At s Item.version at
    → Goes s (why item.Version) (λ v after. At s (Item.country v) after) (version at s)
version_goes {s} {at} w = goes_byte w Good (version_in at) (Rule.is_version ∷ []) refl (λ h. by h (version_of_byte x) refl)
  where
    Good : Version → ℕ → Type 0
    Good v after = At s (Item.country v) after

    x : ℕ
    x = get_or s at 0

    by : at + 1 ≤ length s → (o : Option Version) → version_of_byte x ≡ o → Goes s (why item.Version) Good (version_at at o)
    by h (some v) e = on w (h, ((v, byte_of x v e), tt)) (to_country at v (byte_of x v e))
    by h none e =
        fault_at w (Rule.there 1 ∷ []) Rule.is_version [] refl (h, tt)
        (λ k. none-ne-some k.0 (sym e ∙ ap version_of_byte k.1 ∙ byte_back_lem k.0))
        at refl (all_there 1 at s h)

-- definition and category
pub last_goes : {s : List ℕ} {i j : Item} {at : ℕ} → At s i at → Rule.there 1 ∷ Rule.one_to254 ∷ [] ≡ rules_of i → 1 ≡ item_size (named i)
    → (All (Keeps s at) (rules_of i) → At s j (at + 1)) → Goes s (why (named i)) (λ _ after. At s j after) (last at s)
last_goes {s} {i} {j} {at} w own size go =
    goes_byte w (λ _ after. At s j after) (last_in at) (Rule.one_to254 ∷ []) own
    (λ h. goes_pick s (why (named i)) (λ _ after. At s j after) (within 1 254 x) (is x (at + 1)) (not rule.OneTo254 at)
    (λ e. go (subst (All (Keeps s at)) own (h, (within_both 1 254 x e, tt))))
    (λ e. fault_at w (Rule.there 1 ∷ []) Rule.one_to254 [] own (h, tt) (λ k. not_true (sym e ∙ within_true 1 254 x k.0 k.1))
    at refl (all_there 1 at s h ∙ size)))
  where
    x : ℕ
    x = get_or s at 0

-- a date
pub date_goes : {s : List ℕ} {i j : Item} {at : ℕ} → Bytes s → At s i at → Rule.there 3 ∷ Rule.is_day ∷ [] ≡ rules_of i
    → 3 ≡ item_size (named i) → (All (Keeps s at) (rules_of i) → At s j (at + 3))
    → Goes s (why (named i)) (λ _ after. At s j after) (date at s)
date_goes {s} {i} {j} {at} bytes w own size go =
    goes_whole w (λ _ after. At s j after) 3 (λ b. date_in at (date_of (val b 3))) (Rule.is_day ∷ []) own
    (λ h. goes_pick s (why (named i)) (λ _ after. At s j after) (is_day (date_of (val b 3))) (is (date_of (val b 3)) (at + 3))
    (not rule.IsDay at)
    (λ e.
    let d = date_of (val b 3) in
    let long = length_taken 3 at s h in
    let t = taken_published b (bytes_take 3 (drop at s) (bytes_drop at s bytes)) (omega arith) d (from_day (val b 3) e) in
    let here : take (length (date_form d)) (drop at s) ≡ date_form d =
    ap (λ n. take n (drop at s)) (length_publish d) ∙ sym (t.1 ∙ take_all 3 b (omega arith)) in
    go (subst (All (Keeps s at)) own (h, ((d, e, here), tt))))
    (λ e. fault_at w (Rule.there 3 ∷ []) Rule.is_day [] own (h, tt)
    (λ k.
    let d = k.0 in
    let same : b ≡ date_form d = ap (λ n. take n (drop at s)) (sym (length_publish d)) ∙ k.2 in
    let is_d : date_of (val b 3) ≡ d = ap (λ u. date_of (val u 3)) same ∙ ap date_of (val_publish d k.1) ∙ number_date d k.1 in
    not_true (sym e ∙ ap is_day is_d ∙ k.1))
    at refl (all_there 3 at s h ∙ size)))
  where
    b : List ℕ
    b = take 3 (drop at s)
