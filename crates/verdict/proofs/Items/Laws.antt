-- Each item against the grammar: a legal value's published form is read as that value and the place after it
-- (complete), and what is read as a
-- value is its published form (sound).
-- Assumes nothing.
use Rattle.std.specs.Prelude.{◌≡◌, refl, false, ℕ, ◌+◌, ◌-◌, ◌≤◌, List, [], ◌∷◌, ◌++◌, ltb, length, take, drop, get_or}
use Rattle.std.proofs.Common.{ap, sym, subst, ◌∙◌, arith, le-ltb, eq-eqb, ltb-false, length-append, take_at, drop_at}
use Rattle.std.proofs.Math.Option.{Option, none}
use Rattle.format.specs.Choice.{pick}
use Rattle.format.specs.Choice.Laws.{by_test, within_true}
use Rattle.format.specs.BigEndian.{val}
use Rattle.c40.specs.Text.{TextOf, width, publish as c40}
use Rattle.c40.specs.Text.Laws.{length_publish as length_c40}
use Rattle.c40.specs.Decode.{decode}
use Rattle.c40.proofs.Exact.{published_decodes}
use Rattle.dates.specs.declared.Date.{Date}
use Rattle.dates.specs.Days.{Day, date_of, publish}
use Rattle.dates.proofs.Days.Laws.{length_publish, val_publish, number_date}
use Rattle.der.specs.Length.{Sized, form}
use Rattle.der.proofs.Lengths.Exact.{form_reads}
use Rattle.grammar.specs.Content.{Version, three, four}
use Rattle.versions.specs.Versions.{version_byte}
use Rattle.versions.proofs.Versions.Laws.{byte_back_lem}
use Rattle.grammar.specs.Publish.{length_of}
use Rattle.grammar.specs.Legal.{LastByte}
use Rattle.causes.specs.declared.Rule.{Rule}
use Rattle.causes.specs.declared.Rule.TheVariants as rule
use Rattle.verdict.specs.Items.{Read, Item, is, not, exact, wrong_at, judged_by, whole, byte, mark_in, version_at, version_in, last_in}
use Rattle.verdict.specs.Items.{date_in, plain_in, exactly, field_in, field, mark, version, last, date, der_of, der_length, feature_length}

-- k bytes that stand after p are taken whole
pub whole_there : {A : Type 0} (k : ℕ) (p b t : List ℕ) (f : List ℕ → Item A) → length b ≡ k → whole k (length p) (p ++ (b ++ t)) f ≡ f b
whole_there k p b t f e =
    let room : ltb (length (p ++ (b ++ t))) (length p + k) ≡ false =
    le-ltb (length (p ++ (b ++ t))) (length p + k) (omega (arith, length-append p (b ++ t), length-append b t)) in
    rw (room, drop_at p (b ++ t) (length p) refl, take_at b t k e) refl

-- what the reading of k bytes gives
pub record Whole {A : Type 0} (k at : ℕ) (s : List ℕ) (f : List ℕ → Item A) (a : A) (after : ℕ) : Type 0 where
  pub there : at + k ≤ length s
  pub read : f (take k (drop at s)) ≡ is a after

abbrev Unread : {R A : Type 0} → Read R A → Type 0
Unread (is a at) = ⊥
Unread (not why place) = Unit

pub unread : {R A : Type 0} (why : R) (place : ℕ) (a : A) (after : ℕ) → not why place ≡ is a after → ⊥
unread why place a after e = subst Unread e tt

pub whole_read :
    {A : Type 0} (k at : ℕ) (s : List ℕ) (f : List ℕ → Item A) (a : A) (after : ℕ) →
    whole k at s f ≡ is a after →
    Whole k at s f a after
whole_read k at s f a after e =
    by_test (ltb (length s) (at + k))
    (λ short. absurd (unread rule.There at a after (sym (ap (λ b. pick b (not rule.There at) (f (take k (drop at s)))) short) ∙ e)))
    (λ long.
    record {
      there = ltb-false (length s) (at + k) long;
      read = sym (ap (λ b. pick b (not rule.There at) (f (take k (drop at s)))) long) ∙ e;
    })

-- one byte after p
pub byte_there : {A : Type 0} (p : List ℕ) (x : ℕ) (t : List ℕ) (f : ℕ → Item A) → byte (length p) (p ++ (x ∷ t)) f ≡ f x
byte_there p x t f = whole_there 1 p (x ∷ []) t (λ b. f (get_or b 0 0)) refl

-- DC, the version, the two last bytes, a date
pub mark_there : (p t : List ℕ) → mark (length p) (p ++ (0xDC ∷ t)) ≡ is tt (length p + 1)
mark_there p t = byte_there p 0xDC t (mark_in (length p))

pub version_there : (p : List ℕ) (v : Version) (t : List ℕ) → version (length p) (p ++ (version_byte v ∷ t)) ≡ is v (length p + 1)
version_there p v t = byte_there p (version_byte v) t (version_in (length p)) ∙ ap (version_at (length p)) (byte_back_lem v)

pub last_there : (p : List ℕ) (x : ℕ) (t : List ℕ) → LastByte x → last (length p) (p ++ (x ∷ t)) ≡ is x (length p + 1)
last_there p x t l =
    byte_there p x t (last_in (length p))
    ∙ ap (λ b. pick b (is x (length p + 1)) (not rule.OneTo254 (length p))) (within_true 1 254 x l.0 l.1)

pub date_there : (p : List ℕ) (d : Date) (t : List ℕ) → Day d → date (length p) (p ++ (publish d ++ t)) ≡ is d (length p + 3)
date_there p d t day =
    whole_there 3 p (publish d) t (λ bytes. date_in (length p) (date_of (val bytes 3))) (length_publish d)
    ∙ ap (date_in (length p)) (ap date_of (val_publish d day) ∙ number_date d day)
    ∙ ap (λ b. pick b (is d (length p + 3)) (not rule.IsDay (length p))) day

-- a DER length
pub der_there : (p : List ℕ) (n : ℕ) (t : List ℕ) → Sized n → der_length (length p) (p ++ (form n ++ t)) ≡ is n (length p + length (form n))
der_there p n t h = rw (drop_at p (form n ++ t) (length p) refl) (ap (der_of (length p)) (form_reads n h t))

pub feature_length_there :
    (v : Version) (p : List ℕ) (n : ℕ) (t : List ℕ) →
    Sized n →
    feature_length v (length p) (p ++ (length_of v n ++ t)) ≡ is n (length p + length (length_of v n))
feature_length_there three p n t h = byte_there p n t (plain_in (length p))
feature_length_there four p n t h = der_there p n t h

-- text of k characters that breaks no rule
pub field_there : (k : ℕ) (broken : List ℕ → Option Rule) (p t rest : List ℕ) → TextOf k t → broken t ≡ none
    → field k broken (length p) (p ++ (c40 t ++ rest)) ≡ is t (length p + width k)
field_there k broken p t rest h keeps =
    whole_there (width k) p (c40 t) rest (λ bytes. field_in k broken (length p) (exactly k (decode 0 bytes)))
    (length_c40 t ∙ ap width h.0)
    ∙ ap (λ d. field_in k broken (length p) (exactly k d)) (published_decodes t h.1 0)
    ∙ ap (λ b. field_in k broken (length p) (pick b (exact t) (wrong_at (width k - 2)))) (eq-eqb (length t) k h.0)
    ∙ ap (λ o. judged_by o t (length p) (length p + width k)) keeps
