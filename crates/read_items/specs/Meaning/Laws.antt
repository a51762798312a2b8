-- The items of numbers and dates by their tests, one law for each answer.
-- Assumes nothing.
use Rattle.std.specs.Prelude.{◌≡◌, refl, Bool, true, false, ℕ, ◌+◌, ◌≤◌, ◌<◌, List, [], ◌∷◌, ltb, length, take, drop, get_or, Result, Ok, Err, IsErrAnd}
use Rattle.std.proofs.lemmas.Result.{err_from_is_err_and}
use Rattle.std.proofs.Common.{ap, sym, subst, ◌∙◌, arith, add-zero, le-ltb, lt-ltb, le-leb, eq-eqb, ne_eqb, drop_of_length-le, get_or-take, get_or-drop}
use Rattle.std.proofs.lemmas.Bool.{lt-leb}
use Rattle.std.proofs.Math.Option.{none, some}
use Rattle.format.specs.Choice.{pick}
use Rattle.format.specs.Choice.Laws.{by_test}
use Rattle.format.specs.BigEndian.{val}
use Rattle.dates.specs.declared.Date.{Date}
use Rattle.dates.specs.Days.{is_day, date_of}
use Rattle.format.specs.Answers.{Valued, result, refusal}
use Rattle.dates.specs.Calls.{no_date, from_number}
use Rattle.der.specs.Length.{read_length}
use Rattle.versions.specs.declared.Version.{Version}
use Rattle.versions.specs.Versions.{version_of_byte}
use Rattle.causes.specs.declared.Item.{Item as Name}
use Rattle.causes.specs.declared.Rule.{Rule}
use Rattle.causes.specs.declared.Rule.TheVariants as rule
use Rattle.causes.specs.declared.Why.{Why}
use Rattle.read_items.specs.declared.cursor.Broken.{Broken}
use Rattle.read_items.specs.declared.cursor.Cursor.{Cursor}
use Rattle.read_items.specs.declared.cursor.Refusal.{Refusal}
use Rattle.verdict.specs.Items.{Item, Way, why, next, is, not, whole, byte, mark, version, last, last_in, date, date_in, plain_in, der_of}
use Rattle.verdict.specs.Items.{der_length, mark_in, version_at, version_in}
use Rattle.verdict.proofs.Items.Laws.{whole_read, unread}
use Rattle.read_items.specs.Meaning.{because, past, refused, refusal_of, step_of, item_of}

-- an item that is not read ends the reading, under its name
pub unread_on : {A B : Type 0} (name : Name) (i : Item A) (rest : A → ℕ → Way B) (rule : Rule) (place : ℕ) (w : Refusal)
    → w ≡ because (why name rule) place → not rule place ≡ i → not w.why w.place ≡ next name i rest
unread_on name i rest rule place w e f = ap (λ (z : Refusal). not z.why z.place) e ∙ ap (λ j. next name j rest) f

-- an item of k bytes that are not all there, or are
pub whole_cut : {A : Type 0} (k at : ℕ) (s : List ℕ) (f : List ℕ → Item A) → length s < at + k → not rule.There at ≡ whole k at s f
whole_cut k at s f h = ap (λ b. pick b (not rule.There at) (f (take k (drop at s)))) (sym (lt-ltb (length s) (at + k) h))

pub whole_is : {A : Type 0} (k at : ℕ) (s : List ℕ) (f : List ℕ → Item A) → at + k ≤ length s → whole k at s f ≡ f (take k (drop at s))
whole_is k at s f h = ap (λ b. pick b (not rule.There at) (f (take k (drop at s)))) (le-ltb (length s) (at + k) h)

-- the same of one byte
pub byte_cut : {A : Type 0} (at : ℕ) (s : List ℕ) (f : ℕ → Item A) → length s ≤ at → not rule.There at ≡ byte at s f
byte_cut at s f h = whole_cut 1 at s (λ b. f (get_or b 0 0)) (omega arith)

first : (at : ℕ) (s : List ℕ) → get_or (take 1 (drop at s)) 0 0 ≡ get_or s at 0
first at s = get_or-take 1 (drop at s) 0 0 (omega arith) ∙ get_or-drop at s 0 0 ∙ ap (λ i. get_or s i 0) (omega arith)

pub byte_is : {A : Type 0} (at : ℕ) (s : List ℕ) (f : ℕ → Item A) → at < length s → byte at s f ≡ f (get_or s at 0)
byte_is at s f h = whole_is 1 at s (λ b. f (get_or b 0 0)) (omega arith) ∙ ap f (first at s)

-- k bytes that were read whole, and what any judgement of them gives
pub record Past (k at : ℕ) (s : List ℕ) (after : ℕ) : Type 0 where
  pub there : at + k ≤ length s
  pub reached : after ≡ at + k

place_of : {A : Type 0} → Item A → ℕ
place_of (is a at) = at
place_of (not rule place) = place

pub past_whole : (k at : ℕ) (s : List ℕ) (after : ℕ) → is tt after ≡ whole k at s (past k at) → Past k at s after
unfolding place_of
past_whole k at s after e =
    let w = whole_read k at s (past k at) tt after (sym e) in
    record { there = w.there; reached = ap place_of (sym w.read) }

pub judged :
    {A : Type 0} (k at : ℕ) (s : List ℕ) (after : ℕ) (f : List ℕ → Item A) →
    Past k at s after →
    whole k at s f ≡ f (take k (drop at s))
judged k at s after f p = whole_is k at s f p.there

pub whole_none : {A : Type 0} (k at : ℕ) (s : List ℕ) (f : List ℕ → Item A) → not rule.There at ≡ whole k at s (past k at)
    → not rule.There at ≡ whole k at s f
whole_none k at s f e =
    by_test (ltb (length s) (at + k))
    (λ less. ap (λ b. pick b (not rule.There at) (f (take k (drop at s)))) (sym less))
    (λ more. absurd (unread rule.There at tt (at + k) (e ∙ ap (λ b. pick b (not rule.There at) (is tt (at + k))) more)))

-- one byte that was read
pub record Read (at : ℕ) (s : List ℕ) (x after : ℕ) : Type 0 where
  pub there : at < length s
  pub reached : after ≡ at + 1
  pub is_byte : x ≡ get_or s at 0

value_of : ℕ → Item ℕ → ℕ
value_of d (is a at) = a
value_of d (not rule place) = d

pub read_byte : (at : ℕ) (s : List ℕ) (x after : ℕ) → is x after ≡ byte at s (plain_in at) → Read at s x after
unfolding place_of value_of
read_byte at s x after e =
    let w = whole_read 1 at s (λ b. plain_in at (get_or b 0 0)) x after (sym e) in
    record {
      there = omega (arith, w.there);
      reached = ap place_of (sym w.read);
      is_byte = sym (ap (value_of 0) w.read) ∙ first at s;
    }

pub judged_byte : {A : Type 0} (at : ℕ) (s : List ℕ) (x after : ℕ) (f : ℕ → Item A) → Read at s x after → byte at s f ≡ f x
judged_byte at s x after f r = byte_is at s f r.there ∙ ap f (sym r.is_byte)

pub byte_none : {A : Type 0} (at : ℕ) (s : List ℕ) (f : ℕ → Item A) → not rule.There at ≡ byte at s (plain_in at)
    → not rule.There at ≡ byte at s f
byte_none at s f e =
    by_test (ltb (length s) (at + 1))
    (λ less. ap (λ b. pick b (not rule.There at) (f (get_or (take 1 (drop at s)) 0 0))) (sym less))
    (λ more.
    absurd
    (unread rule.There at (get_or (take 1 (drop at s)) 0 0) (at + 1)
    (e ∙ ap (λ b. pick b (not rule.There at) (plain_in at (get_or (take 1 (drop at s)) 0 0))) more)))

-- DC
module _ (at : ℕ) (s : List ℕ) (x after : ℕ) (b : Read at s x after) where
  pub mark_is : x ≡ 0xDC → is tt after ≡ mark at s
  mark_is d =
      let read = judged_byte at s x after (mark_in at) b in
      ap (is tt) b.reached ∙ sym (ap (λ t. pick t (is tt (at + 1)) (not rule.IsMark at)) (eq-eqb x 0xDC d)) ∙ sym read

  pub mark_wrong : (x ≡ 0xDC → ⊥) → not rule.IsMark at ≡ mark at s
  mark_wrong d =
      let read = judged_byte at s x after (mark_in at) b in
      sym (ap (λ t. pick t (is tt (at + 1)) (not rule.IsMark at)) (ne_eqb x 0xDC d)) ∙ sym read

  -- the version
  pub version_is : (v : Version) → some v ≡ version_of_byte x → is v after ≡ version at s
  version_is v e = ap (is v) b.reached ∙ ap (version_at at) e ∙ sym (judged_byte at s x after (version_in at) b)

  pub version_wrong : none ≡ version_of_byte x → not rule.IsVersion at ≡ version at s
  version_wrong e = ap (version_at at) e ∙ sym (judged_byte at s x after (version_in at) b)

  -- definition reference and category
  pub last_is : 0 < x → x ≤ 254 → is x after ≡ last at s
  last_is low high =
      let read = judged_byte at s x after (last_in at) b in
      let result : last_in at x ≡ is x (at + 1) = rw (le-leb 1 x low, le-leb x 254 high) refl in
      ap (is x) b.reached ∙ sym result ∙ sym read

  pub last_low : x ≡ 0 → not rule.OneTo254 at ≡ last at s
  last_low low =
      let read = judged_byte at s x after (last_in at) b in
      let result : last_in at x ≡ not rule.OneTo254 at = rw (lt-leb 1 x (omega arith)) refl in
      sym result ∙ sym read

  pub last_high : 254 < x → not rule.OneTo254 at ≡ last at s
  last_high high =
      let read = judged_byte at s x after (last_in at) b in
      let result : last_in at x ≡ not rule.OneTo254 at = rw (le-leb 1 x (omega arith), lt-leb x 254 high) refl in
      sym result ∙ sym read

-- a date: the number in its three bytes
three_bytes : (at : ℕ) (s : List ℕ) → val (take 3 (drop at s)) 3 ≡ val (get_or s at 0 ∷ get_or s (at + 1) 0 ∷ get_or s (at + 2) 0 ∷ []) 3
unfolding val
three_bytes at s =
    let byte_at : (i : ℕ) → i < 3 → get_or (take 3 (drop at s)) i 0 ≡ get_or s (at + i) 0 =
    λ i h. get_or-take 3 (drop at s) i 0 h ∙ get_or-drop at s i 0 in
    rw (byte_at 0 (omega arith), byte_at 1 (omega arith), byte_at 2 (omega arith), add-zero at) refl

module _ (at : ℕ) (s : List ℕ) (after : ℕ) (p : Past 3 at s after) (d : Date)
    (is_date : date_of (val (get_or s at 0 ∷ get_or s (at + 1) 0 ∷ get_or s (at + 2) 0 ∷ []) 3) ≡ d) where
  date_read : date at s ≡ date_in at d
  date_read =
      judged 3 at s after (λ bytes. date_in at (date_of (val bytes 3))) p
      ∙ ap (λ n. date_in at (date_of n)) (three_bytes at s)
      ∙ ap (date_in at) is_date

  pub date_is : is_day d ≡ true → is d after ≡ date at s
  date_is h =
      ap (is d) p.reached ∙ sym (ap (λ t. pick t (is d (at + 3)) (not rule.IsDay at)) h) ∙ sym date_read

  pub date_wrong : is_day d ≡ false → not rule.IsDay at ≡ date at s
  date_wrong h = sym (ap (λ t. pick t (is d (at + 3)) (not rule.IsDay at)) h) ∙ sym date_read

-- a DER length, where the place is past the end
pub der_past : (at : ℕ) (s : List ℕ) → length s < at → not rule.There at ≡ der_length at s
unfolding read_length
der_past at s h = ap (λ t. der_of at (read_length t)) (sym (drop_of_length-le s {i = at} (omega arith)))

-- what a date's number answers tells whether there is such a day
chosen : Bool → ℕ → Valued Date
chosen b n = pick b (result (date_of n)) (refusal no_date 6)

pub taken_day : (n : ℕ) (d : Date) → result d ≡ from_number n → (date_of n ≡ d) × (is_day d ≡ true)
unfolding from_number chosen
taken_day n d e =
    by_test (is_day (date_of n))
    (λ h. let same : date_of n ≡ d = sym (ap (λ g. g.value) (e ∙ ap (λ b. chosen b n) h)) in (same, subst (λ x. is_day x ≡ true) same h))
    (λ h. let z : ◌≡◌ {A = ℕ} 0 6 = ap (λ g. g.number) (e ∙ ap (λ b. chosen b n) h) in absurd (omega arith))

pub taken_none : (n : ℕ) → refusal no_date 6 ≡ from_number n → is_day (date_of n) ≡ false
unfolding from_number chosen
taken_none n e =
    by_test (is_day (date_of n))
    (λ h. let z : ◌≡◌ {A = ℕ} 6 0 = ap (λ g. g.number) (e ∙ ap (λ b. chosen b n) h) in absurd (omega arith))
    (λ h. h)

-- what a refusal says of the items whose refusal it is
pub says : {B : Type 0} (w : Refusal) (y : Why) (place : ℕ) (i : Way B) → w ≡ because y place → not y place ≡ i
    → not w.why w.place ≡ i
says w y place i e f = ap (λ (z : Refusal). not z.why z.place) e ∙ f

-- the refusal of an item is that of its meaning
pub refusal_of_step : {A : Type 0} (item : Name) (x : A) (r : Result Cursor Broken) → refused item (step_of x r) ≡ refusal_of item r
refusal_of_step item x (Ok next) = refl
refusal_of_step item x (Err broken) = refl

pub refusal_of_item : {A : Type 0} (item : Name) (r : Result (A × Cursor) Broken) → refused item (item_of r) ≡ refusal_of item r
refusal_of_item item (Ok read) = refl
refusal_of_item item (Err broken) = refl

-- what is returned where a `?` ends a function
pub left : {T E : Type 0} (r : Result T E) (w : E) → IsErrAnd r (λ y. y ≡ w) → r ≡ Err w
left r w h = let p = err_from_is_err_and r h in p.1 ∙ ap Err p.2
