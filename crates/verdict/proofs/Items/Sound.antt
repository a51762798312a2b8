-- Each item against the grammar, the other way: what is read as a value is the published form of that legal value, followed by the rest.
-- Assumes nothing.
use Rattle.std.specs.Prelude.{◌≡◌, refl, Bool, true, false, ℕ, ◌+◌, ◌≤◌, ◌<◌, List, [], ◌∷◌, ◌++◌, Result, Ok, Err, eqb, length, take, drop, get_or}
use Rattle.std.proofs.Common.{ap, sym, subst, ◌∙◌, arith, eqb-true, append_assoc, take-append-drop, length-drop, length-append, length-take-le, drop-drop, take_all}
use Rattle.std.proofs.Math.Option.{Option, none, some}
use Rattle.format.specs.Choice.{pick, within}
use Rattle.format.specs.Bytes.{Bytes}
use Rattle.format.specs.Bytes.Laws.{bytes_drop, bytes_take}
use Rattle.format.specs.BigEndian.{val}
use Rattle.format.specs.Answers.{result}
use Rattle.dates.specs.declared.Date.{Date}
use Rattle.dates.specs.Days.{is_day, Day, date_of, publish}
use Rattle.dates.proofs.Days.Laws.{length_publish}
use Rattle.format.specs.Choice.Laws.{within_both}
use Rattle.dates.proofs.Exact.{from_day, taken_published}
use Rattle.der.specs.Length.{Sized, form, is as told, read_length}
use Rattle.der.proofs.Lengths.Exact.{read_is_form}
use Rattle.der.specs.declared.Fault.{Fault}
use Rattle.der.specs.declared.Length.{Length}
use Rattle.grammar.specs.Legal.{LastByte, ValueSize}
use Rattle.grammar.specs.Content.{Version, three, four}
use Rattle.versions.specs.Versions.{version_byte, version_of_byte}
use Rattle.versions.proofs.Versions.Laws.{byte_of}
use Rattle.grammar.specs.Publish.{length_of}
use Rattle.causes.specs.declared.Item.{Item as Name}
use Rattle.causes.specs.declared.Rule.TheVariants as rule
use Rattle.verdict.specs.Items.{Read, Item, Way, is, not, why, next, pass, length_rule, byte, mark_in, version_at, version_in, last_in}
use Rattle.verdict.specs.Items.{date_in, plain_in, mark, version, last, date, der_of, der_length, feature_length}
use Rattle.verdict.proofs.Items.Laws.{unread, whole_read}

abbrev value_in : {R A : Type 0} → A → Read R A → A
value_in a (is b at) = b
value_in a (not why place) = a

abbrev place_in : {R A : Type 0} → Read R A → ℕ
place_in (is a at) = at
place_in (not why place) = 0

-- what stands at a place: these bytes, and then the rest
pub record Stands (form : List ℕ) (at after : ℕ) (s : List ℕ) : Type 0 where
  pub form_there : drop at s ≡ form ++ drop after s
  pub size : after ≡ at + length form

pub stands_append : (a b : List ℕ) (at mid after : ℕ) (s : List ℕ) → Stands a at mid s → Stands b mid after s → Stands (a ++ b) at after s
stands_append a b at mid after s f g = record {
  form_there = f.form_there ∙ ap (λ u. a ++ u) g.form_there ∙ sym (append_assoc a b (drop after s));
  size = omega (arith, f.size, g.size, length-append a b);
}

-- the parts of a reading in steps
pub record Step {R S A B : Type 0} (i : Read R A) (rest : A → ℕ → Read S B) (b : B) (after : ℕ) : Type 0 where
  pub value : A
  pub at : ℕ
  pub read : i ≡ is value at
  pub goes_on_lem : rest value at ≡ is b after

pub steps : {R A B : Type 0} (i : Read R A) (rest : A → ℕ → Read R B) (b : B) (after : ℕ) → pass i rest ≡ is b after → Step i rest b after
steps (is a at) rest b after e = record { value = a; at = at; read = refl; goes_on_lem = e }
steps (not why place) rest b after e = absurd (unread why place b after e)

pub steps_on : {A B : Type 0} (name : Name) (i : Item A) (rest : A → ℕ → Way B) (b : B) (after : ℕ) → next name i rest ≡ is b after
    → Step i rest b after
steps_on name (is a at) rest b after e = record { value = a; at = at; read = refl; goes_on_lem = e }
steps_on name (not rule place) rest b after e = absurd (unread (why name rule) place b after e)

-- k bytes that were read stand there
pub stands : (k at : ℕ) (s : List ℕ) → at + k ≤ length s → drop at s ≡ take k (drop at s) ++ drop (at + k) s
stands k at s h = sym (take-append-drop k (drop at s)) ∙ ap (λ u. take k (drop at s) ++ u) (drop-drop k at s)

pub length_taken : (k at : ℕ) (s : List ℕ) → at + k ≤ length s → length (take k (drop at s)) ≡ k
length_taken k at s h = length-take-le k (drop at s) (omega (arith, length-drop at s))

-- the value and place that were read
pub same_value : {R A : Type 0} (a b : A) (at after : ℕ) → ◌≡◌ {A = Read R A} (is a at) (is b after) → a ≡ b
same_value a b at after e = ap (λ i. value_in a i) e

pub same_place : {R A : Type 0} (a b : A) (at after : ℕ) → ◌≡◌ {A = Read R A} (is a at) (is b after) → at ≡ after
same_place a b at after e = ap place_in e

-- one byte
pub record OneByte {A : Type 0} (at : ℕ) (s : List ℕ) (f : ℕ → Item A) (a : A) (after : ℕ) : Type 0 where
  pub x : ℕ
  pub there : drop at s ≡ x ∷ drop (at + 1) s
  pub read : f x ≡ is a after

one : (s : List ℕ) → length s ≡ 1 → s ≡ get_or s 0 0 ∷ []
one [] e = absurd (omega arith)
one (x ∷ []) e = refl
one (x ∷ y ∷ s) e = absurd (omega arith)

pub byte_read : {A : Type 0} (at : ℕ) (s : List ℕ) (f : ℕ → Item A) (a : A) (after : ℕ) → byte at s f ≡ is a after → OneByte at s f a after
byte_read at s f a after e =
    let w = whole_read 1 at s (λ b. f (get_or b 0 0)) a after e in
    let t = take 1 (drop at s) in
    record {
      x = get_or t 0 0;
      there = stands 1 at s w.there ∙ ap (λ u. u ++ drop (at + 1) s) (one t (length_taken 1 at s w.there));
      read = w.read;
    }

-- a test that a value passed
pub passed : {R A : Type 0} (test : Bool) (i : Read R A) (why : R) (place : ℕ) (a : A) (after : ℕ)
    → pick test i (not why place) ≡ is a after → (test ≡ true) × (i ≡ is a after)
passed true i why place a after e = (refl, e)
passed false i why place a after e = absurd (unread why place a after e)

pub mark_read : (at : ℕ) (s : List ℕ) (a : Unit) (after : ℕ) → mark at s ≡ is a after → Stands (0xDC ∷ []) at after s
mark_read at s a after e =
    let b = byte_read at s (mark_in at) a after e in
    let p = passed (eqb b.x 0xDC) (is tt (at + 1)) rule.IsMark at a after b.read in
    let place = same_place tt a (at + 1) after p.1 in
    record {
      form_there = b.there ∙ ap (λ x. x ∷ drop (at + 1) s) (eqb-true b.x 0xDC p.0) ∙ ap (λ k. 0xDC ∷ drop k s) place;
      size = sym place;
    }

version_in_lem :
    (at x : ℕ) (o : Option Version) →
    version_of_byte x ≡ o →
    (v : Version) (after : ℕ) →
    version_at at o ≡ is v after →
    (x ≡ version_byte v) × (at + 1 ≡ after)
version_in_lem at x (some w) o v after e = (byte_of x w o ∙ ap version_byte (same_value w v (at + 1) after e), same_place w v (at + 1) after e)
version_in_lem at x none o v after e = absurd (unread rule.IsVersion at v after e)

pub version_read : (at : ℕ) (s : List ℕ) (v : Version) (after : ℕ) → version at s ≡ is v after → Stands (version_byte v ∷ []) at after s
version_read at s v after e =
    let b = byte_read at s (version_in at) v after e in
    let p = version_in_lem at b.x (version_of_byte b.x) refl v after b.read in
    record { form_there = b.there ∙ ap (λ x. x ∷ drop (at + 1) s) p.0 ∙ ap (λ k. version_byte v ∷ drop k s) p.1; size = sym p.1 }

pub last_read : (at : ℕ) (s : List ℕ) (x : ℕ) (after : ℕ) → last at s ≡ is x after → LastByte x × Stands (x ∷ []) at after s
last_read at s x after e =
    let b = byte_read at s (last_in at) x after e in
    let p = passed (within 1 254 b.x) (is b.x (at + 1)) rule.OneTo254 at x after b.read in
    let same = same_value b.x x (at + 1) after p.1 in
    let place = same_place b.x x (at + 1) after p.1 in (
      subst LastByte same (within_both 1 254 b.x p.0),
      record { form_there = b.there ∙ ap (λ y. y ∷ drop (at + 1) s) same ∙ ap (λ k. x ∷ drop k s) place; size = sym place },
    )

pub date_read : (at : ℕ) (s : List ℕ) (d : Date) (after : ℕ) → Bytes s → date at s ≡ is d after → Day d × Stands (publish d) at after s
date_read at s d after bytes e =
    let w = whole_read 3 at s (λ b. date_in at (date_of (val b 3))) d after e in
    let t = take 3 (drop at s) in
    let l = length_taken 3 at s w.there in
    let p = passed (is_day (date_of (val t 3))) (is (date_of (val t 3)) (at + 3)) rule.IsDay at d after w.read in
    let same = same_value (date_of (val t 3)) d (at + 3) after p.1 in
    let place = same_place (date_of (val t 3)) d (at + 3) after p.1 in
    let r = taken_published t (bytes_take 3 (drop at s) (bytes_drop at s bytes)) (omega arith) d
    (from_day (val t 3) p.0 ∙ ap result same) in
    let front : publish d ≡ t = r.1 ∙ take_all 3 t (omega arith) in (
      r.0,
      record {
        form_there = stands 3 at s w.there ∙ ap (λ u. u ++ drop (at + 3) s) (sym front) ∙ ap (λ k. publish d ++ drop k s) place;
        size = sym place ∙ ap (λ k. at + k) (sym (length_publish d));
      },
    )

-- a DER length, and a feature's
pub der_read : (at : ℕ) (s : List ℕ) (n after : ℕ) → Bytes s → der_length at s ≡ is n after → Sized n × Stands (form n) at after s
der_read at s n after bytes e = found (read_length (drop at s)) refl
  where
    found : (r : Result Length Fault) → read_length (drop at s) ≡ r → Sized n × Stands (form n) at after s
    found (Ok l) f =
        let m = l.size in
        let width = l.width in
        let g : ◌≡◌ {A = Item ℕ} (is m (at + width)) (is n after) = sym (ap (der_of at) f) ∙ e in
        let same = same_value m n (at + width) after g in
        let place = same_place m n (at + width) after g in
        let t = read_is_form (drop at s) (bytes_drop at s bytes) n width (f ∙ ap (λ k. told k width) same) in (
          t.sized,
          record {
            form_there =
                sym (take-append-drop width (drop at s))
                ∙ ap (λ u. u ++ drop width (drop at s)) (sym t.front)
                ∙ ap (λ u. form n ++ u) (drop-drop width at s)
                ∙ ap (λ k. form n ++ drop k s) place;
            size = sym place ∙ ap (λ k. at + k) (sym t.size);
          },
        )
    found (Err fault) f = absurd (unread (length_rule fault) at n after (sym (ap (der_of at) f) ∙ e))

pub feature_length_read :
    (v : Version) (at : ℕ) (s : List ℕ) (n after : ℕ) →
    Bytes s →
    feature_length v at s ≡ is n after →
    ValueSize v n × Stands (length_of v n) at after s
feature_length_read three at s n after bytes e =
    let b = byte_read at s (plain_in at) n after e in
    let same = same_value b.x n (at + 1) after b.read in
    let place = same_place b.x n (at + 1) after b.read in
    let low : b.x < 256 = subst (λ u. get_or u 0 0 < 256) b.there (bytes_drop at s bytes 0) in
    (omega arith, record { form_there = b.there ∙ ap (λ y. y ∷ drop (at + 1) s) same ∙ ap (λ k. n ∷ drop k s) place; size = sym place })
feature_length_read four at s n after bytes e = (tt, (der_read at s n after bytes e).1)
