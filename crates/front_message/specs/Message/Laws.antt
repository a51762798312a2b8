-- Small laws: the first byte of a string and the rest; a tag that was not used; a number in the form of a length;
-- features one by one.
-- Assumes nothing.
use Rattle.std.specs.Prelude.{◌≡◌, refl, Bool, true, false, List, [], ◌∷◌, ◌++◌, ℕ, ◌+◌, ◌*◌, ◌/◌, ◌%◌, ◌≤◌, ◌<◌, ltb, eqb, length, get_or}
use Rattle.std.proofs.Common.{ap, sym, ◌∙◌, append_assoc, arith, le-ltb}
use Rattle.std.proofs.lemmas.Bool.{eqb-false}
use Rattle.format.specs.BigEndian.{be}
use Rattle.format.specs.BigEndian.Laws.{be_two}
use Rattle.format.specs.Choice.{either}
use Rattle.format.specs.Choice.Laws.{by_test, not_true}
use Rattle.der.specs.Length.{form}
use Rattle.der.proofs.Lengths.Exact.{form_short, form_long, form_some}
use Rattle.grammar.specs.Content.{Version, three, four, Feature}
use Rattle.grammar.specs.Publish.{length_of, message_zone}
use Rattle.grammar.specs.Legal.{Unused}
use Rattle.grammar.proofs.Sizes.{has}

-- the same first byte
pub head_is : {x y : ℕ} {s t : List ℕ} → x ∷ s ≡ y ∷ t → x ≡ y
head_is e = cc

-- and the same rest
pub tail_is : {x y : ℕ} {s t : List ℕ} → x ∷ s ≡ y ∷ t → s ≡ t
tail_is e = cc

-- a test has one answer
pub not_both : {b : Bool} → b ≡ true → b ≡ false → ⊥
not_both e f = not_true (sym f ∙ e)

-- a test of two parts that fails: both fail
pub neither : (a b : Bool) → either a b ≡ false → (a ≡ false) × (b ≡ false)
neither true b e = absurd (not_true (sym e))
neither false b e = (refl, e)

-- a tag that is not among those used
pub not_unused : (k : ℕ) (used : List ℕ) → has k used ≡ false → Unused k used
unfolding has
not_unused k [] e = tt
not_unused k (t ∷ used) e =
    let p = neither (eqb k t) (has k used) e in
    (eqb-false k t p.0, not_unused k used p.1)

-- the form of 128 to 255
pub form_one : (n : ℕ) → 128 ≤ n → n < 256 → form n ≡ 0x81 ∷ n ∷ []
unfolding be
form_one n h l =
    let low : n % 256 ≡ n = omega arith in
    form_long 1 (omega arith) (omega arith) n h l ∙ ap (λ b. 0x81 ∷ b ∷ []) low

-- the form of 256 to 65,535
pub form_two : (n : ℕ) → 256 ≤ n → n < 65536 → form n ≡ 0x82 ∷ n / 256 ∷ n % 256 ∷ []
form_two n h l = form_long 2 (omega arith) (omega arith) n h l ∙ ap (λ b. 0x82 ∷ b) (be_two n l)

-- the same, from its two bytes
pub form_bytes : (high low : ℕ) → 1 ≤ high → high < 256 → low < 256 → form (high * 256 + low) ≡ 0x82 ∷ high ∷ low ∷ []
form_bytes high low h l m =
    let p : (high * 256 + low) / 256 ≡ high = omega arith in
    let q : (high * 256 + low) % 256 ≡ low = omega arith in
    form_two (high * 256 + low) (omega arith) (omega arith) ∙ (λ i. 0x82 ∷ p i ∷ q i ∷ [])

-- a longer form begins with 83 or 84
pub form_great : (n : ℕ) → 65536 ≤ n → 131 ≤ get_or (form n) 0 0
unfolding form
form_great n h =
    let one = le-ltb n 0x80 (omega arith) in
    let two = le-ltb n 0x100 (omega arith) in
    let three = le-ltb n 0x10000 h in
    by_test (ltb n 0x1000000) (λ e. simp (one, two, three, e) (omega arith)) (λ e. simp (one, two, three, e) (omega arith))

-- a feature's length has a byte
pub length_some : (v : Version) (n : ℕ) → 1 ≤ length (length_of v n)
length_some three n = omega arith
length_some four n = form_some n

-- the length 0 is one byte
pub zero_is : (v : Version) → length_of v 0 ≡ 0 ∷ []
zero_is three = refl
zero_is four = form_short 0 (omega arith)

-- a feature, and those behind it
pub message_cons : (v : Version) (f : Feature) (fs : List Feature) (t : List ℕ) →
    message_zone v (f ∷ fs) ++ t ≡ f.tag ∷ (length_of v (length f.value) ++ (f.value ++ (message_zone v fs ++ t)))
unfolding message_zone
message_cons v f fs t = simp append_assoc
