-- Text passed three characters at a time, judged by the marks of their values together: how far it has come, three more, and the end.
-- Assumes nothing.
use Rattle.std.specs.Prelude.{◌≡◌, refl, ℕ, ◌+◌, ◌*◌, ◌/◌, ◌%◌, ◌<◌, ◌≤◌, List, [], ◌∷◌, ◌++◌, length, get_or, take, drop}
use Rattle.std.proofs.Common.{ap, sym, subst, ◌∙◌, arith, append_assoc, length-drop, take_at}
use Rattle.std.specs.Int.Bits.{bit_or}
use Rattle.format.specs.Bytes.{Bytes}
use Rattle.format.specs.BigEndian.{be}
use Rattle.format.specs.BigEndian.Laws.{length_be}
use Rattle.format.specs.Buffer.{over}
use Rattle.format.proofs.Buffer.Laws.{length_over, over_start, Held, held_start, held_more, held_length}
use Rattle.pairs.specs.Chart.{value_of, InChart}
use Rattle.pairs.specs.Chart.Laws.{char_below}
use Rattle.pairs.specs.Pairs.{packed_of, number}
use Rattle.c40.specs.Text.{Text, publish, width}
use Rattle.c40.specs.Text.Laws.{length_publish, left_three, left_two, left_one, left_none}
use Rattle.c40.specs.Calls.{known}
use Rattle.c40.proofs.Calls.Laws.{known_text, text_known}
use Rattle.c40_write.specs.Turned.{turned}
use Rattle.c40_write.specs.Turned.Laws.{or_both, no_mark, found_in, Judged, judged_start, judged_more}

-- these bytes stand so far; with no mark they are the form of what is passed, and what is left is still to be published
pub record Passed (t : List ℕ) (i marks : ℕ) (entry bytes : List ℕ) (at : ℕ) : Type 0 where
  pub inside : i ≤ length t
  pub threes : i % 3 ≡ 0
  pub place : at ≡ 2 * (i / 3)
  pub judged : Judged t i marks
  pub before : List ℕ
  pub held : Held entry bytes at before
  pub form : marks < 128 → publish t ≡ before ++ publish (drop i t)

pub passed_start : (t entry : List ℕ) → Passed t 0 0 entry entry 0
passed_start t entry = record {
  inside = omega arith;
  threes = omega arith;
  place = omega arith;
  judged = judged_start t;
  before = [];
  held = held_start entry;
  form = λ low. refl;
}

-- a value without a mark is the value of its character
unmarked : (c x : ℕ) → c < 256 → x ≡ get_or turned c 0 → x < 128 → x ≡ value_of c
unmarked c x h e low = found_in c x h e (no_mark c x h e low)

module _ {t : List ℕ} {i marks : ℕ} {entry bytes : List ℕ} {at : ℕ} (so_far : Passed t i marks entry bytes at) where
  -- there is room for a pair where a character is left, and for what is left over
  module _ (fits : width (length t) ≤ length entry) where
    pub passed_room : i < length t → at + 2 ≤ length entry
    passed_room h = omega (arith, so_far.place, so_far.threes)

    pub passed_kept : length bytes ≡ length entry
    passed_kept =
        held_length entry bytes at so_far.before so_far.held (omega (arith, so_far.place, so_far.threes, so_far.inside))

    pub passed_left : length t ≤ i + 2 → (left : List ℕ) → left ≡ drop i t → (length left ≤ 2) × (at + width (length left) ≤ length entry)
    passed_left h left e =
        let many = ap length e ∙ length-drop i t in
        (omega arith, omega (arith, so_far.place, so_far.threes, so_far.inside))

  module _ (all : Bytes t) (h : i + 3 ≤ length t) (a b c : ℕ)
      (ea : a ≡ get_or turned (get_or t i 0) 0)
      (eb : b ≡ get_or turned (get_or t (i + 1) 0) 0)
      (ec : c ≡ get_or turned (get_or t (i + 2) 0) 0) where
    three_judged : Judged t (i + 3) (bit_or (bit_or (bit_or marks a) b) c)
    three_judged =
        let two : i + 2 ≡ i + 1 + 1 = omega arith in
        let three : i + 1 + 1 + 1 ≡ i + 3 = omega arith in
        let one = judged_more t i marks so_far.judged a (omega arith) (all i) ea in
        let on = judged_more t (i + 1) (bit_or marks a) one b (omega arith) (all (i + 1)) eb in
        let last = ec ∙ ap (λ k. get_or turned (get_or t k 0) 0) two in
        subst (λ k. Judged t k (bit_or (bit_or (bit_or marks a) b) c)) three
        (judged_more t (i + 1 + 1) (bit_or (bit_or marks a) b) on c (omega arith) (all (i + 1 + 1)) last)

    three_form :
        bit_or (bit_or (bit_or marks a) b) c < 128 →
        publish t ≡ (so_far.before ++ be 2 (packed_of a b c)) ++ publish (drop (i + 3) t)
    three_form low =
        let with_b = or_both (bit_or (bit_or marks a) b) c 128 low in
        let with_a = or_both (bit_or marks a) b 128 with_b.0 in
        let alone = or_both marks a 128 with_a.0 in
        let va = unmarked (get_or t i 0) a (all i) ea alone.1 in
        let vb = unmarked (get_or t (i + 1) 0) b (all (i + 1)) eb with_a.1 in
        let vc = unmarked (get_or t (i + 2) 0) c (all (i + 2)) ec with_b.1 in
        let number : packed_of (value_of (get_or t i 0)) (value_of (get_or t (i + 1) 0)) (value_of (get_or t (i + 2) 0)) ≡ packed_of a b c =
        omega arith in
        let rest = publish (drop (i + 3) t) in
        so_far.form alone.0
        ∙ ap (λ p. so_far.before ++ p) (left_three t i h ∙ ap (λ n. be 2 n ++ rest) number)
        ∙ sym (append_assoc so_far.before (be 2 (packed_of a b c)) rest)

    -- three characters more
    pub passed_more :
        (after : List ℕ) →
        after ≡ over bytes at (be 2 (packed_of a b c)) →
        at + 2 ≤ length entry →
        Passed t (i + 3) (bit_or (bit_or (bit_or marks a) b) c) entry after (at + 2)
    passed_more after e fits = record {
      inside = omega arith;
      threes = omega (arith, so_far.threes);
      place = omega (arith, so_far.threes, so_far.place);
      judged = three_judged;
      before = so_far.before ++ be 2 (packed_of a b c);
      held =
          held_more entry bytes at so_far.before so_far.held (be 2 (packed_of a b c)) after (at + 2) e
          (ap (λ k. at + k) (length_be 2 (packed_of a b c))) fits;
      form = three_form;
    }

  -- the end: what is left is text, and its form is put down
  module _ (low : marks < 128) (left : List ℕ) (is : left ≡ drop i t) where
    pub passed_text : Text left → Text t
    passed_text good =
        let many = ap length is ∙ length-drop i t in
        let all = text_known left good in
        known_text t (omega (arith, so_far.judged.good low, ap known is, so_far.inside))

    pub passed_all :
        (after : List ℕ) →
        after ≡ over bytes at (publish left) →
        at + width (length left) ≤ length entry →
        after ≡ over entry 0 (publish t)
    passed_all after e fits =
        let many = length_publish left in
        (held_more entry bytes at so_far.before so_far.held (publish left) after (at + width (length left)) e
        (ap (λ k. at + k) many) fits).is
        ∙ ap (over entry 0) (ap (λ l. so_far.before ++ publish l) is ∙ sym (so_far.form low))

-- one or two characters of the chart are text
text_one : (t : List ℕ) → length t ≡ 1 → InChart (get_or t 0 0) → Text t
text_one [] h i = absurd (omega arith)
text_one (a ∷ []) h i = (i, tt)
text_one (a ∷ b ∷ t) h i = absurd (omega arith)

text_two : (t : List ℕ) → length t ≡ 2 → InChart (get_or t 0 0) → InChart (get_or t 1 0) → Text t
text_two [] h i j = absurd (omega arith)
text_two (a ∷ []) h i j = absurd (omega arith)
text_two (a ∷ b ∷ []) h i j = (i, (j, tt))
text_two (a ∷ b ∷ c ∷ t) h i j = absurd (omega arith)

-- what is left over, with no mark: none, one or two characters, and the number of their pair
module _ (t : List ℕ) where
  pub left_over_none : length t ≡ 0 → Text t × (publish t ≡ [])
  left_over_none h = (known_text t (omega arith), left_none t 0 (omega arith))

  module _ (all : Bytes t) where
    pub left_over_one :
        length t ≡ 1 →
        (x : ℕ) →
        x ≡ get_or turned (get_or t 0 0) 0 →
        x < 128 →
        (n : ℕ) →
        n ≡ 0xFE00 + get_or t 0 0 + 1 →
        Text t × (publish t ≡ be 2 n)
    left_over_one h x e low n f =
        let chr = no_mark (get_or t 0 0) x (all 0) e low in
        let small = char_below (get_or t 0 0) chr in
        let same : number 0xFE (get_or t 0 0 + 1) ≡ n = omega arith in
        (text_one t h chr, left_one t 0 (omega arith) (omega arith) ∙ ap (be 2) same)

    pub left_over_two :
        length t ≡ 2 →
        (a b : ℕ) →
        a ≡ get_or turned (get_or t 0 0) 0 →
        b ≡ get_or turned (get_or t 1 0) 0 →
        bit_or a b < 128 →
        (n : ℕ) →
        n ≡ 1600 * a + 40 * b + 1 →
        Text t × (publish t ≡ be 2 n)
    left_over_two h a b ea eb low n f =
        let each = or_both a b 128 low in
        let va = unmarked (get_or t 0 0) a (all 0) ea each.0 in
        let vb = unmarked (get_or t 1 0) b (all 1) eb each.1 in
        let same : packed_of (value_of (get_or t 0 0)) (value_of (get_or t 1 0)) 0 ≡ n = omega arith in (
          text_two t h (no_mark (get_or t 0 0) a (all 0) ea each.0) (no_mark (get_or t 1 0) b (all 1) eb each.1),
          left_two t 0 (omega arith) ∙ ap (be 2) same,
        )

-- the form of a text that stands at the start
module _ (t entry bytes : List ℕ) (fits : width (length t) ≤ length entry) (put : bytes ≡ over entry 0 (publish t)) where
  pub whole_kept : length bytes ≡ length entry
  whole_kept = ap length put ∙ length_over entry 0 (publish t) (omega (arith, length_publish t))

  pub whole_form : (size : ℕ) → size ≡ width (length t) → take size bytes ≡ publish t
  whole_form size e =
      ap (take size) (put ∙ over_start entry (publish t))
      ∙ take_at (publish t) (drop (length (publish t)) entry) size (length_publish t ∙ sym e)
