-- Laws of the C40 bytes: of text they are its published form; their number; and how far they are put down.
-- Assumes nothing.
use Rattle.std.specs.Prelude.{◌≡◌, refl, ℕ, ◌+◌, ◌/◌, ◌%◌, ◌<◌, ◌≤◌, List, [], ◌∷◌, ◌++◌, length, get_or, drop}
use Rattle.std.proofs.Math.Path.{ap}
use Rattle.std.proofs.Common.{sym, ◌∙◌, arith, append_assoc, append-nil, length-append, length-drop}
use Rattle.format.specs.BigEndian.{be}
use Rattle.format.specs.BigEndian.Laws.{length_be, be_two}
use Rattle.format.specs.Buffer.{over}
use Rattle.format.proofs.Buffer.Laws.{over_none, length_over, over_over}
use Rattle.format.specs.Places.{at_place, past_end}
use Rattle.octets.specs.Copy.{copied, reached}
use Rattle.octets.specs.Copy.Laws.{copied_all, reached_all}
use Rattle.pairs.specs.Chart.{value_of}
use Rattle.pairs.specs.Chart.Laws.{char_below}
use Rattle.pairs.specs.Pairs.{packed_of, triple, number}
use Rattle.c40.specs.Text.{Text, publish, width}
use Rattle.c40.specs.Text.Laws.{publish_none, publish_one, publish_two, publish_three}
use Rattle.write_text.specs.Coded.{coded}

one_form : (a : ℕ) → a < 255 → be 2 (number 0xFE (a + 1)) ≡ 0xFE ∷ (a + 1) ∷ []
one_form a h =
    let high : number 0xFE (a + 1) / 256 ≡ 0xFE = omega arith in
    let code : number 0xFE (a + 1) % 256 ≡ a + 1 = omega arith in
    be_two (number 0xFE (a + 1)) (omega arith) ∙ (λ i. high i ∷ code i ∷ [])

-- of text they are its published form
pub coded_text : (t : List ℕ) → Text t → coded t ≡ publish t
unfolding coded
coded_text [] h = sym publish_none
coded_text (a ∷ []) h = let low = char_below a h.0 in one_form a (omega arith) ∙ sym (publish_one a)
coded_text (a ∷ b ∷ []) h = sym (publish_two a b)
coded_text (a ∷ b ∷ c ∷ t) h =
    let ih = coded_text t h.1.1.1 in
    ap (λ l. triple (value_of a) (value_of b) (value_of c) ++ l) ih ∙ sym (publish_three a b c t)

pub length_coded : (t : List ℕ) → length (coded t) ≡ width (length t)
unfolding coded triple
length_coded [] = refl
length_coded (a ∷ []) = length_be 2 (number 0xFE (a + 1))
length_coded (a ∷ b ∷ []) = length_be 2 (packed_of (value_of a) (value_of b) 0)
length_coded (a ∷ b ∷ c ∷ t) =
    let ih = length_coded t in
    simp (length-append, length_be 2 (packed_of (value_of a) (value_of b) (value_of c)), ih) (omega arith)

-- one and two characters
pub coded_one : (t : List ℕ) → length t ≡ 1 → coded t ≡ be 2 (number 0xFE (get_or t 0 0 + 1))
unfolding coded
coded_one [] e = absurd (omega arith)
coded_one (a ∷ []) e = refl
coded_one (a ∷ b ∷ t) e = absurd (omega arith)

pub coded_two : (t : List ℕ) → length t ≡ 2 → coded t ≡ be 2 (packed_of (value_of (get_or t 0 0)) (value_of (get_or t 1 0)) 0)
unfolding coded triple
coded_two [] e = absurd (omega arith)
coded_two (a ∷ []) e = absurd (omega arith)
coded_two (a ∷ b ∷ []) e = refl
coded_two (a ∷ b ∷ c ∷ t) e = absurd (omega arith)

coded_three :
    (a b c : ℕ) (t : List ℕ) → coded (a ∷ b ∷ c ∷ t) ≡ be 2 (packed_of (value_of a) (value_of b) (value_of c)) ++ coded t
unfolding coded triple
coded_three a b c t = refl

-- what is left at a place: three characters or more, none
module _ (t : List ℕ) (i : ℕ) where
  pub left_three :
      i + 3 ≤ length t →
      coded (drop i t)
      ≡ be 2 (packed_of (value_of (get_or t i 0)) (value_of (get_or t (i + 1) 0)) (value_of (get_or t (i + 2) 0))) ++ coded (drop (i + 3) t)
  left_three h =
      let one : i + 1 + 1 ≡ i + 2 = omega arith in
      let two : i + 2 + 1 ≡ i + 3 = omega arith in
      ap coded
      (at_place t i 0 (omega arith)
      ∙ ap (λ s. get_or t i 0 ∷ s)
      (at_place t (i + 1) 0 (omega arith)
      ∙ ap (λ s. get_or t (i + 1) 0 ∷ s)
      (ap (λ k. drop k t) one ∙ at_place t (i + 2) 0 (omega arith) ∙ ap (λ k. get_or t (i + 2) 0 ∷ drop k t) two)))
      ∙ coded_three (get_or t i 0) (get_or t (i + 1) 0) (get_or t (i + 2) 0) (drop (i + 3) t)

  pub left_none : length t ≤ i → coded (drop i t) ≡ []
  unfolding coded
  left_none h = ap coded (past_end t i h)

-- how far they are put down: the full pairs before a place
pub record Texting (text out₀ : List ℕ) (start : ℕ) (out : List ℕ) (at i : ℕ) : Type 0 where
  pub before : List ℕ
  pub reached : at ≡ start + length before
  pub is : out ≡ over out₀ start before
  pub whole : coded text ≡ before ++ coded (drop i text)
  pub room : start + length (coded text) ≤ length out₀
  pub inside : i ≤ length text

pub texting_start :
    (text out : List ℕ) (start : ℕ) → start + length (coded text) ≤ length out → Texting text out start out start 0
texting_start text out start room =
    record { before = []; reached = omega arith; is = sym (over_none out start); whole = refl; room = room; inside = omega arith }

module _ (text out₀ : List ℕ) (start : ℕ) (out : List ℕ) (at i : ℕ) (p : Texting text out₀ start out at i) where
  sum : length (coded text) ≡ length p.before + length (coded (drop i text))
  sum = ap length p.whole ∙ length-append p.before (coded (drop i text))

  pub texting_length : length out ≡ length out₀
  texting_length = ap length p.is ∙ length_over out₀ start p.before (omega (arith, sum, p.room))

  -- where a character is left there is room for two bytes
  pub texting_room : i < length text → at + 2 ≤ length out
  texting_room h = omega (arith, sum, length_coded (drop i text), length-drop i text, p.room, p.reached, texting_length)

  -- a part put down where they have come to
  part :
      (bytes after : List ℕ) →
      length bytes ≤ length (coded (drop i text)) →
      after ≡ over out at bytes →
      after ≡ over out₀ start (p.before ++ bytes)
  part bytes after h e =
      e
      ∙ ap (λ o. over o at bytes) p.is
      ∙ ap (λ k. over (over out₀ start p.before) k bytes) p.reached
      ∙ over_over out₀ start p.before bytes (omega (arith, sum, p.room))

  -- what is left, put down
  pub texting_last :
      (n : ℕ) (left : List ℕ) →
      left ≡ drop i text →
      be 2 n ≡ coded left →
      (to : ℕ) (after : List ℕ) →
      to ≡ at + 2 →
      after ≡ over out at (be 2 n) →
      (to ≡ start + length (coded text)) × (after ≡ over out₀ start (coded text))
  texting_last n left e form to after et eo =
      let same : be 2 n ≡ coded (drop i text) = form ∙ ap coded e in (
        omega (arith, ap length same, length_be 2 n, sum, p.reached),
        part (be 2 n) after (omega (arith, ap length same)) eo
            ∙ ap (λ l. over out₀ start (p.before ++ l)) same
            ∙ ap (over out₀ start) (sym p.whole),
      )

  pub texting_end : length text ≤ i → (at ≡ start + length (coded text)) × (out ≡ over out₀ start (coded text))
  texting_end h =
      let all : coded text ≡ p.before = p.whole ∙ ap (λ z. p.before ++ z) (left_none text i h) ∙ append-nil p.before in
      (omega (arith, ap length all, p.reached), p.is ∙ ap (over out₀ start) (sym all))

  pub texting_more :
      i + 2 < length text →
      (n : ℕ) →
      n ≡ packed_of (value_of (get_or text i 0)) (value_of (get_or text (i + 1) 0)) (value_of (get_or text (i + 2) 0)) →
      (to : ℕ) (after : List ℕ) →
      to ≡ at + 2 →
      after ≡ over out at (be 2 n) →
      Texting text out₀ start after to (i + 3)
  texting_more here n e to after et eo =
      let rest = coded (drop (i + 3) text) in
      let next : coded (drop i text) ≡ be 2 n ++ rest = left_three text i (omega arith) ∙ ap (λ m. be 2 m ++ rest) (sym e) in
      let long = ap length next ∙ length-append (be 2 n) rest in record {
        before = p.before ++ be 2 n;
        reached = omega (arith, p.reached, et, length_be 2 n, length-append p.before (be 2 n));
        is = part (be 2 n) after (omega (arith, long)) eo;
        whole = p.whole ∙ ap (λ z. p.before ++ z) next ∙ sym (append_assoc p.before (be 2 n) rest);
        room = p.room;
        inside = omega arith;
      }

-- text for which there is room stands in its published form
pub text_put :
    (t out : List ℕ) (at to : ℕ) (after : List ℕ) →
    Text t →
    at + length (publish t) ≤ length out →
    to ≡ reached (coded t) (length out) at →
    after ≡ copied (coded t) out at →
    (to ≡ at + length (publish t)) × (after ≡ over out at (publish t))
text_put t out at to after is_text_lem room e o =
    let same = coded_text t is_text_lem in
    let fits : at + length (coded t) ≤ length out = omega (arith, ap length same) in (
      e ∙ sym (reached_all (coded t) out at fits) ∙ ap (λ l. at + length l) same,
      o ∙ sym (copied_all (coded t) out at fits) ∙ ap (over out at) same,
    )
