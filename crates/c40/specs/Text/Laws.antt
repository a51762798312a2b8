-- Laws of the published form: its size, its bytes, and text three characters at a time.
-- Assumes nothing.
use Rattle.std.specs.Prelude.{◌≡◌, refl, ℕ, ◌+◌, ◌/◌, ◌%◌, ◌<◌, ◌≤◌, List, [], ◌∷◌, ◌++◌, length, Result, Ok, Err}
use Rattle.std.proofs.Math.Path.{ap}
use Rattle.std.proofs.Common.{sym, ◌∙◌, append-nil, length-append}
use native.Mathlib.Omega.{arith}
use Rattle.std.proofs.Math.ListN.{get_or, drop}
use Rattle.format.specs.Bytes.{Bytes}
use Rattle.format.specs.Bytes.Laws.{bytes_nil, bytes_cons, bytes_append}
use Rattle.format.specs.BigEndian.{be}
use Rattle.format.specs.BigEndian.Laws.{length_be, bytes_be, be_two}
use Rattle.format.specs.Places.{at_place, past_end}
use Rattle.pairs.specs.Chart.{value_of}
use Rattle.pairs.specs.Chart.Laws.{char_below}
use Rattle.c40.specs.Text.{Text, publish, width}
use Rattle.pairs.specs.Pairs.{packed_of, triple, number, chars_of, form_of}
use Rattle.pairs.specs.declared.decode.Fault.{Fault}
use Rattle.pairs.specs.declared.decode.Pair.{Pair}
use Rattle.pairs.specs.declared.decode.Pair.TheVariants.{Three, Two, One}

pub length_publish : (t : List ℕ) → length (publish t) ≡ width (length t)
unfolding publish triple
length_publish [] = refl
length_publish (a ∷ []) = refl
length_publish (a ∷ b ∷ []) = length_be 2 (packed_of (value_of a) (value_of b) 0)
length_publish (a ∷ b ∷ c ∷ t) =
    let ih = length_publish t in
    simp (length-append, length_be 2 (packed_of (value_of a) (value_of b) (value_of c)), ih) (omega arith)

pub bytes_publish : (t : List ℕ) → Text t → Bytes (publish t)
unfolding publish triple
bytes_publish [] h = bytes_nil
bytes_publish (a ∷ []) h =
    let low = char_below a h.0 in
    bytes_cons 0xFE ((a + 1) ∷ []) (omega arith) (bytes_cons (a + 1) [] (omega arith) bytes_nil)
bytes_publish (a ∷ b ∷ []) h = bytes_be 2 (packed_of (value_of a) (value_of b) 0)
bytes_publish (a ∷ b ∷ c ∷ t) h =
    bytes_append (be 2 (packed_of (value_of a) (value_of b) (value_of c))) (publish t)
    (bytes_be 2 (packed_of (value_of a) (value_of b) (value_of c))) (bytes_publish t h.1.1.1)

-- the form of what is left, by how much is left
pub publish_three : (a b c : ℕ) (t : List ℕ) → publish (a ∷ b ∷ c ∷ t) ≡ triple (value_of a) (value_of b) (value_of c) ++ publish t
unfolding publish
publish_three a b c t = refl

pub publish_two : (a b : ℕ) → publish (a ∷ b ∷ []) ≡ triple (value_of a) (value_of b) 0
unfolding publish
publish_two a b = refl

pub publish_one : (a : ℕ) → publish (a ∷ []) ≡ 0xFE ∷ (a + 1) ∷ []
unfolding publish
publish_one a = refl

pub publish_none : publish [] ≡ []
unfolding publish
publish_none = refl

-- the form of what a pair carries
pub publish_pair : (p : Result Pair Fault) → publish (chars_of p) ≡ form_of p
publish_pair (Ok (Three a b c)) =
    publish_three a b c []
    ∙ ap (λ q. triple (value_of a) (value_of b) (value_of c) ++ q) publish_none
    ∙ append-nil (triple (value_of a) (value_of b) (value_of c))
publish_pair (Ok (Two a b)) = publish_two a b
publish_pair (Ok (One a)) = publish_one a
publish_pair (Err fault) = publish_none

-- what is left of text at a place, three characters at a time: three or more, two, one, none
module _ (t : List ℕ) (i : ℕ) where
  pub left_three :
      i + 3 ≤ length t →
      publish (drop i t)
      ≡ be 2 (packed_of (value_of (get_or t i 0)) (value_of (get_or t (i + 1) 0)) (value_of (get_or t (i + 2) 0))) ++ publish (drop (i + 3) t)
  unfolding triple
  left_three h =
      let one : i + 1 + 1 ≡ i + 2 = omega arith in
      let two : i + 2 + 1 ≡ i + 3 = omega arith in
      ap publish
      (at_place t i 0 (omega arith)
      ∙ ap (λ s. get_or t i 0 ∷ s)
      (at_place t (i + 1) 0 (omega arith)
      ∙ ap (λ s. get_or t (i + 1) 0 ∷ s)
      (ap (λ k. drop k t) one ∙ at_place t (i + 2) 0 (omega arith) ∙ ap (λ k. get_or t (i + 2) 0 ∷ drop k t) two)))
      ∙ publish_three (get_or t i 0) (get_or t (i + 1) 0) (get_or t (i + 2) 0) (drop (i + 3) t)

  pub left_two : i + 2 ≡ length t → publish (drop i t) ≡ be 2 (packed_of (value_of (get_or t i 0)) (value_of (get_or t (i + 1) 0)) 0)
  unfolding triple
  left_two h =
      ap publish
      (at_place t i 0 (omega arith)
      ∙ ap (λ s. get_or t i 0 ∷ s)
      (at_place t (i + 1) 0 (omega arith) ∙ ap (λ s. get_or t (i + 1) 0 ∷ s) (past_end t (i + 1 + 1) (omega arith))))
      ∙ publish_two (get_or t i 0) (get_or t (i + 1) 0)

  pub left_one : i + 1 ≡ length t → get_or t i 0 < 255 → publish (drop i t) ≡ be 2 (number 0xFE (get_or t i 0 + 1))
  left_one h low =
      let c = get_or t i 0 in
      let high : 0xFE ≡ (number 0xFE (c + 1)) / 256 = omega arith in
      let code : c + 1 ≡ (number 0xFE (c + 1)) % 256 = omega arith in
      ap publish (at_place t i 0 (omega arith) ∙ ap (λ s. c ∷ s) (past_end t (i + 1) (omega arith)))
      ∙ publish_one c
      ∙ (λ j. high j ∷ code j ∷ [])
      ∙ sym (be_two (number 0xFE (c + 1)) (omega arith))

  pub left_none : length t ≤ i → publish (drop i t) ≡ []
  left_none h = ap publish (past_end t i h) ∙ publish_none
