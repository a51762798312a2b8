-- Laws of the calls: the answer by the tests that lead there.
-- Assumes nothing.
use Rattle.std.specs.Prelude.{◌≡◌, Bool, true, false, ℕ, ◌+◌, ◌-◌, ◌<◌, ◌≤◌, List, [], ◌∷◌, ◌++◌, None, ltb, ℤ, pos, length, take, drop, set}
use Rattle.std.proofs.Math.Path.{ap}
use Rattle.std.proofs.Common.{sym, ◌∙◌, arith, lt-ltb, le-ltb, eq-eqb, ne_eqb, length-drop, length-set, take_all}
use Rattle.format.specs.Order.Laws.{in_no_room, in_room_lem}
use Rattle.format.specs.Answers.{Valued, done, refused, told, filled, result, refusal}
use Rattle.format.proofs.Answers.Laws.{refuses, gives}
use Rattle.format.specs.Buffer.{over}
use Rattle.format.proofs.Buffer.Laws.{over_two, over_over, length_over}
use Rattle.octets.specs.Copy.{copied}
use Rattle.octets.specs.Copy.Laws.{copied_all}
use Rattle.format.specs.Choice.{pick}
use Rattle.format.specs.BigEndian.{be}
use Rattle.format.specs.BigEndian.Laws.{length_be}
use Rattle.der.proofs.Lengths.Exact.{form_short}
use Rattle.der.specs.Element.{lies, element_in}
use Rattle.der.specs.Content.{strict, shortest, integer}
use Rattle.integers.specs.Integer.{word, value_of, integer_of}
use Rattle.integers.specs.OneElement.{part}
use Rattle.integers.specs.Calls.{content, whole, reading, writing}

-- content, by the tests
module _ (c : List ℕ) where
  chosen : Bool → Valued ℤ
  chosen b = pick b (pick (ltb 8 (length c)) (refusal (pos 0) 65) (result (value_of c))) (refusal (pos 0) 65)

  pub content_loose : strict c ≡ false → content c ≡ refusal (pos 0) 65
  unfolding chosen
  content_loose e = ap chosen e

  module _ (e : strict c ≡ true) where
    pub content_long : 8 < length c → content c ≡ refusal (pos 0) 65
    unfolding chosen
    content_long h = ap chosen e ∙ ap (λ b. pick b (refusal (pos 0) 65) (result (value_of c))) (lt-ltb 8 (length c) h)

    pub content_is : length c ≤ 8 → content c ≡ result (value_of c)
    unfolding chosen
    content_is h = ap chosen e ∙ ap (λ b. pick b (refusal (pos 0) 65) (result (value_of c))) (le-ltb 8 (length c) h)

-- reading, by the element
module _ (s : List ℕ) where
  pub reading_none : element_in 0x02 s ≡ None → reading s ≡ refusal (pos 0) 65
  unfolding reading
  reading_none e = ap (whole s) e

  module _ (start end : ℕ) (e : element_in 0x02 s ≡ lies start end) where
    pub reading_more : (end ≡ length s → ⊥) → reading s ≡ refusal (pos 0) 65
    unfolding reading
    reading_more f = ap (whole s) e ∙ ap (λ b. pick b (content (part s start end)) (refusal (pos 0) 65)) (ne_eqb end (length s) f)

    pub reading_all : end ≡ length s → reading s ≡ content (part s start end)
    unfolding reading
    reading_all f = ap (whole s) e ∙ ap (λ b. pick b (content (part s start end)) (refusal (pos 0) 65)) (eq-eqb end (length s) f)

-- writing, by the room
module _ (v : ℤ) (room : ℕ) where
  pub writing_not : room < length (integer_of v) → writing v room ≡ refused 63 0
  unfolding writing
  writing_not h = in_no_room 63 (integer_of v) room h

  pub writing_done : length (integer_of v) ≤ room → writing v room ≡ done (integer_of v)
  unfolding writing
  writing_done h = in_room_lem 63 (integer_of v) room h

-- an INTEGER of few bytes has a length of one
pub integer_short : (c : List ℕ) → length c < 0x80 → integer c ≡ 0x02 ∷ length c ∷ c
integer_short c h = ap (λ f. 0x02 ∷ f ++ c) (form_short (length c) h)

-- the INTEGER of a number, from where the shortest form of its eight bytes starts
module _ (v : ℤ) (bytes : List ℕ) (start : ℕ) (e : bytes ≡ be 8 (word v)) (h : start < 8) (f : shortest bytes ≡ drop start bytes) where
  pub start_size : length (drop start bytes) ≡ 8 - start
  start_size = length-drop start bytes ∙ ap (λ n. n - start) (ap length e ∙ length_be 8 (word v))

  pub integer_from : integer_of v ≡ 0x02 ∷ (8 - start) ∷ drop start bytes
  integer_from =
      ap integer (ap shortest (sym e) ∙ f)
      ∙ integer_short (drop start bytes) (omega (arith, start_size))
      ∙ ap (λ n. 0x02 ∷ n ∷ drop start bytes) start_size

  pub length_integer : length (integer_of v) ≡ 8 - start + 2
  length_integer = ap length integer_from ∙ omega (arith, start_size)

  -- where it fits, in a buffer: the tag, the size, and the content copied behind them
  module _ (out : List ℕ) where
    pub no_room :
        length out < 8 - start + 2 →
        (record { number = 63; place = 0; count = 0 } ≡ told (writing v (length out))) × (out ≡ filled (writing v (length out)) out)
    no_room l = refuses (writing v (length out)) 63 0 out (writing_not v (length out) (omega (arith, length_integer)))

    module _ (l : 8 - start + 2 ≤ length out) (after : List ℕ)
        (g : after ≡ copied (take (8 - start) (drop start bytes)) (set (set out 0 0x02) 1 (8 - start)) 2) where
      put : after ≡ over out 0 (integer_of v)
      put =
          let p = drop start bytes in
          let o = set (set out 0 0x02) 1 (8 - start) in
          let same : length o ≡ length out = simp length-set in
          g
          ∙ ap (λ q. copied q o 2) (take_all (8 - start) p (omega (arith, start_size)))
          ∙ sym (copied_all p o 2 (omega (arith, start_size)))
          ∙ ap (λ q. over q 2 p) (over_two out 0 0x02 (8 - start) (omega arith))
          ∙ over_over out 0 (0x02 ∷ (8 - start) ∷ []) p (omega arith)
          ∙ ap (over out 0) (sym integer_from)

      pub written_size : length after ≡ length out
      written_size = ap length put ∙ length_over out 0 (integer_of v) (omega (arith, length_integer))

      pub written :
          (record { number = 0; place = 0; count = 8 - start + 2 } ≡ told (writing v (length out)))
          × (after ≡ filled (writing v (length out)) out)
      written =
          gives (writing v (length out)) (integer_of v) (8 - start + 2) out after
          (writing_done v (length out) (omega (arith, length_integer))) (sym length_integer) put
