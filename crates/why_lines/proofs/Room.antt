-- How long a text can be: 256 bytes are room for every one. 10 for the number, 26 for the item, 27 for the place, 84 for the bytes, 67 for
-- the rule and 42 for the front part.
-- Assumes nothing.
use Rattle.std.specs.Prelude.{ℕ, ◌*◌, ◌-◌, ◌≤◌, ◌<◌, ◌≡◌, refl, List, [], ◌∷◌, ◌++◌, eqb, ltb, length, take, drop}
use Rattle.std.proofs.Common.{arith, ap, eqb-true, length-append, length-take, length-drop}
use Rattle.std.proofs.lemmas.Bool.{eqb-false}
use Rattle.format.specs.Bytes.{Bytes}
use Rattle.format.specs.Choice.{pick}
use Rattle.format.specs.Choice.Laws.{by_test}
use Rattle.verdict.specs.Items.{Way, is, not}
use Rattle.verdict.specs.Judge.{Report, judging}
use Rattle.verdict.specs.Judge.Listed.{numbers}
use Rattle.lines.specs.Line.{decimal_of, ascii, ◌then◌}
use Rattle.list_lines.specs.ListLine.{line}
use Rattle.list_lines.specs.LineSize.{decimal_size}
use Rattle.hex_bytes.specs.Shown.{hex_bytes, most, and_more, shown}
use Rattle.hex_bytes.proofs.Shown.Laws.{more_none, more_some, shown_none, shown_some}
use Rattle.why_words.specs.Names.{name_of, words_of}
use Rattle.why_words.specs.Calls.Laws.{longest_name, longest_words}
use Rattle.why.specs.declared.Reason.{Reason}
use Rattle.front.proofs.Front.Crew.{at_most}
use Rattle.front_header.specs.Header.{front}
use Rattle.front_header.proofs.Exact.{front_is}
use Rattle.why.specs.Told.{telling, told}
use Rattle.why_lines.specs.Lines.{judged_in, reason_lines, ending_of, front_line, text_of, why_text}

-- what fits 64 bits has at most 20 digits
abbrev pub Word : ℕ → Type 0
Word n = n < 18446744073709551616

hex_size : (s : List ℕ) → length (hex_bytes s) ≡ 3 * length s
unfolding hex_bytes
hex_size [] = refl
hex_size (b ∷ s) = let ih = hex_size s in omega arith

more_size : (n : ℕ) → Word n → length (and_more n) ≤ 30
more_size n h =
    by_test (eqb n 0)
    (λ e. omega (arith, ap length (more_none n (eqb-true n 0 e))))
    (λ e.
    let size : length (ascii " and " ++ (decimal_of n ++ ascii " more")) ≤ 30 =
    simp length-append (omega (arith, decimal_size 19 n (omega arith))) in
    omega (arith, ap length (more_some n (eqb-false n 0 e))))

shown_size : (s : List ℕ) → Word (length s) → length (shown s) ≤ 78
shown_size s h =
    by_test (eqb (length s) 0)
    (λ e. omega (arith, ap length (shown_none s (eqb-true (length s) 0 e))))
    (λ e.
    let n = length s - most in
    let some = ap length (shown_some s (eqb-false (length s) 0 e)) in
    let both = length-append (hex_bytes (take most s)) (and_more n) in
    let few = length-take most s in
    omega (arith, hex_size (take most s), more_size n (omega arith)))

-- one byte, or none
shown_empty : length (shown []) ≡ 5
shown_empty = refl

shown_one : (b : ℕ) → length (shown (b ∷ [])) ≡ 3
unfolding hex_bytes
shown_one b = refl

one_size : (s : List ℕ) → length s ≤ 1 → length (shown s) ≤ 5
one_size [] h = omega (arith, shown_empty)
one_size (b ∷ []) h = omega (arith, shown_one b)
one_size (b ∷ c ∷ s) h = absurd (omega arith)

-- the five lines
abbrev joint : List ℕ → List ℕ → List ℕ → List ℕ → List ℕ → List ℕ
joint n i p b r = line "number " n then line "item " i then line "place " p then line "bytes" b then line "rule " r

five :
    (n i p b r : List ℕ) → length n ≤ 2 → length i ≤ 20 → length p ≤ 20 → length b ≤ 78 → length r ≤ 61 → length (joint n i p b r) ≤ 214
five n i p b r h0 h1 h2 h3 h4 = simp length-append (omega arith)

reason_size : (r : Reason) (judged : List ℕ) → r.number ≤ 11 → Word r.place → Word (length judged) → length (reason_lines r judged) ≤ 214
unfolding reason_lines
reason_size r judged h g f =
    five (decimal_of r.number) (name_of r.item) (decimal_of r.place) (shown judged) (words_of r.rule)
    (decimal_size 1 r.number (omega arith))
    (longest_name.most r.item)
    (decimal_size 19 r.place (omega arith))
    (shown_size judged f)
    (longest_words.most r.rule)

-- the line of a front part
ending_size : (s : List ℕ) (k : ℕ) → length (ending_of s k) ≤ 26
ending_size s k =
    by_test (ltb k (length s))
    (λ e.
    let few = length-take 1 (drop k s) in
    let size : length (ascii ", no seal has" ++ (shown (take 1 (drop k s)) ++ ascii " there")) ≤ 26 =
    simp length-append (omega (arith, one_size (take 1 (drop k s)) (omega arith))) in
    omega (
      arith,
      ap (λ b. length (pick b (ascii ", no seal has" ++ (shown (take 1 (drop k s)) ++ ascii " there"))
          (ascii ", the input ends too early"))) e,
    ))
    (λ e. omega (
      arith,
      ap (λ b. length (pick b (ascii ", no seal has" ++ (shown (take 1 (drop k s)) ++ ascii " there"))
          (ascii ", the input ends too early"))) e,
    ))

front_size : (s : List ℕ) (k : ℕ) → k ≤ 4096 → length (front_line s k) ≤ 42
unfolding front_line
front_size s k h = simp length-append (omega (arith, decimal_size 3 k (omega arith), ending_size s k))

text_size :
    (s : List ℕ) (r : Reason) (k : ℕ) → r.number ≤ 11 → Word r.place → Word (length s) → k ≤ 4096 → length (text_of s r k) ≤ 256
text_size s r k h g f few =
    let j = judged_in s r.judged in
    let some = length-take r.judged.length (drop r.judged.place s) in
    let left = length-drop r.judged.place s in
    let lines = reason_size r j h g (omega arith) in
    let whole = length-append (reason_lines r j) (front_line s k) in
    let last = front_size s k few in
    by_test (eqb r.number 0)
    (λ e. omega (arith, ap (λ b. length (pick b (line "accepted" []) (reason_lines r j ++ front_line s k))) e))
    (λ e. omega (arith, ap (λ b. length (pick b (line "accepted" []) (reason_lines r j ++ front_line s k))) e))

number_small : (s : List ℕ) (w : Way Report) → (telling s w).number ≤ 11
number_small s (is r at) = omega arith
number_small s (not why place) = (numbers why.rule).1

pub room : (s : List ℕ) → Bytes s → Word (told s).place → Word (length s) → length (why_text s) ≤ 256
unfolding why_text told
room s bytes h g = text_size s (told s) (front s) (number_small s (judging s)) h g (at_most s (front s) (front_is s bytes))
