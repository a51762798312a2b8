-- What the call leaves is the text; and a longer input has the text of its first 4,097 bytes.
-- Assumes nothing.
use Rattle.std.specs.Prelude.{◌≡◌, refl, ℕ, ◌<◌, ◌≤◌, Result, Ok, Err, List, [], ◌∷◌, ◌++◌, length, get_or, take, drop}
use Rattle.std.proofs.Common.{ap, ap₂, sym, ◌∙◌, arith, length-take, take_all, take-take, get_or-take, lt-ltb}
use Rattle.std.proofs.Math.Decide.{dec_le}
use Rattle.std.specs.Result.{result_unwrap_or}
use Rattle.octets.specs.declared.NoRoom.{NoRoom}
use Rattle.pages.specs.Calls.{placed_of}
use Rattle.std.proofs.Math.Seq.{take-append_seam}
use Rattle.format.specs.Answers.{Answer, done, told, filled}
use Rattle.format.specs.Order.{in_room}
use Rattle.format.specs.Order.Laws.{in_room_lem}
use Rattle.format.specs.Places.{at_place}
use Rattle.format.specs.Bytes.{Bytes}
use Rattle.format.specs.Bytes.Laws.{bytes_take}
use Rattle.lines.specs.Line.{Put, Counts, decimal_of, ascii, ◌then◌}
use Rattle.hex_bytes.specs.Shown.{shown}
use Rattle.lines.specs.Line.Laws.{counts_filled, filled_length, put_start}
use Rattle.judging.specs.Judged.{judge_long}
use Rattle.why.specs.declared.Reason.{Reason}
use Rattle.why.specs.Told.{telling}
use Rattle.why.specs.Told as why
use Rattle.front.specs.Front.{Sealed}
use Rattle.front.proofs.Front.Laws.{longest_one}
use Rattle.front.proofs.Front.Crew.{at_most, front_decides}
use Rattle.front_header.specs.Header.{front}
use Rattle.front_header.proofs.Exact.{front_is}
use Rattle.why_lines.specs.Lines.{reason_lines, front_line, text_of, why_text, Enough}

-- how many bytes a call says it put down
pub count_of : (r : Result ℕ NoRoom) → result_unwrap_or r 0 ≡ (placed_of 42 r).count
count_of (Ok n) = refl
count_of (Err e) = refl

-- words that a call put down at the start of a buffer with room for them are found there again
pub words_back :
    (words old new : List ℕ) (a : Answer) (count : ℕ) →
    a ≡ told (in_room 42 words (length old)) →
    count ≡ a.count →
    new ≡ filled (in_room 42 words (length old)) old →
    length words ≤ length old →
    take count (drop 0 new) ≡ words
words_back words old new a count e f g fits =
    let o = in_room_lem 42 words (length old) fits in
    let size : count ≡ length words = f ∙ ap (λ x. x.count) (e ∙ ap told o) in
    let held : new ≡ words ++ drop (length words) old = g ∙ ap (λ x. filled x old) o in
    ap (λ n. take n new) size ∙ ap (take (length words)) held ∙ take-append_seam words (drop (length words) old)

-- 1 is told by the byte at 4,096
abbrev too_long : Reason
too_long = record { number = 1; place = 4096; item = 1; rule = 1; judged = record { place = 4096; length = 1 } }

text_long : (s : List ℕ) → 4096 < length s → why_text s ≡ reason_lines too_long (get_or s 4096 0 ∷ []) then front_line s (front s)
unfolding why_text why.told
text_long s h =
    ap (λ w. text_of s (telling s w) (front s)) (judge_long s h)
    ∙ ap (λ t. reason_lines too_long (take 1 t) then front_line s (front s)) (at_place s 4096 0 h)

-- the line of a front part that ends before the input, by the byte there
abbrev byte_line : ℕ → ℕ → List ℕ
byte_line k b =
    ascii "good up to " then decimal_of k then (ascii ", no seal has" then shown (b ∷ []) then ascii " there") then ascii "\n"

line_short : (s : List ℕ) (k : ℕ) → k < length s → front_line s k ≡ byte_line k (get_or s k 0)
unfolding front_line
line_short s k h = simp (lt-ltb k (length s) h, at_place s k 0 h)

module _ (n : ℕ) (h : 4096 < n) (s : List ℕ) (bytes : Bytes s) where
  -- a long input has the front part of its first bytes, and it ends before them
  module _ (long : n < length s) where
    same_front : front (take n s) ≡ front s
    same_front =
        longest_one Sealed (take n s) (front (take n s)) (front s) (front_is (take n s) (bytes_take n s bytes))
        (front_decides s (take n s) (front s) (sym (take-take 4097 n s (omega arith))) (front_is s bytes))

    same_line : front_line (take n s) (front (take n s)) ≡ front_line s (front s)
    same_line =
        let k = at_most s (front s) (front_is s bytes) in
        ap (front_line (take n s)) same_front
        ∙ line_short (take n s) (front s) (omega (arith, length-take n s))
        ∙ ap (byte_line (front s)) (get_or-take n s (front s) 0 (omega arith))
        ∙ sym (line_short s (front s) (omega arith))

  by_length : Dec (length s ≤ n) → why_text (take n s) ≡ why_text s
  by_length (yes short) = ap why_text (take_all n s short)
  by_length (no long) =
      text_long (take n s) (omega (arith, length-take n s))
      ∙ ap₂ (λ b l. reason_lines too_long (b ∷ []) then l) (get_or-take n s 4096 0 h) (same_line (omega arith))
      ∙ sym (text_long s (omega arith))

pub enough : {n : ℕ} → 4096 < n → Enough n
enough {n} h = record { same = λ s bytes. by_length n h s bytes (dec_le (length s) n) }

-- the call: what it leaves in a buffer with room for the text
module _ (s old new : List ℕ) (count : ℕ) (room : length (why_text s) ≤ length old) where
  pub whole :
      (r : Reason) (k : ℕ) →
      r ≡ why.told s →
      k ≡ front s →
      Put old 0 (text_of s r k) new count →
      (count ≡ length (why_text s)) × (new ≡ filled (done (why_text s)) old)
  unfolding why_text
  whole r k e f p = put_start old (why_text s) new count (rw (e, f) at p) room

-- for whoever calls it: the count lies within the buffer, which keeps its length
module _ (s out after : List ℕ) (f : after ≡ filled (done (why_text s)) out) where
  pub text_counts : (n : ℕ) → n ≡ length (why_text s) → Counts n after
  text_counts n e = counts_filled n (why_text s) out after e f

  pub text_length : length (why_text s) ≤ length out → length out ≡ length after
  text_length h = filled_length (why_text s) out after f h
