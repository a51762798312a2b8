-- The listing of a verdict is what the code puts down for its reading.
-- Assumes nothing.
use Rattle.std.specs.Prelude.{◌≡◌, refl, ℕ, ◌*◌, ◌≤◌, ◌<◌, List, ◌++◌, length, take, drop}
use Rattle.std.proofs.Common.{ap, ap₂, sym, subst, ◌∙◌, arith, ne_eqb, append_assoc, take_at, drop_at}
use Rattle.format.specs.Choice.{pick}
use Rattle.format.specs.Bytes.{Bytes}
use Rattle.format.specs.Answers.{done, filled}
use Rattle.lines.specs.Line.{Put, Counts}
use Rattle.lines.specs.Line.Laws.{counts_filled, filled_length, put_start}
use Rattle.rows.specs.declared.Row.{Row}
use Rattle.rows.specs.Rows.{width, table}
use Rattle.rows.proofs.Rows.Laws.{rows_taken}
use Rattle.list_lines.specs.ListLine.{name_lines, date_lines, refusal}
use Rattle.verdict.specs.Judge.{Verdict, accepted, refused, judge}
use Rattle.verdict.specs.Judge.Listed.{FromList, from_list}
use Rattle.judging.specs.Judged.{judge_taken}
use Rattle.reading.specs.Calls.{answer_of, given, reading, rows_in, text_in, then}
use Rattle.reading.specs.Calls.Reads.{accepted_report, both_fit}
use Rattle.reading.specs.declared.Reading.{Reading}
use Rattle.listing.specs.Room.{Word, room}
use Rattle.listing.specs.Listed.{feature_lines, listed, Enough}
use Rattle.listing.specs.Listing.{features, listing}
use Rattle.listing.specs.Listing as put

-- the rows of the table are those of the report
rows_are : (rows : List Row) (rest : List ℕ) → features (length rows) (table rows ++ rest) ≡ feature_lines rows
unfolding features
rows_are rows rest = ap feature_lines (rows_taken rows rest)

-- signer and reference are found in the text again
module _ (signer reference rest : List ℕ) (four : length signer ≡ 4) where
  signer_is : take 4 (signer ++ (reference ++ rest)) ≡ signer
  signer_is = take_at signer (reference ++ rest) 4 four

  reference_is : take (length reference) (drop 4 (signer ++ (reference ++ rest))) ≡ reference
  reference_is = ap (take (length reference)) (drop_at signer (reference ++ rest) 4 four) ∙ take_at reference rest (length reference) refl

-- a signer has four characters
abbrev pub Signed : Verdict → Type 0
Signed (accepted r) = length r.header.signer ≡ 4
Signed (refused number place) = Unit

pub listing_is :
    (v : Verdict) (t x : List ℕ) →
    FromList v →
    Signed v →
    listing (answer_of v) (then (rows_in v) t) (then (text_in v) x) ≡ listed v
unfolding listed name_lines date_lines put.accepted
listing_is (accepted r) t x l four =
    let h = r.header in
    let rest = drop (length (h.signer ++ h.reference)) x in
    let signer = signer_is h.signer h.reference rest four in
    let reference = reference_is h.signer h.reference rest four in
    simp (append_assoc, signer, reference, rows_are r.rows (drop (length (table r.rows)) t))
listing_is (refused number place) t x l four =
    let n : number ≡ 0 → ⊥ = λ e. omega (arith, l.0, e) in
    ap (λ b. pick b (put.accepted (answer_of (refused number place)) t x) (refusal number place)) (ne_eqb number 0 n)

-- 255 rows of table and 259 bytes of text are room enough for every seal, so that 12 is never answered
module _ (numbers room : ℕ) (rows : 255 * width ≤ numbers) (names : 259 ≤ room) where
  fits : (s : List ℕ) → Bytes s → (v : Verdict) → judge s ≡ v → given numbers room v ≡ v
  fits s bytes (accepted r) e =
      let a = accepted_report s bytes (answer_of (judge s)) r.header.version r refl refl e in
      subst (λ v. given numbers room v ≡ v) (sym a.judged ∙ e)
      (sym (ap (given numbers room) a.judged)
      ∙ both_fit s numbers room a.report a.judged (omega (arith, a.few)) (omega (arith, a.reference)))
  fits s bytes (refused number place) e = refl

  pub never_12 : (s : List ℕ) → Bytes s → reading s numbers room ≡ judge s
  never_12 s bytes = fits s bytes (judge s) refl

four_signed : (s : List ℕ) → Bytes s → (v : Verdict) → judge s ≡ v → Signed v
four_signed s bytes (accepted r) e =
    let a = accepted_report s bytes (answer_of (judge s)) r.header.version r refl refl e in
    subst Signed (sym a.judged ∙ e) a.signer
four_signed s bytes (refused number place) e = tt

pub enough : {n : ℕ} → 4096 < n → Enough n
enough {n} h = record { same = λ s. ap listed (judge_taken n h s) }

-- a refusal's place, told by the answer
abbrev pub Small : Reading → Type 0
Small q = q.place < 18446744073709551616

word_of : (v : Verdict) → Small (answer_of v) → Word v
word_of (accepted r) h = tt
word_of (refused number place) h = h

-- what a call leaves that promises the listing of s: the count, and the text from the buffer's start; and there was room for it
abbrev pub Lists : List ℕ → List ℕ → List ℕ → ℕ → Type 0
Lists s old new count =
    (count ≡ length (listed (judge s)))
    × ((new ≡ filled (done (listed (judge s))) old)
    × (length (listed (judge s)) ≤ length old))

-- the call: what a reading with so much table and text leaves, put down in a buffer with room for every listing
module _ (s : List ℕ) (bytes : Bytes s) (t x t' x' : List ℕ) (q : Reading) (small : Small q) (numbers names : ℕ) where
  pub whole :
      255 * width ≤ numbers →
      259 ≤ names →
      q ≡ answer_of (reading s numbers names) →
      t' ≡ then (rows_in (reading s numbers names)) t →
      x' ≡ then (text_in (reading s numbers names)) x →
      (old new : List ℕ) (count : ℕ) →
      8562 ≤ length old →
      Put old 0 (listing q t' x') new count →
      Lists s old new count
  whole rows text e f g old new count long p =
      let v = reading s numbers names in
      let same = never_12 numbers names rows text s bytes in
      let word = word_of (judge s) (subst Small (e ∙ ap answer_of same) small) in
      let most = room s bytes word in
      let is : listing q t' x' ≡ listed (judge s) =
      ap (λ r. listing r t' x') e
      ∙ ap₂ (listing (answer_of v)) f g
      ∙ ap (λ w. listing (answer_of w) (then (rows_in w) t) (then (text_in w) x)) same
      ∙ listing_is (judge s) t x (from_list s) (four_signed s bytes (judge s) refl) in
      let held = put_start old (listed (judge s)) new count (subst (λ l. Put old 0 l new count) is p) (omega (arith, most)) in
      (held.0, (held.1, omega (arith, most)))

-- for whoever calls it: the count lies within the buffer, which keeps its length
module _ (s out after : List ℕ) (f : after ≡ filled (done (listed (judge s))) out) where
  pub listed_counts : (n : ℕ) → n ≡ length (listed (judge s)) → Counts n after
  listed_counts n e = counts_filled n (listed (judge s)) out after e f

  pub listed_length : length (listed (judge s)) ≤ length out → length out ≡ length after
  listed_length h = filled_length (listed (judge s)) out after f h
