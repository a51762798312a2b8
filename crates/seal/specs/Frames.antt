-- Rows of four numbers (document 02, Ticket 10) as the caller holds them, in the ticket's sentences, each before its theorem. What is
-- cited beside Conditions.antt stands in
--   numbers, width, rows_of       crates/rows/specs/Rows.antt (which numbers a row has, and in what order)
--   Framed, Chain                crates/verdict/specs/Frames.antt (what it is to frame a feature, and to lie one after another)
--   ButSecond                    crates/rows/proofs/Told.antt (tables that differ in second numbers alone)
-- "12 is given below 4 numbers a feature" and "24 for a table not in fours" are lines of `given` (crates/reading/specs/Calls.antt) and
-- `is_table` (crates/write_rows/specs/Tests.antt). Conditions 2 and 3 stand in Conditions.antt, word for word as before.
-- Assumes nothing.
use Rattle.std.specs.Prelude.{◌≡◌, ℕ, List, map, length, take, drop}
use Rattle.std.proofs.Common.{ap, sym, subst, ◌∙◌}
use Rattle.format.specs.Answers.{Outcome, told, filled}
use Rattle.format.specs.Bytes.{Bytes, All}
use Rattle.grammar.specs.Content.{Content}
use Rattle.fields.specs.declared.Header.{Header}
use Rattle.rows.specs.declared.Row.{Row}
use Rattle.rows.specs.Rows.{table, rows_of}
use Rattle.rows.proofs.Rows.Laws.{rows_taken}
use Rattle.rows.proofs.Told.{ButSecond}
use Rattle.verdict.specs.Judge.{Report, accepted, judge}
use Rattle.verdict.proofs.Judge.Seals.{accepted_only}
use Rattle.verdict.specs.Report.{feature_of, content_of}
use Rattle.verdict.specs.Frames.{Framed, Chain}
use Rattle.verdict.proofs.Frames.Laws.{frames}
use Rattle.reading.specs.Calls.{answer_of, rows_in, then}
use Rattle.reading.proofs.Calls.Rooms.{given_accepted}
use Rattle.reading.specs.declared.Reading.{Reading}
use Rattle.write_given.specs.Given.{given}
use Rattle.write_judge.specs.Calls.{writing}
use Rattle.write_judge.specs.Second as writer
use Rattle.seal.specs.Conditions.{answer, table_after, Published, only_content}
use Rattle.seal.specs.Conditions.Laws.{zero_accepted}

-- the rows that the caller holds in an answer and the table afterwards: as many as the count says
abbrev pub rows_held : Reading → List ℕ → List Row
rows_held a table = take a.count (rows_of table)

-- what the answer and the table then say of a seal and its content
pub record FramesOf (s : List ℕ) (c : Content) (a : Reading) (table : List ℕ) : Type 0 where
  -- "tag, tag place, value place, value length", by which "the camera overlay" can "frame a whole feature"
  pub framed : All (Framed c.header.version s) (rows_held a table)
  -- the features lie one after another, from the header's end to the message's
  pub chain : Chain a.ends.header (rows_held a table) a.ends.message
  -- and are the content's, in its order
  pub features : map (feature_of s) (rows_held a table) ≡ c.features

-- a report and the table of its rows
report_frames :
    (s : List ℕ) → Bytes s → (p : Published s) (r : Report) → judge s ≡ accepted r → (rows : List ℕ) →
    FramesOf s p.content (answer_of (accepted r)) (then (table r.rows) rows)
unfolding content_of
report_frames s bytes p r j rows =
    let seal = accepted_only s bytes r j in
    let q : Published s = record { content = seal.content; legal = seal.legal; form_is = seal.form_is } in
    let same = seal.reports ∙ only_content s q p in
    let f = frames s bytes r j in
    let mine : r.rows ≡ rows_held (answer_of (accepted r)) (then (table r.rows) rows) =
    sym (rows_taken r.rows (drop (length (table r.rows)) rows)) in
    record {
      framed = subst (All (Framed p.content.header.version s)) mine
          (subst (λ v. All (Framed v s) r.rows) (ap (λ c. c.header.version) same) f.each);
      chain = subst (λ z. Chain r.header_end z r.message_end) mine f.chain;
      features = ap (map (feature_of s)) (sym mine) ∙ ap (λ c. c.features) same;
    }

pub rows_frame :
    (s : List ℕ) →
    Bytes s →
    (p : Published s) (rows names : List ℕ) →
    (answer s rows names).number ≡ 0 →
    FramesOf s p.content (answer s rows names) (table_after s rows names)
rows_frame s bytes p rows names z =
    let a = zero_accepted s (length rows) (length names) z in
    let j = given_accepted (judge s) (length rows) (length names) a.report a.reads in
    let f = report_frames s bytes p a.report j rows in
    subst (λ v. FramesOf s p.content (answer_of v) (then (rows_in v) rows)) (sym a.reads) f

-- "The writer takes these rows and ignores the second number.": the same answer, and the same bytes in the buffer
module _ (header : Header) (text values signature out : List ℕ) where
  abbrev written : List ℕ → Outcome
  written rows = writing (given header text rows values signature) (length out)

  pub second_ignored :
      (rows rows' : List ℕ) →
      ButSecond rows rows' →
      (told (written rows) ≡ told (written rows')) × (filled (written rows) out ≡ filled (written rows') out)
  second_ignored rows rows' b =
      let same = writer.second_ignored header text values signature rows rows' b (length out) in
      (ap told same, ap (λ o. filled o out) same)
