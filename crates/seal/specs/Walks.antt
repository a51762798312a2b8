-- The walk and the look-up (document 02, Ticket 2) beside the full reading, as the caller holds it, in the ticket's sentences, each before
-- its theorem. What is cited beside Conditions.antt stands in
--   opened_of, asked              crates/walk/specs/Walks.antt (a walk that is opened, and what it answers, asked so many times)
--   found_row                     crates/walk/proofs/Theorems.antt (the answer for a row)
--   no_more                       crates/walk_steps/specs/Steps.antt (51)
--   rows_held                     Frames.antt (the rows in the answer and the table)
--   where_is                      crates/shown/specs/Where.antt (where a value stands)
--   seen, seen_in                 crates/shown/specs/Values.antt (what is told and seen of two seals, and by their contents)
-- Assumes nothing.
use Rattle.std.specs.Prelude.{◌≡◌, ℕ, ◌+◌, List, ◌++◌, map, length, drop, replicate}
use Rattle.std.proofs.Common.{ap, ap₂, sym, ◌∙◌}
use Rattle.std.proofs.Math.Option.{some, some-injective}
use Rattle.std.specs.Borrow.{Bor}
use Rattle.format.specs.Bytes.{Bytes}
use Rattle.grammar.specs.Content.{Content}
use Rattle.rows.specs.Rows.{table}
use Rattle.rows.proofs.Rows.Laws.{rows_taken}
use Rattle.verdict.specs.Judge.{Report, accepted, judge}
use Rattle.reading.specs.Calls.{answer_of, rows_in, then}
use Rattle.reading.proofs.Calls.Rooms.{given_accepted}
use Rattle.walk_steps.specs.Steps.{no_more}
use Rattle.walk.specs.Walks.{opened_of, asked}
use Rattle.walk.proofs.Theorems.{found_row, same_rows}
use Rattle.shown.specs.Where.{where_is}
use Rattle.shown.specs.Values.{seen, seen_in}
use Rattle.shown.proofs.Theorems.{shown_contents}
use Rattle.seal.specs.Conditions.{answer, table_after, content_held, accepted_published, reports}
use Rattle.seal.specs.Conditions.Laws.{zero_accepted}
use Rattle.seal.specs.Frames.{rows_held}

-- the rows that a caller holds are those of the report
held_rows : (s rows names : List ℕ) (r : Report) → answer s rows names ≡ answer_of (accepted r)
    → table_after s rows names ≡ then (table r.rows) rows
    → rows_held (answer s rows names) (table_after s rows names) ≡ r.rows
held_rows s rows names r e f =
    ap₂ rows_held e f ∙ rows_taken r.rows (drop (length (table r.rows)) rows)

-- "It gives exactly the rows of the full reading, in order.": a walk opened on a seal that a reading accepts, with whatever room, and asked
-- as often as the reading's count and some times more, answers with the rows in the table, and then 51 each time
pub walk_rows :
    (s : Bor (List ℕ)) →
    Bytes s.now →
    (rows names : List ℕ) →
    (answer s.now rows names).number ≡ 0 →
    (more : ℕ) →
    asked ((answer s.now rows names).count + more) (opened_of s).walk
    ≡ map found_row (rows_held (answer s.now rows names) (table_after s.now rows names)) ++ replicate more no_more
walk_rows s bytes rows names z more =
    let a = zero_accepted s.now (length rows) (length names) z in
    let r = a.report in
    let j = given_accepted (judge s.now) (length rows) (length names) r a.reads in
    let e : answer s.now rows names ≡ answer_of (accepted r) = ap answer_of a.reads in
    let mine = held_rows s.now rows names r e (ap (λ v. then (rows_in v) rows) a.reads) in
    ap (λ q. asked (q.count + more) (opened_of s).walk) e
    ∙ same_rows s bytes r j more
    ∙ ap (λ q. map found_row q ++ replicate more no_more) (sym mine)

-- "show the value out of the extension seal if it has that feature, otherwise out of the main seal": of two seals that readings accept,
-- what is told and seen is what the contents say that the caller then holds
pub shown_held :
    (main extension : List ℕ) →
    Bytes main →
    Bytes extension →
    (rows names rows' names' : List ℕ) →
    (answer main rows names).number ≡ 0 →
    (answer extension rows' names').number ≡ 0 →
    (c d : Content) →
    content_held main rows names ≡ some c →
    content_held extension rows' names' ≡ some d →
    (tag : ℕ) →
    seen main extension (where_is main extension tag) ≡ seen_in c d tag
shown_held main extension bytes more rows names rows' names' z z' c d held held' tag =
    let p = accepted_published main bytes rows names z in
    let q = accepted_published extension more rows' names' z' in
    let f = some-injective c p.content (sym held ∙ reports main bytes p rows names z) in
    let g = some-injective d q.content (sym held' ∙ reports extension more q rows' names' z') in
    ap₂ (λ m x. seen m x (where_is m x tag)) (sym p.form_is) (sym q.form_is)
    ∙ shown_contents p.content q.content p.legal q.legal tag
    ∙ ap₂ (λ m x. seen_in m x tag) (sym f) (sym g)
