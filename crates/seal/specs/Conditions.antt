-- The tender's conditions of acceptance for reader and writer, as theorems: each after its sentence. What is cited stands in
--   Legal, publish, signed_bytes, Content     crates/grammar/specs (a grammar that knows nothing of reader and writer: crates.txt)
--   reading, answer_of, rows_in, text_in, then  crates/reading/specs/Calls.antt (the contract of `read`); content_in: Answer.antt there
--   judge                                    crates/verdict/specs/Judge.antt (the contract of `judge`)
--   writing                                  crates/write_judge/specs/Calls.antt (the contract of `write`)
--   Lent, Sound                              crates/writer/specs/Legal.antt
--   content_of                                crates/write_given/specs/Given.antt
--   told, filled                             crates/format/specs/Answers.antt
--   again_from                                crates/seal/specs/Again.antt
-- C40 text, dates, INTEGERs and signature forms: condition 1 in Entries.antt beside this file, condition 2 in the file
-- proofs/Exact.antt of c40, dates, integers and ecdsa.
-- Assumes nothing.
pub mod Laws
use Rattle.std.specs.Prelude.{◌≡◌, refl, ◌⊎◌, ℕ, ◌+◌, ◌*◌, ◌≤◌, List, [], ◌++◌, length, take}
use Rattle.std.proofs.Common.{ap, sym, subst, ◌∙◌, inl, inr, ⊎_elim, take_at}
use Rattle.std.proofs.Math.Option.{Option, some, some-injective}
use Rattle.format.specs.Answers.{done, refused as refused_with, told, filled}
use Rattle.format.specs.Order.{first_number}
use Rattle.format.specs.Bytes.{Bytes}
use Rattle.format.specs.Bytes.Laws.{bytes_take}
use Rattle.grammar.specs.Content.{Content}
use Rattle.grammar.specs.Publish.{signature_zone, signed_bytes, publish}
use Rattle.grammar.specs.Legal.{Legal}
use Rattle.grammar.proofs.Theorems as grammar
use Rattle.rows.specs.Rows.{width}
use Rattle.verdict.specs.Judge.{accepted, refused, judge}
use Rattle.verdict.specs.Judge.Listed.{from_list}
use Rattle.verdict.proofs.Judge.Complete.{published_accepted as legal_accepted}
use Rattle.verdict.proofs.Judge.Seals.{accepted_only}
use Rattle.reading.specs.Calls.{answer_of, reading, rows_in, text_in, then}
use Rattle.reading.proofs.Calls.Rooms.{given_accepted}
use Rattle.reading.specs.Answer.{content_in}
use Rattle.reading.proofs.Theorems as reader
use Rattle.reading.specs.declared.Reading.{Reading}
use Rattle.write_given.specs.Given.{Given, features_of, content_of}
use Rattle.write_judge.specs.Calls.{writing}
use Rattle.writer.specs.Legal.{Lent, Sound, written_legal, legal_written}
use Rattle.writer.specs.Theorems as writer
use Rattle.seal.specs.Again.{again_from}
use Rattle.seal.specs.Again.Laws.{again_held}
use Rattle.seal.specs.Conditions.Laws.{zero_accepted, length_signer, again_writes, header_given, text_held, features_given}
use Rattle.seal.specs.Conditions.Laws.{back_reads, back_content, same_text, same_header, refusal_of, verdict_listed}
use Rattle.seal.specs.Conditions.Laws.{zero_judged, signed_first}

-- What `read` gives for a seal and a lent table and text: its answer, and what table and text hold afterwards.
abbrev pub answer : List ℕ → List ℕ → List ℕ → Reading
answer s rows names = answer_of (reading s (length rows) (length names))

abbrev pub table_after : List ℕ → List ℕ → List ℕ → List ℕ
table_after s rows names = then (rows_in (reading s (length rows) (length names))) rows

abbrev pub text_after : List ℕ → List ℕ → List ℕ → List ℕ
text_after s rows names = then (text_in (reading s (length rows) (length names))) names

-- the content that the caller then holds; none where the answer has no version
abbrev pub content_held : List ℕ → List ℕ → List ℕ → Option Content
content_held s rows names = content_in s (answer s rows names) (table_after s rows names) (text_after s rows names)

-- What `write` gives for a call and a lent buffer: its number and count, and what the buffer holds afterwards.
abbrev pub number_of : Given → List ℕ → ℕ
number_of g out = (told (writing g (length out))).number

abbrev pub buffer_after : Given → List ℕ → List ℕ
buffer_after g out = filled (writing g (length out)) out

-- the seal: as many bytes of the buffer as the count says
abbrev pub seal_in : Given → List ℕ → List ℕ
seal_in g out = take (told (writing g (length out))).count (buffer_after g out)

-- Condition 1. "Every entry point takes every input, from no bytes to too many, and answers from the numbered list in document 01."
pub reader_listed : (s rows names : List ℕ) → (answer s rows names).number ≤ 12
reader_listed s rows names = reader.listed s (length rows) (length names)

-- the verdict alone, of `judge`
pub judge_listed : (s : List ℕ) → (answer_of (judge s)).number ≤ 11
judge_listed s = verdict_listed (judge s) (from_list s)

pub writer_listed : (g : Given) (out : List ℕ) → (number_of g out ≡ 0) ⊎ ((20 ≤ number_of g out) × (number_of g out ≤ 28))
writer_listed g out = ⊎_elim (λ e. inl (ap (λ o. o.number) e)) (λ e. inr e.0) (writer.listed g (length out))

-- "Writer: 20 to 28 in order" (document 01): the number of the first test that is not passed
pub writer_in_order : (g : Given) (out : List ℕ) → number_of g out ≡ first_number (writer.tests g (length out))
writer_in_order g out = writer.in_order_lem g (length out)

-- "A refusal carries its number and place and changes nothing in the buffers we lent." Every other field of the answer is 0.
pub reader_refusal :
    (s rows names : List ℕ) →
    ((answer s rows names).number ≡ 0 → ⊥) →
    (answer s rows names ≡ answer_of (refused (answer s rows names).number (answer s rows names).place))
    × ((table_after s rows names ≡ rows) × (text_after s rows names ≡ names))
reader_refusal s rows names h = refusal_of (reading s (length rows) (length names)) rows names h

pub writer_refusal :
    (g : Given) (out : List ℕ) →
    (number_of g out ≡ 0 → ⊥) →
    (told (writing g (length out)) ≡ told (refused_with (number_of g out) 0)) × (buffer_after g out ≡ out)
writer_refusal g out h =
    ⊎_elim (λ e. absurd (h (ap (λ o. o.number) e))) (λ e. (ap told e.1, ap (λ o. filled o out) e.1)) (writer.listed g (length out))

-- Condition 2. "What the writer makes reads back as the fields, tags, value bytes and signature given."
-- On 0 the seal made stands in the buffer from its start, and past it the buffer is as it was (`filled`).
pub seal_made : (g : Given) (out : List ℕ) → number_of g out ≡ 0 → writing g (length out) ≡ done (seal_in g out)
seal_made g out z =
    let e = writer.zero_done g (length out) z in
    e ∙ ap done (sym (writer.stands g out (writing g (length out)).written e))

-- read with as much table and text as was given: header and text are those given, and the content held, with its tags,
-- value bytes and signature, is the one given
pub record ReadsBack (g : Given) (s rows names : List ℕ) : Type 0 where
  pub number : (answer s rows names).number ≡ 0
  pub header : (answer s rows names).header ≡ g.header
  pub text : take (length g.text) (text_after s rows names) ≡ g.text
  pub content : content_held s rows names ≡ content_of g

pub written_reads :
    (g : Given) (out : List ℕ) →
    Lent g →
    number_of g out ≡ 0 →
    (rows names : List ℕ) →
    length g.table ≤ length rows →
    length g.text ≤ length names →
    ReadsBack g (seal_in g out) rows names
written_reads g out lent z rows names more_rows more-names =
    let s = seal_in g out in
    let w = written_legal g (length out) s lent (seal_made g out z) in
    let e = sym (back_reads g (length out) s w rows names more_rows more-names) in
    record {
      number = ap (λ v. (answer_of v).number) (sym e);
      header = subst (λ v. (answer_of v).header ≡ g.header) e (header_given g w.content w.says w.sound);
      text = subst (λ v. take (length g.text) (then (text_in v) names) ≡ g.text) e (text_held g w.content w.says names);
      content =
          subst (λ v. content_in s (answer_of v) (then (rows_in v) rows) (then (text_in v) names) ≡ content_of g) e
          (back_content g (length out) s w rows names);
    }

-- "What the reader accepts writes back, given room, as the same bytes."
pub read_writes :
    (s : List ℕ) →
    Bytes s →
    (rows names : List ℕ) →
    (answer s rows names).number ≡ 0 →
    (room : ℕ) →
    length s ≤ room →
    writing (again_from s (answer s rows names) (table_after s rows names) (text_after s rows names)) room ≡ done s
read_writes s bytes rows names z room fits =
    let a = zero_accepted s (length rows) (length names) z in
    let j = given_accepted (judge s) (length rows) (length names) a.report a.reads in
    ap (λ v. writing (again_from s (answer_of v) (then (rows_in v) rows) (then (text_in v) names)) room) a.reads
    ∙ ap (λ g. writing g room) (again_held s a.report rows names (length_signer s bytes a.report j))
    ∙ again_writes s bytes a.report j room fits

-- The writer is done exactly when a content is given and legal, the call's shape is sound and there is room; what it
-- makes is the published form.
pub record Writes (g : Given) (out : List ℕ) : Type 0 where
  pub content : Content
  pub says : content_of g ≡ some content
  pub legal : Legal content
  pub sound : Sound g
  pub fits : length (publish content) ≤ length out
  pub form_is : seal_in g out ≡ publish content

pub writes_legal : (g : Given) (out : List ℕ) → Lent g → number_of g out ≡ 0 → Writes g out
writes_legal g out lent z =
    let w = written_legal g (length out) (seal_in g out) lent (seal_made g out z) in
    record {
      content = w.content;
      says = w.says;
      legal = w.legal;
      sound = w.sound;
      fits = subst (λ s. length s ≤ length out) (sym w.form_is) w.fits;
      form_is = sym w.form_is;
    }

pub legal_writes : (g : Given) (out : List ℕ) (c : Content) → content_of g ≡ some c →
    Sound g → Legal c → length (publish c) ≤ length out → number_of g out ≡ 0
legal_writes g out c says sound legal fits = ap (λ o. (told o).number) (legal_written g (length out) c says sound legal fits)

-- Condition 3. "Given room for the answer, a byte string is accepted exactly when it is the published form of a legal content."
pub record Published (s : List ℕ) : Type 0 where
  pub content : Content
  pub legal : Legal content
  pub form_is : publish content ≡ s

-- room for the answer: a row's numbers a feature, and 4 + L characters
abbrev pub Room : Content → List ℕ → List ℕ → Type 0
Room c rows names = (width * length c.features ≤ length rows) × (4 + length c.header.reference ≤ length names)

pub accepted_published : (s : List ℕ) → Bytes s → (rows names : List ℕ) → (answer s rows names).number ≡ 0 → Published s
accepted_published s bytes rows names z =
    let a = zero_accepted s (length rows) (length names) z in
    let r = reader.accepted_exactly s bytes rows names a.report a.reads in
    record { content = r.content; legal = r.legal; form_is = r.form_is }

pub published_accepted :
    (s : List ℕ) (p : Published s) (rows names : List ℕ) →
    Room p.content rows names →
    (answer s rows names).number ≡ 0
published_accepted s p rows names room =
    ap (λ u. (answer u rows names).number) (sym p.form_is)
    ∙ ap (λ v. (answer_of v).number) (reader.accepted_when p.content p.legal (length rows) (length names) room.0 room.1)

-- `judge` needs no room
pub judged_published : (s : List ℕ) → Bytes s → (answer_of (judge s)).number ≡ 0 → Published s
judged_published s bytes z =
    let a = zero_judged (judge s) (from_list s) z in
    let seal = accepted_only s bytes a.report a.reads in
    record { content = seal.content; legal = seal.legal; form_is = seal.form_is }

pub published_judged : (s : List ℕ) (p : Published s) → (answer_of (judge s)).number ≡ 0
published_judged s p =
    ap (λ u. (answer_of (judge u)).number) (sym p.form_is) ∙ ap (λ v. (answer_of v).number) (legal_accepted p.content p.legal)

-- "That content is then the only one"
pub only_content : (s : List ℕ) (p q : Published s) → p.content ≡ q.content
only_content s p q = grammar.one_content p.content q.content p.legal q.legal (p.form_is ∙ sym q.form_is)

-- "and it is what the reader reports."
pub reports :
    (s : List ℕ) →
    Bytes s →
    (p : Published s) (rows names : List ℕ) →
    (answer s rows names).number ≡ 0 →
    content_held s rows names ≡ some p.content
reports s bytes p rows names z =
    let a = zero_accepted s (length rows) (length names) z in
    let r = reader.accepted_exactly s bytes rows names a.report a.reads in
    ap (λ v. content_in s (answer_of v) (then (rows_in v) rows) (then (text_in v) names)) a.reads
    ∙ r.reports
    ∙ ap some (sym (r.only p.content p.legal p.form_is))

-- "No accepted seal is the front part of a longer accepted one"
pub no_front_part :
    (s t : List ℕ) →
    Bytes (s ++ t) →
    (rows names rows' names' : List ℕ) →
    (answer s rows names).number ≡ 0 →
    (answer (s ++ t) rows' names').number ≡ 0 →
    t ≡ []
no_front_part s t bytes rows names rows' names' z z' =
    let front : Bytes s = subst Bytes (take_at s t (length s) refl) (bytes_take (length s) (s ++ t) bytes) in
    let a = zero_accepted s (length rows) (length names) z in
    let b = zero_accepted (s ++ t) (length rows') (length names') z' in
    reader.no_front s t bytes front a.report b.report (given_accepted (judge s) (length rows) (length names) a.report a.reads)
    (given_accepted (judge (s ++ t)) (length rows') (length names') b.report b.reads)

-- "and two legal contents that differ in header or features differ in their signed bytes."
pub signed_apart :
    (a b : Content) →
    Legal a →
    Legal b →
    signed_bytes a ≡ signed_bytes b →
    (a.header ≡ b.header) × (a.features ≡ b.features)
signed_apart a b la lb e = grammar.signed_apart a b la lb e

-- The signed bytes of an accepted seal are its front part, up to the end of the message zone that the answer gives.
pub signed_front :
    (s : List ℕ) →
    Bytes s →
    (p : Published s) (rows names : List ℕ) →
    (answer s rows names).number ≡ 0 →
    take (answer s rows names).ends.message s ≡ signed_bytes p.content
signed_front s bytes p rows names z =
    let a = zero_accepted s (length rows) (length names) z in
    let r = reader.accepted_exactly s bytes rows names a.report a.reads in
    ap (λ v. take (answer_of v).ends.message s) a.reads
    ∙ r.signed
    ∙ ap signed_bytes (sym (r.only p.content p.legal p.form_is))

-- The zone ends that the answer gives, and the signature's part, are those of the only content (`ZonesOf`:
-- crates/reading/proofs/Theorems.antt):
-- header end the header zone's length, message end that and the message zone's, seal end the seal's length, and the part the raw signature.
pub zone_ends : (s : List ℕ) → Bytes s → (p : Published s) (rows names : List ℕ) → (answer s rows names).number ≡ 0 →
    reader.ZonesOf s p.content (answer s rows names)
zone_ends s bytes p rows names z =
    let a = zero_accepted s (length rows) (length names) z in
    let r = reader.accepted_exactly s bytes rows names a.report a.reads in
    let e : r.content ≡ p.content = sym (r.only p.content p.legal p.form_is) in
    subst (λ v. reader.ZonesOf s p.content (answer_of v)) (sym a.reads)
    (subst (λ c. reader.ZonesOf s c (answer_of (accepted a.report))) e r.zones)

-- Two accepted seals with the same signed bytes say the same but for the signature.
pub seals_apart : (s s' : List ℕ) → Bytes s → Bytes s' → (rows names rows' names' : List ℕ) →
    (answer s rows names).number ≡ 0 → (answer s' rows' names').number ≡ 0 →
    take (answer s rows names).ends.message s ≡ take (answer s' rows' names').ends.message s' →
    (c c' : Content) → content_held s rows names ≡ some c → content_held s' rows' names' ≡ some c' →
    (c.header ≡ c'.header) × (c.features ≡ c'.features)
seals_apart s s' bytes bytes' rows names rows' names' z z' e c c' held held' =
    let p = accepted_published s bytes rows names z in
    let q = accepted_published s' bytes' rows' names' z' in
    let f = some-injective c p.content (sym held ∙ reports s bytes p rows names z) in
    let g = some-injective c' q.content (sym held' ∙ reports s' bytes' q rows' names' z') in
    let same = signed_apart p.content q.content p.legal q.legal
    (sym (signed_front s bytes p rows names z) ∙ e ∙ signed_front s' bytes' q rows' names' z') in
    (ap (λ c. c.header) f ∙ same.0 ∙ ap (λ c. c.header) (sym g), ap (λ c. c.features) f ∙ same.1 ∙ ap (λ c. c.features) (sym g))

-- The signed bytes of a seal that was written are its front part too, and the rest is FF, the length and the signature given.
pub signed_made : (g : Given) (out : List ℕ) → Lent g → number_of g out ≡ 0 →
    (c : Content) → content_of g ≡ some c → seal_in g out ≡ signed_bytes c ++ signature_zone g.signature
signed_made g out lent z c says =
    let w = writes_legal g out lent z in
    let same : w.content ≡ c = some-injective w.content c (sym w.says ∙ says) in
    w.form_is ∙ ap publish same ∙ signed_first g c says

-- Two calls of the writer that are done and whose seals have the same signed bytes were given the same header, text, tags and value bytes.
pub record SameSigned (g g' : Given) : Type 0 where
  pub header : g.header ≡ g'.header
  pub text : g.text ≡ g'.text
  pub features : features_of g ≡ features_of g'

pub calls_apart : (g g' : Given) (out out' : List ℕ) → Lent g → Lent g' → number_of g out ≡ 0 → number_of g' out' ≡ 0 →
    (c c' : Content) → content_of g ≡ some c → content_of g' ≡ some c' → signed_bytes c ≡ signed_bytes c' → SameSigned g g'
calls_apart g g' out out' lent lent' z z' c c' says says' e =
    let w = writes_legal g out lent z in
    let w' = writes_legal g' out' lent' z' in
    let legal = subst Legal (some-injective w.content c (sym w.says ∙ says)) w.legal in
    let legal' = subst Legal (some-injective w'.content c' (sym w'.says ∙ says')) w'.legal in
    let same = signed_apart c c' legal legal' e in
    record {
      header = same_header g g' c c' says says' same.0 w.sound w'.sound;
      text = same_text g g' c c' says says' same.0;
      features = sym (features_given g c says) ∙ same.1 ∙ features_given g' c' says';
    }
