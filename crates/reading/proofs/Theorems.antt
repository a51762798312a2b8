-- What is proved of the reader, named after the tender's sentences (conditions 1 and 3).
-- Assumes nothing.
use Rattle.std.specs.Prelude.{◌≡◌, ℕ, suc, ◌+◌, ◌*◌, ◌≤◌, List, [], ◌++◌, length, take}
use Rattle.std.proofs.Common.{ap, sym, ◌∙◌, arith, length-append}
use Rattle.std.proofs.Math.Option.{some}
use Rattle.format.specs.Bytes.{Bytes}
use Rattle.der.specs.Length.{form}
use Rattle.grammar.specs.Content.{Content}
use Rattle.grammar.specs.Publish.{header_zone, message_zone, signature_zone, signed_bytes, publish}
use Rattle.grammar.specs.Legal.{Legal}
use Rattle.grammar.proofs.Theorems.{one_content, no_front_part, zones_add_up, signed_front}
use Rattle.verdict.specs.Report.{part, content_of}
use Rattle.verdict.specs.Judge.{Report, accepted, refused, judge}
use Rattle.verdict.specs.Judge.Listed.{from_list}
use Rattle.verdict.proofs.Judge.Complete.{report_of}
use Rattle.verdict.proofs.Judge.Seals.{accepted_only}
use Rattle.rows.specs.Rows.{width, table}
use Rattle.reading.specs.Calls.{answer_of, text, reading, rows_in, text_in, then}
use Rattle.reading.proofs.Calls.Rooms.{room_enough, given_accepted, given_listed}
use Rattle.reading.specs.Answer.{content_in}
use Rattle.reading.specs.Answer.Laws.{held}
use Rattle.reading.specs.declared.Reading.{Reading}

-- Condition 1: "answers from the numbered list": 0 to 12, for every seal, table and text
pub listed : (s : List ℕ) (numbers room : ℕ) → (answer_of (reading s numbers room)).number ≤ 12
listed s numbers room = given_listed (judge s) numbers room (from_list s)

-- "A refusal ... changes nothing in the buffers we lent"
pub refusal_keeps :
    (s : List ℕ) (rows names : List ℕ) (number place : ℕ) →
    reading s (length rows) (length names) ≡ refused number place →
    (then (rows_in (reading s (length rows) (length names))) rows ≡ rows)
    × (then (text_in (reading s (length rows) (length names))) names ≡ names)
refusal_keeps s rows names number place e = (ap (λ v. then (rows_in v) rows) e, ap (λ v. then (text_in v) names) e)

-- Condition 3: "Given room for the answer, a byte string is accepted exactly when it is the published form of a legal
-- content": a published form is accepted
pub accepted_when :
    (c : Content) → Legal c → (numbers room : ℕ) → width * length c.features ≤ numbers → 4 + length c.header.reference ≤ room →
    reading (publish c) numbers room ≡ accepted (report_of c)
accepted_when c l numbers room rows names = room_enough c l numbers room rows names

-- The zone ends and the signature's part that an answer gives are those of a content: header, message and signature zone one after another
-- to the seal's end, and the part is the raw signature, the last of its bytes.
pub record ZonesOf (s : List ℕ) (c : Content) (a : Reading) : Type 0 where
  pub header_end : a.ends.header ≡ length (header_zone c.header)
  pub message_end : a.ends.message ≡ a.ends.header + length (message_zone c.header.version c.features)
  pub seal_end : a.ends.seal ≡ length s
  pub raw : part a.signature.place a.signature.length s ≡ c.signature
  pub raw_size : a.signature.length ≡ length c.signature
  pub raw_last : a.signature.place + a.signature.length ≡ length s

-- and what is accepted is one: "That content is then the only one, and it is what the reader reports", in the answer,
-- the table and the text that the caller holds
pub record Reported (s rows names : List ℕ) (r : Report) : Type 0 where
  pub content : Content
  pub legal : Legal content
  pub form_is : publish content ≡ s
  pub only : (other : Content) → Legal other → publish other ≡ s → other ≡ content
  pub reports : content_in s (answer_of (accepted r)) (then (table r.rows) rows) (then (text r) names) ≡ some content
  -- the zones lie one after another, and the signed bytes are the front part up to the message's end
  pub zones : ZonesOf s content (answer_of (accepted r))
  pub signed : take r.message_end s ≡ signed_bytes content

pub accepted_exactly :
    (s : List ℕ) →
    Bytes s →
    (rows names : List ℕ) (r : Report) →
    reading s (length rows) (length names) ≡ accepted r →
    Reported s rows names r
unfolding report_of signature_zone content_of
accepted_exactly s bytes rows names r e =
    let j : judge s ≡ accepted r = given_accepted (judge s) (length rows) (length names) r e in
    let seal = accepted_only s bytes r j in
    let c = seal.content in
    let l = seal.legal in
    let same = seal.report_is in
    let h = length (header_zone c.header) in
    let m = length (message_zone c.header.version c.features) in
    let header_end : r.header_end ≡ h = ap (λ z. z.header_end) same in
    let message_end : r.message_end ≡ h + m = ap (λ z. z.message_end) same in
    let raw_size : r.signature_size_lem ≡ length c.signature = ap (λ z. z.signature_size_lem) same in
    let raw_place : r.signature_place ≡ h + m + 1 + length (form (length c.signature)) = ap (λ z. z.signature_place) same in
    let whole : length (publish c) ≡ length s = ap length seal.form_is in
    let zone : length (signature_zone c.signature) ≡ suc (length (form (length c.signature)) + length c.signature) =
    ap suc (length-append (form (length c.signature)) c.signature) in
    let long : length r.header.signer ≡ 4 = ap (λ z. length z.header.signer) same ∙ l.header.signer.size in
    record {
      content = c;
      legal = l;
      form_is = seal.form_is;
      only = λ other lo form. one_content other c lo l (form ∙ sym seal.form_is);
      reports = held s r rows names long ∙ ap some seal.reports;
      zones = record {
        header_end = header_end;
        message_end = omega (arith, header_end, message_end);
        seal_end = ap (λ z. z.seal_end) same ∙ whole;
        raw = ap (λ z. z.signature) seal.reports;
        raw_size = raw_size;
        raw_last = omega (arith, raw_place, raw_size, zones_add_up c, zone, whole);
      };
      signed = ap (λ z. take z.message_end s) same ∙ ap (take (h + m)) (sym seal.form_is) ∙ signed_front c;
    }

-- "No accepted seal is the front part of a longer accepted one"
pub no_front : (s t : List ℕ) → Bytes (s ++ t) → Bytes s → (r q : Report) → judge s ≡ accepted r → judge (s ++ t) ≡ accepted q → t ≡ []
no_front s t more bytes r q e f =
    let a = accepted_only s bytes r e in
    let b = accepted_only (s ++ t) more q f in
    (no_front_part a.content b.content t a.legal b.legal (ap (λ u. u ++ t) a.form_is ∙ sym b.form_is)).1

-- A reading never depends on what the lent memory held: with as much room, the answer and what is written are the same
pub same_answer :
    (s rows names rows' names' : List ℕ) →
    length rows ≡ length rows' →
    length names ≡ length names' →
    reading s (length rows) (length names) ≡ reading s (length rows') (length names')
same_answer s rows names rows' names' e f = ap (λ n. reading s n (length names)) e ∙ ap (reading s (length rows')) f
