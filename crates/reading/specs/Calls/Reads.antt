-- What a reading leaves in its answer, in the table and in the text, one law for each way out.
-- Assumes nothing.
use Rattle.std.specs.Prelude.{◌≡◌, refl, ℕ, suc, ◌+◌, ◌*◌, ◌<◌, ◌≤◌, List, [], ◌∷◌, ◌++◌, ltb, length, take, drop, Ok}
use Rattle.std.proofs.Common.{ap, sym, subst, ◌∙◌, arith, lt-ltb, le-ltb, length-append, length-take}
use Rattle.format.specs.Choice.{pick}
use Rattle.format.specs.Choice.Laws.{by_test}
use Rattle.format.specs.Bytes.{Bytes}
use Rattle.format.specs.Buffer.{over}
use Rattle.octets.specs.Copy.{copied}
use Rattle.grammar.specs.Content.{Version, three, four, Feature}
use Rattle.grammar.specs.Publish.{length_of, header_zone}
use Rattle.grammar.specs.Legal.{ReferenceSize}
use Rattle.grammar.proofs.Sizes.{features_most}
use Rattle.rows.specs.Rows.{width, table}
use Rattle.causes.specs.declared.Item.TheVariants as item
use Rattle.causes.specs.declared.Rule.TheVariants as rule
use Rattle.verdict.specs.Items.{Way, is, not, why}
use Rattle.verdict.proofs.Items.Sound.{steps, same_value}
use Rattle.verdict.specs.Judge.{Report, Verdict, accepted, refused, header, features, signature, verdict, reading as reading_of, judging}
use Rattle.verdict.specs.Judge.{judge}
use Rattle.verdict.proofs.Judge.Complete.{report_of}
use Rattle.verdict.proofs.Judge.Features.{rows_of}
use Rattle.verdict.proofs.Judge.Sound.{verdict_read, unaccepted}
use Rattle.reading.specs.FeatureRows.{rows_at, rows_read, AreRead}
use Rattle.reading.specs.FeatureRows.Laws.{rows_there, rows_are}
use Rattle.reading.specs.Calls.{answer_of, outcome_of, judgement_of, text, given, reading, rows_in, text_in, then, Named}
use Rattle.verdict.proofs.Judge.Seals.{accepted_only}
use Rattle.reading.specs.declared.Reading.{Reading}
use Rattle.reading.specs.declared.Judgement.{Judgement}

-- what is promised of the answer, the table and the text
abbrev pub Reads : List ℕ → List ℕ → List ℕ → Reading → List ℕ → List ℕ → Type 0
Reads s rows names r rows' names' =
    (r ≡ answer_of (reading s (length rows) (length names)))
    × ((rows' ≡ then (rows_in (reading s (length rows) (length names))) rows)
    × (names' ≡ then (text_in (reading s (length rows) (length names))) names))

abbrev pub Leaves : List ℕ → List ℕ → Reading → List ℕ → List ℕ → Verdict → Type 0
Leaves rows names r rows' names' v = (r ≡ answer_of v) × ((rows' ≡ then (rows_in v) rows) × (names' ≡ then (text_in v) names))

-- a refusal leaves both as they were
pub reads_refused :
    (s rows names : List ℕ) (r : Reading) (number place : ℕ) →
    reading s (length rows) (length names) ≡ refused number place →
    r ≡ answer_of (refused number place) →
    Reads s rows names r rows names
reads_refused s rows names r number place e a = subst (Leaves rows names r rows names) (sym e) (a, (refl, refl))

pub reads_accepted :
    (s rows names : List ℕ) (r : Reading) (rows' names' : List ℕ) (report : Report) →
    reading s (length rows) (length names) ≡ accepted report →
    r ≡ answer_of (accepted report) →
    rows' ≡ then (table report.rows) rows →
    names' ≡ then (text report) names →
    Reads s rows names r rows' names'
reads_accepted s rows names r rows' names' report e a t x = subst (Leaves rows names r rows' names') (sym e) (a, (t, x))

-- the answer of a judging is the verdict's
pub judged_answer : (s : List ℕ) (q : Judgement) → q ≡ judgement_of (judging s) → q.reading ≡ answer_of (judge s)
unfolding judge
judged_answer s q a = ap (λ j. j.reading) a

-- a seal that was accepted: its report, and the sizes that its content has
pub record Accepted (s : List ℕ) (r : Reading) (v : Version) : Type 0 where
  pub report : Report
  pub judged : judge s ≡ accepted report
  pub version : v ≡ report.header.version
  pub answer : r ≡ answer_of (accepted report)
  pub signer : length report.header.signer ≡ 4
  pub reference : length report.header.reference ≤ 255
  pub few : length report.rows ≤ 255
  pub walked : features 256 report.header.version [] report.header_end s ≡ is report.rows report.message_end

reference_most : (v : Version) (n : ℕ) → ReferenceSize v n → n ≤ 255
reference_most three n h = omega arith
reference_most four n h = h.1

pub length_rows_of : (v : Version) (at : ℕ) (fs : List Feature) → length (rows_of v at fs) ≡ length fs
unfolding rows_of
length_rows_of v at [] = refl
length_rows_of v at (f ∷ fs) =
    let ih = length_rows_of v (at + 1 + length (length_of v (length f.value)) + length f.value) fs in
    ap suc ih

-- the features of a seal that was accepted, as they were judged
pub judged_features :
    (s : List ℕ) (r : Report) →
    judge s ≡ accepted r →
    features 256 r.header.version [] r.header_end s ≡ is r.rows r.message_end
unfolding judge judging reading_of
judged_features s r e =
    by_test (ltb 4096 (length s))
    (λ t. absurd (unaccepted 1 4096 r (sym (ap (λ b. verdict (pick b (not (why item.Seal rule.NotTooLong) 4096) (reading_of s))) t) ∙ e)))
    (λ t.
    let v =
    verdict_read (reading_of s) r (sym (ap (λ b. verdict (pick b (not (why item.Seal rule.NotTooLong) 4096) (reading_of s))) t) ∙ e) in
    let i0 = steps (header s) _ r v.end v.read in
    let i1 = steps (features 256 i0.value.version [] i0.at s) _ r v.end i0.goes_on_lem in
    let i2 = steps (signature (i1.at + 1) s) _ r v.end i1.goes_on_lem in
    let same = same_value _ r _ v.end i2.goes_on_lem in
    subst (λ q. features 256 q.header.version [] q.header_end s ≡ is q.rows q.message_end) same i1.read)

-- and so of every seal that is accepted
pub accepted_report :
    (s : List ℕ) →
    Bytes s →
    (q : Reading) (v : Version) (r : Report) →
    q ≡ answer_of (judge s) →
    v ≡ r.header.version →
    judge s ≡ accepted r →
    Accepted s q v
unfolding report_of
accepted_report s bytes q v r a same_version e =
    let seal = accepted_only s bytes r e in
    let c = seal.content in
    let l = seal.legal in
    let same = seal.report_is in
    record {
      report = r;
      judged = e;
      version = same_version;
      answer = a ∙ ap answer_of e;
      signer = ap (λ z. length z.header.signer) same ∙ l.header.signer.size;
      reference =
          subst (λ z. length z.header.reference ≤ 255) (sym same)
          (reference_most c.header.version (length c.header.reference) l.header.size);
      few =
          subst (λ z. length z.rows ≤ 255) (sym same)
          (subst (λ n. n ≤ 255) (sym (length_rows_of c.header.version (length (header_zone c.header)) c.features))
          (features_most c l));
      walked = judged_features s r e;
    }

by_way :
    (s : List ℕ) →
    Bytes s →
    (q : Reading) (v : Version) (i : Way Report) →
    q ≡ answer_of (judge s) →
    judging s ≡ i →
    outcome_of i ≡ Ok v →
    Accepted s q v
unfolding judge
by_way s bytes q v (is r at) a e said = accepted_report s bytes q v r a (cc) (ap verdict e)
by_way s bytes q v (not y place) a e said = let z : ◌≡◌ {A = ℕ} 0 1 = cc in absurd (omega arith)

-- a judging that gives a version has accepted the seal
pub accepted_version :
    (s : List ℕ) →
    Bytes s →
    (q : Judgement) →
    q ≡ judgement_of (judging s) →
    (v : Version) →
    q.outcome ≡ Ok v →
    Accepted s q.reading v
accepted_version s bytes q a v said =
    by_way s bytes q.reading v (judging s) (judged_answer s q a) refl (sym (ap (λ j. j.outcome) a) ∙ said)

-- with too little room for the rows, or for the text, and with room for both
module _ (s : List ℕ) (numbers room : ℕ) (r : Report) (e : judge s ≡ accepted r) where
  pub no_rows : numbers < width * length r.rows → reading s numbers room ≡ refused 12 0
  no_rows h = ap (given numbers room) e ∙ rw (lt-ltb numbers (width * length r.rows) h) refl

  module _ (fits : width * length r.rows ≤ numbers) where
    pub no_text : room < 4 + length r.header.reference → reading s numbers room ≡ refused 12 0
    no_text h =
        ap (given numbers room) e
        ∙ rw (le-ltb numbers (width * length r.rows) fits, lt-ltb room (4 + length r.header.reference) h) refl

    pub both_fit : 4 + length r.header.reference ≤ room → reading s numbers room ≡ accepted r
    both_fit h =
        ap (given numbers room) e
        ∙ rw (le-ltb numbers (width * length r.rows) fits, le-ltb room (4 + length r.header.reference) h) refl

-- the rows that are put are those of the report
module _ (s : List ℕ) (q : Reading) (v : Version) (a : Accepted s q v) where
  same_rows :
      rows_at q.count v q.ends.header s ≡ rows_at (length a.report.rows) a.report.header.version a.report.header_end s
  same_rows =
      ap (λ z. rows_at z.count v z.ends.header s) a.answer
      ∙ ap (λ w. rows_at (length a.report.rows) w a.report.header_end s) a.version

  pub put_there : AreRead (rows_at q.count v q.ends.header s)
  put_there =
      subst AreRead (sym same_rows)
      (rows_there 256 a.report.header.version a.report.header_end s a.report.rows a.report.message_end
      (length a.report.rows) a.walked refl)

  pub put_are : rows_read (rows_at q.count v q.ends.header s) ≡ a.report.rows
  put_are =
      ap rows_read same_rows
      ∙ rows_are 256 a.report.header.version a.report.header_end s a.report.rows a.report.message_end
      (length a.report.rows) a.walked refl

  -- signer and reference stand at the start of the names, which are as long as they
  module _ (names : List ℕ) (n : Named (judge s) names) where
    pub named_is : take (4 + q.header.length) names ≡ text a.report
    named_is = ap (λ z. take (4 + z.header.length) names) a.answer ∙ subst (λ v. Named v names) a.judged n

    pub named_size : length (take (4 + q.header.length) names) ≡ 4 + q.header.length
    named_size =
        let size = ap (λ z. z.header.length) a.answer in
        ap length named_is ∙ omega (arith, length-append a.report.header.signer a.report.header.reference, a.signer, size)

    pub named_room : 4 + q.header.length ≤ length names
    named_room = omega (arith, named_size, length-take (4 + q.header.length) names)

-- names that are copied to the start of the text
pub copied_names : (names out : List ℕ) → length names ≤ length out → copied names out 0 ≡ then names out
unfolding copied over
copied_names names out h =
    let none : 0 + length names ≡ length names = omega arith in
    ap (λ b. pick b out (over out 0 names)) (le-ltb (length out) (0 + length names) (omega arith)) ∙ ap (λ n. names ++ drop n out) none
