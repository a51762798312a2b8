-- The longer proofs of what Conditions.antt states.
-- Assumes nothing.
use Rattle.std.specs.Prelude.{◌≡◌, Bool, true, false, ℕ, ◌+◌, ◌*◌, ◌≤◌, List, ◌++◌, ltb, take, drop}
use Rattle.std.proofs.Math.Path.{refl, sym}
use Rattle.std.proofs.Common.{ap, subst, ◌∙◌, arith, take_at}
use Rattle.std.proofs.Math.Option.{some}
use Rattle.std.proofs.Math.ListN.{length, take-append-drop, length-drop, length-map}
use Rattle.format.specs.Choice.{pick}
use Rattle.format.specs.Answers.{done}
use Rattle.format.specs.Bytes.{Bytes}
use Rattle.grammar.specs.Content.{Content}
use Rattle.grammar.specs.Publish.{signature_zone, signed_bytes, publish}
use Rattle.versions.specs.declared.Version.{Version}
use Rattle.versions.specs.Versions.{version_number, version_of}
use Rattle.versions.proofs.Versions.Laws.{number_of_lem}
use Rattle.verdict.specs.Judge.{Report, Verdict, accepted, refused, judge}
use Rattle.verdict.specs.Judge.Listed.{FromList, from_list}
use Rattle.verdict.proofs.Judge.Complete.{report_of}
use Rattle.verdict.proofs.Judge.Seals.{accepted_only}
use Rattle.verdict.specs.Report.{content_of as content_read, feature_of}
use Rattle.verdict.proofs.Report.Laws.{reported}
use Rattle.rows.specs.Rows.{width, table, rows_of}
use Rattle.rows.proofs.Rows.Laws.{rows_most}
use Rattle.reading.specs.Calls.{answer_of, text, given, reading, rows_in, text_in, then}
use Rattle.reading.specs.Answer.{content_in}
use Rattle.reading.specs.Answer.Laws.{held}
use Rattle.reading.proofs.Theorems.{accepted_when}
use Rattle.writer.specs.Legal.Names.{three_of_lem}
use Rattle.write_given.specs.Given.{Given, features_of, content_as, content_of}
use Rattle.write_given.specs.Given.Laws.{Says, says}
use Rattle.write_judge.specs.Calls.{writing}
use Rattle.writer.specs.Legal.{Sound, Written, legal_written}
use Rattle.seal.specs.Again.{again}
use Rattle.seal.specs.Again.Laws.{content_again, sound_again}

report_header : (c : Content) → (report_of c).header ≡ c.header
unfolding report_of
report_header c = refl

-- the header that is answered goes by the content's alone
header_answered :
    (c c' : Content) →
    c.header ≡ c'.header →
    (answer_of (accepted (report_of c))).header ≡ (answer_of (accepted (report_of c'))).header
unfolding report_of
header_answered c c' e =
    ap
    (λ h.
    record {
      version = version_number h.version;
      country = h.country;
      length = length h.reference;
      issued = h.issued;
      signed = h.signed;
      definition = h.definition;
      category = h.category;
    })
    e

-- a verdict that is an acceptance
pub record IsAccepted (v : Verdict) : Type 0 where
  pub report : Report
  pub reads : v ≡ accepted report

-- an accepted seal's report has a signer of four characters
pub length_signer : (s : List ℕ) → Bytes s → (r : Report) → judge s ≡ accepted r → length r.header.signer ≡ 4
length_signer s bytes r j =
    let seal = accepted_only s bytes r j in
    ap (λ z. length z.header.signer) seal.report_is
    ∙ ap (λ z. length z.signer) (report_header seal.content)
    ∙ seal.legal.header.signer.size

pub length_country : (s : List ℕ) → Bytes s → (r : Report) → judge s ≡ accepted r → length r.header.country ≡ 3
length_country s bytes r j =
    let seal = accepted_only s bytes r j in
    ap (λ z. length z.header.country) seal.report_is
    ∙ ap (λ z. length z.country) (report_header seal.content)
    ∙ seal.legal.header.country.size

-- what is accepted writes back as the same bytes
pub again_writes :
    (s : List ℕ) →
    Bytes s →
    (r : Report) →
    judge s ≡ accepted r →
    (room : ℕ) →
    length s ≤ room →
    writing (again s r) room ≡ done s
again_writes s bytes r j room fits =
    let seal = accepted_only s bytes r j in
    let c = seal.content in
    let long = length_signer s bytes r j in
    let three_long = length_country s bytes r j in
    let same : content_of (again s r) ≡ some c = content_again s r long three_long ∙ ap some seal.reports in
    legal_written (again s r) room c same (sound_again s r c seal.form_is seal.report_is long three_long) seal.legal
    (subst (λ u. length u ≤ room) (sym seal.form_is) fits)
    ∙ ap done seal.form_is

-- what a call's content says of the call, in its version, and how much table and text it takes
module _ (g : Given) (v : Version) where
  features_room : width * length (content_as g v).features ≤ length g.table
  unfolding content_as
  features_room = omega (arith, rows_most g.table, length-map (rows_of g.table) (feature_of g.values))

  text_room : Sound g → 4 + length (content_as g v).header.reference ≡ length g.text
  unfolding content_as
  text_room sound = omega (arith, length-drop 4 g.text, sound.measured)

  header_as : version_of g.header.version ≡ some v → Sound g → (answer_of (accepted (report_of (content_as g v)))).header ≡ g.header
  unfolding report_of content_as
  header_as stated sound =
      let h = g.header in
      let version = sym (number_of_lem h.version v stated) in
      let size : length (drop 4 g.text) ≡ h.length = omega (arith, length-drop 4 g.text, sound.measured) in
      let country = three_of_lem h.country sound.country in
      λ i.
      record {
        version = version i;
        country = country i;
        length = size i;
        issued = h.issued;
        signed = h.signed;
        definition = h.definition;
        category = h.category;
      }

  text_as : text (report_of (content_as g v)) ≡ g.text
  unfolding report_of content_as
  text_as = take-append-drop 4 g.text

  features_as : (content_as g v).features ≡ features_of g
  unfolding content_as
  features_as = refl

  -- the signed bytes stand first in what is published
  signed_as : publish (content_as g v) ≡ signed_bytes (content_as g v) ++ signature_zone g.signature
  unfolding publish content_as
  signed_as = refl

-- the same of the content that the call says
module _ (g : Given) (c : Content) (e : content_of g ≡ some c) where
  call : Says g c
  call = says g c e

  pub header_given : Sound g → (answer_of (accepted (report_of c))).header ≡ g.header
  header_given sound =
      ap (λ d. (answer_of (accepted (report_of d))).header) (sym call.content) ∙ header_as g call.version call.stated sound

  text_given : text (report_of c) ≡ g.text
  text_given = ap (λ d. text (report_of d)) (sym call.content) ∙ text_as g call.version

  pub features_given : c.features ≡ features_of g
  features_given = ap (λ d. d.features) (sym call.content) ∙ features_as g call.version

  pub text_held : (names : List ℕ) → take (length g.text) (then (text (report_of c)) names) ≡ g.text
  text_held names =
      let t = text (report_of c) in
      take_at t (drop (length t) names) (length g.text) (ap length text_given) ∙ text_given

  rows_fit : width * length c.features ≤ length g.table
  rows_fit = subst (λ d. width * length d.features ≤ length g.table) call.content (features_room g call.version)

  text_fits : Sound g → 4 + length c.header.reference ≡ length g.text
  text_fits sound = ap (λ d. 4 + length d.header.reference) (sym call.content) ∙ text_room g call.version sound

  pub signed_first : publish c ≡ signed_bytes c ++ signature_zone g.signature
  signed_first = subst (λ d. publish d ≡ signed_bytes d ++ signature_zone g.signature) call.content (signed_as g call.version)

-- a seal that was written, read with enough table and text
module _ (g : Given) (room : ℕ) (s : List ℕ) (w : Written g room s) (rows names : List ℕ) where
  pub back_reads :
      length g.table ≤ length rows →
      length g.text ≤ length names →
      reading s (length rows) (length names) ≡ accepted (report_of w.content)
  back_reads more_rows more-names =
      ap (λ u. reading u (length rows) (length names)) (sym w.form_is)
      ∙ accepted_when w.content w.legal (length rows) (length names) (omega (arith, rows_fit g w.content w.says))
      (omega (arith, text_fits g w.content w.says w.sound))

  pub back_content :
      content_in s (answer_of (accepted (report_of w.content))) (then (table (report_of w.content).rows) rows)
      (then (text (report_of w.content)) names)
      ≡ content_of g
  back_content =
      let c = w.content in
      let long : length (report_of c).header.signer ≡ 4 =
      ap (λ z. length z.signer) (report_header c) ∙ w.legal.header.signer.size in
      held s (report_of c) rows names long ∙ ap some (ap (λ u. content_read u (report_of c)) (sym w.form_is) ∙ reported c) ∙ sym w.says

-- two calls whose contents have the same header
module _
    (g g' : Given) (c c' : Content) (says_c : content_of g ≡ some c) (says_c' : content_of g' ≡ some c') (e : c.header ≡ c'.header) where
  pub same_text : g.text ≡ g'.text
  same_text =
      sym (text_given g c says_c)
      ∙ ap (λ h. h.signer ++ h.reference) (report_header c ∙ e ∙ sym (report_header c'))
      ∙ text_given g' c' says_c'

  pub same_header : Sound g → Sound g' → g.header ≡ g'.header
  same_header a b = sym (header_given g c says_c a) ∙ header_answered c c' e ∙ header_given g' c' says_c' b

-- number 0 is given to a seal that is accepted, and to no other
abbrev ZeroAccepts : Verdict → Type 0
ZeroAccepts v = (answer_of v).number ≡ 0 → IsAccepted v

choose : (b : Bool) (u v : Verdict) → ZeroAccepts u → ZeroAccepts v → ZeroAccepts (pick b u v)
choose true u v l m = l
choose false u v l m = m

zero_given : (v : Verdict) (numbers room : ℕ) → FromList v → ZeroAccepts (given numbers room v)
zero_given (accepted r) numbers room l =
    let twelve : ZeroAccepts (refused 12 0) = λ e. absurd (omega (arith, e)) in
    let names = ltb room (4 + length r.header.reference) in
    choose (ltb numbers (width * length r.rows)) (refused 12 0) (pick names (refused 12 0) (accepted r)) twelve
    (choose names (refused 12 0) (accepted r) twelve (λ e. record { report = r; reads = refl }))
zero_given (refused number place) numbers room l = λ e. absurd (omega (arith, l.0, e))

pub zero_accepted : (s : List ℕ) (numbers room : ℕ) → (answer_of (reading s numbers room)).number ≡ 0 → IsAccepted (reading s numbers room)
zero_accepted s numbers room e = zero_given (judge s) numbers room (from_list s) e

-- a verdict with another number than 0 is a refusal
pub refusal_of :
    (v : Verdict) (rows names : List ℕ) →
    ((answer_of v).number ≡ 0 → ⊥) →
    (answer_of v ≡ answer_of (refused (answer_of v).number (answer_of v).place))
    × ((then (rows_in v) rows ≡ rows) × (then (text_in v) names ≡ names))
refusal_of (accepted r) rows names h = absurd (h refl)
refusal_of (refused number place) rows names h = (refl, (refl, refl))

-- the same of the verdict alone, whatever the room
pub verdict_listed : (v : Verdict) → FromList v → (answer_of v).number ≤ 11
verdict_listed (accepted r) l = omega arith
verdict_listed (refused number place) l = l.1

pub zero_judged : (v : Verdict) → FromList v → (answer_of v).number ≡ 0 → IsAccepted v
zero_judged (accepted r) l e = record { report = r; reads = refl }
zero_judged (refused number place) l e = absurd (omega (arith, l.0, e))
