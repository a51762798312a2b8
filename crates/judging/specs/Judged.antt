-- The steps put together are the verdict, one law for each of its answers; and what each step leaves for the next.
-- Assumes nothing.
pub mod Names
use Rattle.std.specs.Prelude.{◌≡◌, ℕ, ◌+◌, ◌≤◌, ◌<◌, List, [], ltb, length, take, Result, Ok, Err}
use Rattle.std.proofs.Math.Path.{refl, ap, sym}
use Rattle.std.proofs.Common.{◌∙◌, arith, lt-ltb, le-ltb, length-take, take_all}
use Rattle.std.proofs.Math.Decide.{dec_le}
use Rattle.format.specs.Choice.{pick}
use Rattle.versions.specs.declared.Version.{Version}
use Rattle.versions.specs.Versions.{version_number}
use Rattle.fields.specs.declared.Header.{Header}
use Rattle.causes.specs.declared.Item.TheVariants as item
use Rattle.causes.specs.declared.Rule.TheVariants as rule
use Rattle.causes.specs.declared.Why.{Why}
use Rattle.verdict.specs.Items.{is, not, why, pass, Names as NamesOf}
use Rattle.verdict.specs.Judge.{Row, Report, header, features, signature, reading, judging, verdict, judge}
use Rattle.read_items.specs.Meaning.{through}
use Rattle.read_items.specs.declared.cursor.Refusal.{Refusal}
use Rattle.read_names.specs.Meaning.{text_over}
use Rattle.read_header.specs.Steps.{Fields, Dated, fields, dated, names_in}
use Rattle.read_header.specs.Steps.Together.{header_of, with_dated, then_dated, header_split, fields_known}
use Rattle.reading.specs.Calls.{judged, judgement_of}
use Rattle.reading.specs.declared.Judgement.{Judgement}

-- what a judging comes to: a refusal is told with the number of its rule
abbrev pub settled : Result Judgement Refusal → Judgement
settled (Ok judgement) = judgement
settled (Err why) = judgement_of (not why.why why.place)

-- the fields before the dates
abbrev pub front : Version → List ℕ → ℕ → NamesOf → Fields
front v code size names = record { version = v; country = code; names = record { length = size; names = names } }

-- they were read up to a place, in a seal that is not too long
pub record FrontRead (s : List ℕ) (v : Version) (code : List ℕ) (size at : ℕ) : Type 0 where
  pub short : length s ≤ 4096
  pub names : NamesOf
  pub fields_read : is (front v code size names) at ≡ fields s

-- the header as it is told
abbrev pub told : Fields → Dated → Header
told f d = record {
  version = version_number f.version;
  country = f.country;
  length = length f.names.names.reference;
  issued = d.issued;
  signed = d.signed;
  definition = d.definition;
  category = d.category;
}

-- it was read up to a place, in a seal that is not too long
pub record HeaderRead (s : List ℕ) (v : Version) (h : Header) (at : ℕ) : Type 0 where
  pub short : length s ≤ 4096
  pub code : List ℕ
  pub size : ℕ
  pub names : NamesOf
  pub rest : Dated
  pub header_read : header s ≡ is (header_of (front v code size names) rest) at
  pub header_told : h ≡ told (front v code size names) rest

-- what the judging leaves in a lent text: signer and reference from its start where they were read, else all that was there
abbrev pub names_over : List ℕ → List ℕ → List ℕ
names_over old s = pick (ltb 4096 (length s)) old (text_over old (through names_in (fields s)))

pub over_long : (old s : List ℕ) → 4096 < length s → old ≡ names_over old s
over_long old s h = sym (ap (λ b. pick b old (text_over old (through names_in (fields s)))) (lt-ltb 4096 (length s) h))

pub over_short : (old s new : List ℕ) → length s ≤ 4096 → new ≡ text_over old (through names_in (fields s)) → new ≡ names_over old s
over_short old s new h e = e ∙ sym (ap (λ b. pick b old (text_over old (through names_in (fields s)))) (le-ltb 4096 (length s) h))

pub judge_long : (s : List ℕ) → 4096 < length s → judging s ≡ not (why item.Seal rule.NotTooLong) 4096
unfolding judging
judge_long s h = ap (λ b. pick b (not (why item.Seal rule.NotTooLong) 4096) (reading s)) (lt-ltb 4096 (length s) h)

-- so a byte string is judged by its first 4,097 bytes, or more, as by all of them
taken_judged : (n : ℕ) → 4096 < n → (s : List ℕ) → Dec (length s ≤ n) → judge (take n s) ≡ judge s
unfolding judge
taken_judged n h s (yes short) = ap judge (take_all n s short)
taken_judged n h s (no long) = ap verdict (judge_long (take n s) (omega (arith, length-take n s)) ∙ sym (judge_long s (omega arith)))

pub judge_taken : (n : ℕ) → 4096 < n → (s : List ℕ) → judge (take n s) ≡ judge s
judge_taken n h s = taken_judged n h s (dec_le (length s) n)

pub judge_reading : (s : List ℕ) → length s ≤ 4096 → judging s ≡ reading s
unfolding judging
judge_reading s short = ap (λ b. pick b (not (why item.Seal rule.NotTooLong) 4096) (reading s)) (le-ltb 4096 (length s) short)

-- a step that is not read ends the reading with its refusal
abbrev pub Refused : List ℕ → Why → ℕ → Type 0
Refused s y place = judging s ≡ not y place

pub judge_front : (s : List ℕ) → length s ≤ 4096 → (y : Why) (place : ℕ) → not y place ≡ fields s → Refused s y place
unfolding reading
judge_front s short y place e =
    let h : header s ≡ not y place = sym (header_split s) ∙ ap (λ i. pass i (then_dated s)) (sym e) in
    judge_reading s short ∙ rw h refl

pub judged_refused :
    (s : List ℕ) (r : Judgement) (y : Why) (place : ℕ) →
    Refused s y place →
    r ≡ judgement_of (not y place) →
    r ≡ judgement_of (judging s)
judged_refused s r y place j e = e ∙ ap judgement_of (sym j)

module _ (s : List ℕ) (v : Version) (code : List ℕ) (size at : ℕ) (q : FrontRead s v code size at) where
  abbrev f : Fields
  f = front v code size q.names

  pub dated_next : header s ≡ pass (dated at s) (with_dated s f)
  dated_next = sym (header_split s) ∙ ap (λ i. pass i (then_dated s)) (sym q.fields_read)

  pub judge_rest : (y : Why) (place : ℕ) → not y place ≡ dated at s → Refused s y place
  unfolding reading
  judge_rest y place e =
      let h : header s ≡ not y place = dated_next ∙ ap (λ i. pass i (with_dated s f)) (sym e) in
      judge_reading s q.short ∙ rw h refl

  pub header_next :
      (d : Dated) (end number : ℕ) →
      is d end ≡ dated at s →
      number ≡ version_number v →
      HeaderRead s v
      (record {
        version = number;
        country = code;
        length = size;
        issued = d.issued;
        signed = d.signed;
        definition = d.definition;
        category = d.category;
      })
      end
  header_next d end number e n =
      let known = fields_known s f at q.fields_read in
      record {
        short = q.short;
        code = code;
        size = size;
        names = q.names;
        rest = d;
        header_read = dated_next ∙ ap (λ i. pass i (with_dated s f)) (sym e);
        header_told =
            λ i. record {
              version = n i;
              country = code;
              length = known i;
              issued = d.issued;
              signed = d.signed;
              definition = d.definition;
              category = d.category;
            };
      }

module _ (s : List ℕ) (v : Version) (h : Header) (p1 : ℕ) (q : HeaderRead s v h p1) where
  pub judge_features : (y : Why) (place : ℕ) → not y place ≡ features 256 v [] p1 s → Refused s y place
  unfolding reading
  judge_features y place e = judge_reading s q.short ∙ rw (q.header_read, sym e) refl

  module _ (rows : List Row) (p2 : ℕ) (e2 : is rows p2 ≡ features 256 v [] p1 s) where
    pub judge_signature : (y : Why) (place : ℕ) → not y place ≡ signature (p2 + 1) s → Refused s y place
    unfolding reading
    judge_signature y place e = judge_reading s q.short ∙ rw (q.header_read, sym e2, sym e) refl

    abbrev report : ℕ → ℕ → Report
    report n start = record {
      header = header_of (front v q.code q.size q.names) q.rest;
      rows = rows;
      header_end = p1;
      message_end = p2;
      seal_end = length s;
      signature_place = start;
      signature_size_lem = n;
    }

    judge_accepted : (n start : ℕ) → is n start ≡ signature (p2 + 1) s → judging s ≡ is (report n start) (start + n)
    unfolding reading
    judge_accepted n start e = judge_reading s q.short ∙ rw (q.header_read, sym e2, sym e) refl

    pub judged_good :
        (n start count : ℕ) →
        is n start ≡ signature (p2 + 1) s →
        count ≡ length rows →
        judged v h (record { header = p1; message = p2; seal = length s }) (record { place = start; length = n }) count
        ≡ judgement_of (judging s)
    judged_good n start count e counts =
        let same : judged v h (record { header = p1; message = p2; seal = length s }) (record { place = start; length = n }) count
        ≡ judgement_of (is (report n start) (start + n)) =
        λ i. judged v (q.header_told i) (record { header = p1; message = p2; seal = length s }) (record { place = start; length = n })
        (counts i) in
        same ∙ ap judgement_of (sym (judge_accepted n start e))
