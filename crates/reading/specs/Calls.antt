-- What the calls answer (document 01, "On 0 the reader gives"), for every input: the answer's fields, and what the lent
-- table and text hold afterwards.
-- Assumes nothing.
pub mod Reads
use Rattle.std.specs.Prelude.{◌≡◌, ℕ, ◌+◌, ◌*◌, List, [], ◌∷◌, ◌++◌, ltb, length, take, Result, Ok, Err}
use Rattle.format.specs.Choice.{pick}
use Rattle.format.specs.Answers.{done, filled}
use Rattle.dates.specs.Calls.{no_date}
use Rattle.versions.specs.Versions.{version_number}
use Rattle.versions.specs.declared.Version.{Version}
use Rattle.fields.specs.declared.Header.{Header}
use Rattle.rows.specs.Rows.{width, table}
use Rattle.verdict.specs.Items.{Way, is, not}
use Rattle.verdict.specs.Judge.{Report, Verdict, accepted, refused, verdict, judge}
use Rattle.read_items.specs.Meaning.{because}
use Rattle.reading.specs.declared.Ends.{Ends}
use Rattle.reading.specs.declared.Part.{Part}
use Rattle.reading.specs.declared.Reading.{Reading}
use Rattle.read_items.specs.declared.cursor.Refusal.{Refusal}
use Rattle.reading.specs.declared.Judgement.{Judgement}

-- the answer on a good seal
abbrev pub answer : Header → Ends → Part → ℕ → Reading
answer header ends signature count = record { number = 0; place = 0; header = header; ends = ends; signature = signature; count = count }

-- on 0 the header, the three zone ends, the signature's place and length and the feature count; on any other number
-- every field but number and place is 0
abbrev pub answer_of : Verdict → Reading
answer_of (accepted r) =
    let h = r.header in
    answer
    (record {
      version = version_number h.version;
      country = h.country;
      length = length h.reference;
      issued = h.issued;
      signed = h.signed;
      definition = h.definition;
      category = h.category;
    })
    (record { header = r.header_end; message = r.message_end; seal = r.seal_end })
    (record { place = r.signature_place; length = r.signature_size_lem })
    (length r.rows)
answer_of (refused number place) =
    record {
      number = number;
      place = place;
      header =
          record { version = 0; country = 0 ∷ 0 ∷ 0 ∷ []; length = 0; issued = no_date; signed = no_date; definition = 0; category = 0 };
      ends = record { header = 0; message = 0; seal = 0 };
      signature = record { place = 0; length = 0 };
      count = 0;
    }

-- what the judging gives: the answer, and beside it the version of a seal that is accepted, or why it is not
abbrev pub outcome_of : Way Report → Result Version Refusal
outcome_of (is r at) = Ok r.header.version
outcome_of (not why place) = Err (because why place)

abbrev pub judgement_of : Way Report → Judgement
judgement_of i = record { reading = answer_of (verdict i); outcome = outcome_of i }

abbrev pub judged : Version → Header → Ends → Part → ℕ → Judgement
judged v header ends signature count = record { reading = answer header ends signature count; outcome = Ok v }

-- signer and reference
abbrev pub text : Report → List ℕ
text r = r.header.signer ++ r.header.reference

-- 12: seal good, but the lent table has under a row's numbers a feature, or the text room is under 4 + L
abbrev pub given : ℕ → ℕ → Verdict → Verdict
given numbers room (accepted r) =
    pick (ltb numbers (width * length r.rows)) (refused 12 0)
    (pick (ltb room (4 + length r.header.reference)) (refused 12 0) (accepted r))
given numbers room (refused number place) = refused number place

-- the verdict on a seal, given so many numbers of table and so much room for text
abbrev pub reading : List ℕ → ℕ → ℕ → Verdict
reading s numbers room = given numbers room (judge s)

-- what is written from the start of the table, a row a feature, and of the text; a refusal writes nothing
abbrev pub rows_in : Verdict → List ℕ
rows_in (accepted r) = table r.rows
rows_in (refused number place) = []

abbrev pub text_in : Verdict → List ℕ
text_in (accepted r) = text r
text_in (refused number place) = []

-- what a lent buffer holds afterwards: what is written, and past it what was there
abbrev pub then : List ℕ → List ℕ → List ℕ
then written out = filled (done written) out

-- signer and reference stand at the start of a text
abbrev pub Named : Verdict → List ℕ → Type 0
Named (accepted r) names = take (4 + length r.header.reference) names ≡ text r
Named (refused number place) names = Unit
