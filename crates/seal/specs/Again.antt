-- What a caller lends to the writer after a reading, so that the seal is made anew: the answer's header, the text and
-- the table as far as they were written, the seal
-- itself as the values buffer, and the signature where it stands in the seal.
-- Assumes nothing.
pub mod Laws
use Rattle.std.specs.Prelude.{ℕ, ◌+◌, ◌*◌, List, take}
use Rattle.rows.specs.Rows.{width, table}
use Rattle.verdict.specs.Judge.{Report, accepted}
use Rattle.verdict.specs.Report.{part}
use Rattle.reading.specs.Calls.{answer_of, text}
use Rattle.reading.specs.declared.Reading.{Reading}
use Rattle.write_given.specs.Given.{Given, given}

-- from the seal, the answer, and the lent table and text after the reading
abbrev pub again_from : List ℕ → Reading → List ℕ → List ℕ → Given
again_from s q rows names =
    given q.header (take (4 + q.header.length) names) (take (width * q.count) rows) s
    (part q.signature.place q.signature.length s)

-- the same from the seal and its report
abbrev pub again : List ℕ → Report → Given
again s r = given (answer_of (accepted r)).header (text r) (table r.rows) s (part r.signature_place r.signature_size_lem s)
