-- What the code puts down for a reading, with the rows of the table and the text: where these have room it is the listing (Listed.antt).
-- Assumes nothing.
pub mod Laws
use Rattle.std.specs.Prelude.{ℕ, List, [], eqb, take}
use Rattle.format.specs.Choice.{pick}
use Rattle.lines.specs.Line.{◌then◌}
use Rattle.list_lines.specs.ListLine.{line, name_lines, date_lines, refusal}
use Rattle.rows.specs.Rows.{rows_of}
use Rattle.reading.specs.declared.Reading.{Reading}
use Rattle.listing.specs.Listed.{part, feature_lines}

-- a line for each of so many rows, as far as the table has them
unfoldable pub features : ℕ → List ℕ → List ℕ
features count table = feature_lines (take count (rows_of table))

unfoldable pub accepted : Reading → List ℕ → List ℕ → List ℕ
accepted r table text =
    line "accepted" []
    then name_lines r.header.version r.header.country text r.header.length
    then date_lines r.header.issued r.header.signed r.header.definition r.header.category
    then features r.count table
    then line "signature" (part r.signature.place r.signature.length)

-- 0 is an accepted seal; any other number is the refusal's
abbrev pub listing : Reading → List ℕ → List ℕ → List ℕ
listing r table text = pick (eqb r.number 0) (accepted r table text) (refusal r.number r.place)
