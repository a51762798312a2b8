-- What the writer's steps stand on: the judged parts, and the room for what is put down.
-- Assumes nothing.
pub mod Laws
use Rattle.std.specs.Prelude.{◌≡◌, true, ℕ, ◌+◌, ◌≤◌, List, [], ◌∷◌, ◌++◌, map, length, take, drop}
use Rattle.format.specs.Bytes.{All}
use Rattle.c40.specs.Text.{publish as c40}
use Rattle.dates.specs.Days.{publish as date}
use Rattle.versions.specs.Versions.{version_byte}
use Rattle.versions.specs.declared.Version.{Version}
use Rattle.grammar.specs.Legal.{ValueSize}
use Rattle.grammar.specs.Publish.{carried, hex_digits, names, publish}
use Rattle.fields.specs.Characters.{is_reference, all, is_signer}
use Rattle.rows.specs.declared.Row.{Row}
use Rattle.fields.specs.Signature.{is_signature}
use Rattle.fields.specs.declared.Header.{Header}
use Rattle.write_given.specs.Tests.{is_text_size, are_names, are_days, are_last}
use Rattle.write_rows.specs.Tests.{is_table, are_values}
use Rattle.write_given.specs.Given.{Given, three_of, content_as}

-- a buffer has room for these bytes from a place on
abbrev pub Room : List ℕ → ℕ → List ℕ → Type 0
Room out at bytes = at + length bytes ≤ length out

-- a length that a seal can have: at most 4,096, and in version 3 at most 255
abbrev pub Measured : Version → ℕ → Type 0
Measured v size = (size ≤ 4096) × ValueSize v size

-- a row that was judged, over so many bytes of values
abbrev pub Fits : Version → ℕ → Row → Type 0
Fits v n r = (r.tag ≤ 254) × (r.place + r.size ≤ n) × Measured v r.size

abbrev pub Fitting : Version → ℕ → List Row → Type 0
Fitting v n rows = All (Fits v n) rows

-- a text that was judged
pub record Named (v : Version) (text : List ℕ) : Type 0 where
  pub size : is_text_size v (length text) ≡ true
  pub signer : is_signer (take 4 text) ≡ true
  pub reference : all is_reference (drop 4 text) ≡ true

-- a header that was judged, with its text
abbrev pub Headed : Version → Header → List ℕ → Type 0
Headed v h text = are_names v h text ≡ true

pub record Dated (h : Header) : Type 0 where
  pub days : are_days h ≡ true
  pub last : are_last h ≡ true

-- the header's items up to the reference, and from the dates on
abbrev pub front : Version → Header → List ℕ → List ℕ
front v h text = 0xDC ∷ version_byte v ∷ (c40 (map carried (three_of h.country)) ++ names v (take 4 text) (drop 4 text))

abbrev pub rest : Header → List ℕ
rest h = date h.issued ++ (date h.signed ++ (h.definition ∷ h.category ∷ []))

-- all that is judged but the room
pub record Passed (v : Version) (g : Given) : Type 0 where
  pub header : Headed v g.header g.text
  pub dated : Dated g.header
  pub table : is_table (length g.values) g.table ≡ true
  pub values : are_values v g.table ≡ true
  pub signature : is_signature (length g.signature) ≡ true
  pub size : length (publish (content_as g v)) ≤ 4096

-- the characters of version 4's names: signer, the reference's length, the reference
abbrev pub spelled : List ℕ → List ℕ
spelled text = take 4 text ++ hex_digits (length (drop 4 text)) ++ drop 4 text
