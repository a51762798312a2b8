-- THE table of the words of the numbers, a line a number: document 01's own ("The numbers a call answers"), without the places.
-- Assumes nothing.
pub mod Laws
use Rattle.std.specs.Prelude.{ℕ, List, [], ◌∷◌, ◌++◌}
use Rattle.pages.specs.Rows.{Row, row, sought}

-- the reader
abbrev pub reader : List Row
reader =
    row 0 "done"
    ∷ row 1 "seal longer than 4,096"
    ∷ row 2 "the input ends before an item is whole"
    ∷ row 3 "first byte is not DC"
    ∷ row 4 "version byte is not 02 or 03"
    ∷ row 5 "country, signer, L or reference wrongly coded or with a wrong character"
    ∷ row 6 "no such date"
    ∷ row 7 "definition reference or category is 0 or 255"
    ∷ row 8 "DER length malformed or not shortest"
    ∷ row 9 "tag already used"
    ∷ row 10 "signature length is not 56, 64, 96, 128 or 132"
    ∷ row 11 "bytes after the signature"
    ∷ row 12 "seal good, but the lent table has under 4 numbers a feature, or the text room is under 4 + L"
    ∷ []

-- the writer
abbrev pub writer : List Row
writer =
    row 20 "writer: version not 3 or 4"
    ∷ row 21 "writer: country, signer or reference"
    ∷ row 22 "writer: date"
    ∷ row 23 "writer: definition reference or category"
    ∷ row 24 "writer: table not in fours, tag over 254 or used twice, or a value outside the values buffer"
    ∷ row 25 "writer: value over 255 bytes in version 3"
    ∷ row 26 "writer: signature length"
    ∷ row 27 "writer: seal would pass 4,096"
    ∷ row 28 "writer: no room for the whole seal"
    ∷ []

-- C40 text
abbrev pub codecs : List Row
codecs =
    row 40 "C40 bytes odd in number"
    ∷ row 41 "C40 pair value of 0 or over 64,000 that does not begin with FE"
    ∷ row 42 "no room for the text"
    ∷ row 43 "character that is not in the chart"
    ∷ row 44 "no room for the C40 bytes"
    ∷ row 45 "text or bytes over the size"
    ∷ row 46 "C40 shift value where none may stand"
    ∷ row 47 "C40 FE misplaced or followed by a code outside the chart"
    ∷ []

-- the look-up of a tag, and the walk (document 02, Ticket 2)
abbrev pub walking : List Row
walking =
    row 50 "feature in neither seal"
    ∷ row 51 "no further feature"
    ∷ []

-- signatures, INTEGERs and the choice of hash
abbrev pub signatures : List Row
signatures =
    row 60 "n is not one of the five"
    ∷ row 61 "raw length is not 2n"
    ∷ row 62 "not strict DER, with bytes left over, negative, or too big for n"
    ∷ row 63 "no room"
    ∷ row 65 "not one whole DER INTEGER of 1 to 8 bytes"
    ∷ []

-- the numbers that are retired (document 02, Ticket 8) and not given out again: they have no row
abbrev pub retired : List ℕ
retired = 64 ∷ []

-- the rows from a group on, and all of them
abbrev pub from_codecs : List Row
from_codecs = codecs ++ walking ++ signatures

abbrev pub from_writer : List Row
from_writer = writer ++ from_codecs

abbrev pub table : List Row
table = reader ++ from_writer

-- the words of a number, as bytes
abbrev pub words_of : ℕ → List ℕ
words_of n = sought n table
