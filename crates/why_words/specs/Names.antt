-- THE names of the items and THE words of the rules that the crew is told (document 02, Ticket 11), a line a code.
-- Assumes nothing.
pub mod Laws
use Rattle.std.specs.Prelude.{ℕ, List, [], ◌∷◌}
use Rattle.pages.specs.Rows.{Row, row, sought}

-- the items of a seal, in the order in which they are judged
abbrev pub items : List Row
items =
    row 1 "seal"
    ∷ row 2 "mark"
    ∷ row 3 "version"
    ∷ row 4 "country"
    ∷ row 5 "signer and reference"
    ∷ row 6 "signer and length"
    ∷ row 7 "reference"
    ∷ row 8 "issue date"
    ∷ row 9 "signature date"
    ∷ row 10 "definition"
    ∷ row 11 "category"
    ∷ row 12 "tag"
    ∷ row 13 "length"
    ∷ row 14 "value"
    ∷ row 15 "signature length"
    ∷ row 16 "signature"
    ∷ row 17 "end"
    ∷ []

-- the rules that an item keeps
abbrev pub rules : List Row
rules =
    row 1 "a seal has at most 4,096 bytes"
    ∷ row 2 "all its bytes are there"
    ∷ row 3 "a seal begins with DC"
    ∷ row 4 "the version is 02 or 03"
    ∷ row 5 "every two bytes stand for characters, as many as the item has"
    ∷ row 6 "the date is a real day"
    ∷ row 7 "the number is 1 to 254"
    ∷ row 8 "the length begins with 00 to 7F or with 81 to 84"
    ∷ row 9 "a tag is used once only"
    ∷ row 10 "the signature is 56, 64, 96, 128 or 132 bytes long"
    ∷ row 11 "nothing follows the signature"
    ∷ row 12 "the country is a letter, then letters, then < to fill"
    ∷ row 13 "the signer is two letters, then two letters or digits"
    ∷ row 14 "the reference is letters and digits"
    ∷ row 15 "the reference's length is two of 0 to 9 and A to F"
    ∷ row 16 "the reference's length is not 00"
    ∷ row 17 "all bytes of the length are there"
    ∷ row 18 "the length is in its shortest form"
    ∷ []

-- the name of an item and the words of a rule, as bytes; none for a code that is not in the table
abbrev pub name_of : ℕ → List ℕ
name_of item = sought item items

abbrev pub words_of : ℕ → List ℕ
words_of rule = sought rule rules
