-- Lines of the listing (document 01, "A whole seal and its listing"): what a line is, how a date is written, what the header's lines say.
-- Assumes nothing.
use Rattle.std.specs.Prelude.{ℕ, List, [], ltb, take, drop}
use Prim.Native.String.{String}
use Rattle.format.specs.Choice.{pick}
use Rattle.dates.specs.declared.Date.{Date}
use Rattle.lines.specs.Line.{decimal_of, ascii, ◌then◌}

-- a line: a name, what it says, a newline
abbrev pub line_of : List ℕ → List ℕ → List ℕ
line_of name words = name then words then ascii "\n"

abbrev pub line : String → List ℕ → List ℕ
line name words = line_of (ascii name) words

-- a zero in front of a number below a limit
abbrev pub zero_below : ℕ → ℕ → List ℕ
zero_below limit n = pick (ltb n limit) (ascii "0") []

-- a number with at least two digits, and with at least four
abbrev pub two : ℕ → List ℕ
two n = zero_below 10 n then decimal_of n

abbrev pub four : ℕ → List ℕ
four n = zero_below 1000 n then zero_below 100 n then two n

-- YYYY-MM-DD
abbrev pub day : Date → List ℕ
day d = four d.year then ascii "-" then two d.month then ascii "-" then two d.day

-- version and country, and out of the text the signer, its first four bytes, and the reference after them
unfoldable pub name_lines : ℕ → List ℕ → List ℕ → ℕ → List ℕ
name_lines version country text size =
    line "version " (decimal_of version)
    then line "country " country
    then line "signer " (take 4 text)
    then line "reference " (take size (drop 4 text))

unfoldable pub date_lines : Date → Date → ℕ → ℕ → List ℕ
date_lines issued signed definition category =
    line "issued " (day issued)
    then line "signed " (day signed)
    then line "definition " (decimal_of definition)
    then line "category " (decimal_of category)

abbrev pub refusal : ℕ → ℕ → List ℕ
refusal number place = line "refused " (decimal_of number then ascii " at " then decimal_of place)
