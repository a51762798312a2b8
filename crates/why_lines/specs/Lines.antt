-- The text that tells why a seal is refused (document 02, Ticket 11): "the number, the name of the item, its place, the bytes judged and
-- the broken rule in words. For an accepted seal it says so." And how far it is good (Ticket 12).
-- Assumes nothing.
use Rattle.std.specs.Prelude.{◌≡◌, ℕ, List, [], eqb, ltb, length, take, drop}
use Rattle.format.specs.Bytes.{Bytes}
use Rattle.format.specs.Choice.{pick}
use Rattle.reading.specs.declared.Part.{Part}
use Rattle.lines.specs.Line.{decimal_of, ascii, ◌then◌}
use Rattle.list_lines.specs.ListLine.{line}
use Rattle.hex_bytes.specs.Shown.{shown}
use Rattle.why_words.specs.Names.{name_of, words_of}
use Rattle.why.specs.declared.Reason.{Reason}
use Rattle.why.specs.Told.{told}
use Rattle.front_header.specs.Header.{front}

-- the bytes of a seal that were judged, as far as they are there
abbrev pub judged_in : List ℕ → Part → List ℕ
judged_in s part = take part.length (drop part.place s)

-- the five lines of a refusal
unfoldable pub reason_lines : Reason → List ℕ → List ℕ
reason_lines r judged =
    line "number " (decimal_of r.number)
    then line "item " (name_of r.item)
    then line "place " (decimal_of r.place)
    then line "bytes" (shown judged)
    then line "rule " (words_of r.rule)

-- behind the front part: the byte that no seal has there; or every byte given is hopeful, and the input ends
abbrev pub ending_of : List ℕ → ℕ → List ℕ
ending_of s front =
    pick (ltb front (length s))
    (ascii ", no seal has" then shown (take 1 (drop front s)) then ascii " there")
    (ascii ", the input ends too early")

-- the sixth line of a refusal
unfoldable pub front_line : List ℕ → ℕ → List ℕ
front_line s front = ascii "good up to " then decimal_of front then ending_of s front then ascii "\n"

-- 0 is an accepted seal
abbrev pub text_of : List ℕ → Reason → ℕ → List ℕ
text_of s r front =
    pick (eqb r.number 0) (line "accepted" []) (reason_lines r (judged_in s r.judged) then front_line s front)

-- THE text for a byte string
unfoldable pub why_text : List ℕ → List ℕ
why_text s = text_of s (told s) (front s)

-- reading so many bytes of an input is enough: what is said of them is what is said of all
pub record Enough (n : ℕ) : Type 0 where
  pub same : (s : List ℕ) → Bytes s → why_text (take n s) ≡ why_text s
