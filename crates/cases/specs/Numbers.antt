-- Document 01, "At the edges": the date and the INTEGERs, in both directions. Document 02, Ticket 3: 29 February 2000 and 1900.
-- Assumes nothing.
use Rattle.std.specs.Prelude.{List, [], ◌∷◌, ℕ, suc, ℤ, pos, negsuc}
use Rattle.format.specs.BigEndian.{val}
use Rattle.format.specs.Answers.{Outcome, Valued, done}
use Rattle.dates.specs.Days.{publish}
use Rattle.dates.specs.Calls.{from_number}
use Rattle.dates.specs.declared.Date.{Date}
use Rattle.integers.specs.Calls.{reading, writing}
use Rattle.cases.specs.Case.{Case}

-- a number that is given, shown as its date's fields; and an INTEGER, shown as its sign (1 for a number below 0) and how far it is from 0
abbrev pub fields : Valued Date → Outcome
fields g = record { number = g.number; place = g.place; written = g.value.month ∷ g.value.day ∷ g.value.year ∷ [] }

abbrev pub signed : ℤ → List ℕ
signed (pos n) = 0 ∷ n ∷ []
signed (negsuc n) = 1 ∷ suc n ∷ []

abbrev pub value : Valued ℤ → Outcome
value g = record { number = g.number; place = g.place; written = signed g.value }

-- 25 March 1957
abbrev pub spring : Date
spring = record { month = 3; day = 25; year = 1957 }

abbrev pub writes : ℤ → List ℕ → Case
writes v bytes = record { found = writing v 10; expected = done bytes }

abbrev pub reads : List ℕ → ℤ → Case
reads bytes v = record { found = value (reading bytes); expected = done (signed v) }

abbrev pub number_cases : List Case
number_cases =
    record { found = done (publish spring); expected = done (0x31 ∷ 0x9E ∷ 0xF5 ∷ []) } ∷
    record { found = fields (from_number (val (0x31 ∷ 0x9E ∷ 0xF5 ∷ []) 3)); expected = done (3 ∷ 25 ∷ 1957 ∷ []) } ∷
    record { found = fields (from_number 2292000); expected = done (2 ∷ 29 ∷ 2000 ∷ []) } ∷
    record { found = fields (from_number 2291900); expected = record { number = 6; place = 0; written = 0 ∷ 0 ∷ 0 ∷ [] } } ∷
    writes (pos 0) (0x02 ∷ 0x01 ∷ 0x00 ∷ []) ∷
    writes (pos 127) (0x02 ∷ 0x01 ∷ 0x7F ∷ []) ∷
    writes (pos 128) (0x02 ∷ 0x02 ∷ 0x00 ∷ 0x80 ∷ []) ∷
    writes (negsuc 128) (0x02 ∷ 0x02 ∷ 0xFF ∷ 0x7F ∷ []) ∷
    writes (negsuc 25356) (0x02 ∷ 0x02 ∷ 0x9C ∷ 0xF3 ∷ []) ∷
    reads (0x02 ∷ 0x01 ∷ 0x00 ∷ []) (pos 0) ∷
    reads (0x02 ∷ 0x01 ∷ 0x7F ∷ []) (pos 127) ∷
    reads (0x02 ∷ 0x02 ∷ 0x00 ∷ 0x80 ∷ []) (pos 128) ∷
    reads (0x02 ∷ 0x02 ∷ 0xFF ∷ 0x7F ∷ []) (negsuc 128) ∷
    reads (0x02 ∷ 0x02 ∷ 0x9C ∷ 0xF3 ∷ []) (negsuc 25356) ∷
    []
