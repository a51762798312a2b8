-- What the calls on INTEGERs answer (document 01: 65 or 63).
-- Assumes nothing.
pub mod Laws
use Rattle.std.specs.Prelude.{ℕ, ◌-◌, List, Option, Some, None, Result, Ok, Err, ltb, eqb, ℤ, pos, length, take, drop}
use Rattle.format.specs.Choice.{pick}
use Rattle.format.specs.Answers.{Outcome, Answer, Valued, result, refusal}
use Rattle.format.specs.Order.{in_room}
use Rattle.der.specs.Element.{element_in}
use Rattle.der.specs.Content.{strict}
use Rattle.integers.specs.Integer.{value_of, integer_of}
use Rattle.der.specs.declared.Body.{Body}
use Rattle.octets.specs.declared.NoRoom.{NoRoom}
use Rattle.integers.specs.declared.NotOne.{NotOne}

-- content of 1 to 8 bytes, of the shortest form
abbrev pub content : List ℕ → Valued ℤ
content c = pick (strict c) (pick (ltb 8 (length c)) (refusal (pos 0) 65) (result (value_of c))) (refusal (pos 0) 65)

-- one whole INTEGER, and nothing left over
abbrev pub whole : List ℕ → Option Body → Valued ℤ
whole s (Some b) = pick (eqb b.end (length s)) (content (take (b.end - b.start) (drop b.start s))) (refusal (pos 0) 65)
whole s None = refusal (pos 0) 65

unfoldable pub reading : List ℕ → Valued ℤ
reading s = whole s (element_in 0x02 s)

unfoldable pub writing : ℤ → ℕ → Outcome
writing v room = in_room 63 (integer_of v) room

-- number and value of each case
abbrev pub reading_of : Result ℤ NotOne → Valued ℤ
reading_of (Ok v) = result v
reading_of (Err e) = refusal (pos 0) 65

abbrev pub writing_of : Result ℕ NoRoom → Answer
writing_of (Ok count) = record { number = 0; place = 0; count = count }
writing_of (Err e) = record { number = 63; place = 0; count = 0 }
