-- What telling the words of a number answers: 0, or 63 where they do not fit.
-- Assumes nothing.
pub mod Laws
use Rattle.std.specs.Prelude.{ℕ, Result}
use Rattle.format.specs.Answers.{Outcome, Answer}
use Rattle.format.specs.Order.{in_room}
use Rattle.octets.specs.declared.NoRoom.{NoRoom}
use Rattle.pages.specs.Calls.{placed_of}
use Rattle.pages.specs.Rows.{LongestIn}
use Rattle.words.specs.Words.{table, words_of}

-- a number that has no words is told with none
abbrev pub saying : ℕ → ℕ → Outcome
saying number room = in_room 63 (words_of number) room

-- number and count of each case
abbrev pub told_of : Result ℕ NoRoom → Answer
told_of r = placed_of 63 r

-- the length of the longest words: no number has more, and one has as many
abbrev pub Longest : ℕ → Type 0
Longest size = LongestIn table size
