-- What telling the name of an item or the words of a rule answers: 0, or 42 where they do not fit.
-- Assumes nothing.
pub mod Laws
use Rattle.std.specs.Prelude.{ℕ, Result}
use Rattle.format.specs.Answers.{Outcome, Answer}
use Rattle.format.specs.Order.{in_room}
use Rattle.octets.specs.declared.NoRoom.{NoRoom}
use Rattle.pages.specs.Calls.{placed_of}
use Rattle.pages.specs.Rows.{LongestIn}
use Rattle.why_words.specs.Names.{items, rules, name_of, words_of}

-- a code that has no name, or no words, is told with none
abbrev pub naming : ℕ → ℕ → Outcome
naming item room = in_room 42 (name_of item) room

abbrev pub wording : ℕ → ℕ → Outcome
wording rule room = in_room 42 (words_of rule) room

-- number and count of each case
abbrev pub told_of : Result ℕ NoRoom → Answer
told_of r = placed_of 42 r

-- the length of the longest name, and of the longest words: no code has more, and one has as many
abbrev pub LongestName : ℕ → Type 0
LongestName size = LongestIn items size

abbrev pub LongestWords : ℕ → Type 0
LongestWords size = LongestIn rules size
