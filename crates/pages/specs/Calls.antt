-- What putting words down answers: 0, or the number that whoever calls gives for no room.
-- Assumes nothing.
pub mod Laws
use Rattle.std.specs.Prelude.{ℕ, ◌≡◌, Result, Ok, Err, List, length}
use Rattle.format.specs.Answers.{Answer, told, filled}
use Rattle.format.specs.Order.{in_room}
use Rattle.octets.specs.declared.NoRoom.{NoRoom}

-- number and count of each case
abbrev pub placed_of : ℕ → Result ℕ NoRoom → Answer
placed_of none (Ok count) = record { number = 0; place = 0; count = count }
placed_of none (Err e) = record { number = none; place = 0; count = 0 }

-- these bytes were put down from the start of a buffer, or nothing where there is no room for all of them, whatever number says so
pub record AllOrNone (bytes out : List ℕ) (r : Result ℕ NoRoom) (after : List ℕ) : Type 0 where
  pub answer : (none : ℕ) → placed_of none r ≡ told (in_room none bytes (length out))
  pub buffer : (none : ℕ) → after ≡ filled (in_room none bytes (length out)) out
