-- The answer of `put_words_of` is settled by what `placed_of` says of it, at a number for no room that is not 0.
-- Assumes nothing.
use Rattle.std.specs.Prelude.{◌≡◌, refl, ℕ, Result, Ok, Err, eqb}
use Rattle.format.specs.Choice.{pick}
use Rattle.format.specs.Answers.{Answer}
use Rattle.format.specs.OneToOne.{OneToOne, one_back}
use Rattle.pages.specs.Calls.{placed_of}
use Rattle.octets.specs.declared.NoRoom.{NoRoom}

placed_back : Answer → Result ℕ NoRoom
placed_back a = pick (eqb a.number 0) (Ok a.count) (Err (record {}))

placed_back_lem : (a : Result ℕ NoRoom) → placed_back (placed_of 1 a) ≡ a
unfolding placed_back
placed_back_lem (Ok n) = refl
placed_back_lem (Err e) = refl

pub placed_one : OneToOne (placed_of 1)
placed_one = one_back (placed_of 1) placed_back placed_back_lem
