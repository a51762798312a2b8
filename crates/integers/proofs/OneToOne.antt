-- The answers of the calls on INTEGERs are settled by what `reading_of` and `writing_of` say of them.
-- Assumes nothing.
use Rattle.std.specs.Prelude.{◌≡◌, refl, ℕ, Result, Ok, Err, eqb, ℤ}
use Rattle.format.specs.Choice.{pick}
use Rattle.format.specs.Answers.{Answer, Valued}
use Rattle.format.specs.OneToOne.{OneToOne, one_back}
use Rattle.integers.specs.Calls.{reading_of, writing_of}
use Rattle.octets.specs.declared.NoRoom.{NoRoom}
use Rattle.integers.specs.declared.NotOne.{NotOne}

reading_back : Valued ℤ → Result ℤ NotOne
reading_back a =
    pick (eqb a.number 0) (Ok a.value)
    (Err (record {}))

reading_back_lem : (a : Result ℤ NotOne) → reading_back (reading_of a) ≡ a
unfolding reading_back
reading_back_lem (Ok n) = refl
reading_back_lem (Err e) = refl

pub reading_one : OneToOne reading_of
reading_one = one_back reading_of reading_back reading_back_lem

writing_back : Answer → Result ℕ NoRoom
writing_back a =
    pick (eqb a.number 0) (Ok a.count)
    (Err (record {}))

writing_back_lem : (a : Result ℕ NoRoom) → writing_back (writing_of a) ≡ a
unfolding writing_back
writing_back_lem (Ok n) = refl
writing_back_lem (Err e) = refl

pub writing_one : OneToOne writing_of
writing_one = one_back writing_of writing_back writing_back_lem
