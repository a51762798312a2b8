-- The answers of the text codec are settled by what `reading_of` and `writing_of` say of them.
-- Assumes nothing.
use Rattle.std.specs.Prelude.{◌≡◌, refl, ℕ, eqb, Result, Ok, Err}
use Rattle.format.specs.Choice.{pick}
use Rattle.format.specs.Answers.{Answer}
use Rattle.format.specs.OneToOne.{OneToOne, one_back}
use Rattle.c40.specs.Calls.{reading_of, writing_of}
use Rattle.pairs.specs.declared.decode.Fault.TheVariants.{OutOfRange, Shift, Single}
use Rattle.pairs.specs.declared.decode.Fault.{Fault}
use Rattle.c40.specs.declared.ReadError.{ReadError}
use Rattle.c40.specs.declared.ReadError.TheVariants as read
use Rattle.c40.specs.declared.WriteError.{WriteError}
use Rattle.c40.specs.declared.WriteError.TheVariants as write

abbrev wrong_pair : Fault → ℕ → Result ℕ ReadError
wrong_pair fault at = Err (read.WrongPair (record { fault = fault; place = at }))

reading_back : Answer → Result ℕ ReadError
reading_back a =
    pick (eqb a.number 0) (Ok a.count)
    (pick (eqb a.number 45) (Err read.TooLong)
    (pick (eqb a.number 40) (Err (read.Odd a.place))
    (pick (eqb a.number 41) (wrong_pair OutOfRange a.place)
    (pick (eqb a.number 46) (wrong_pair Shift a.place)
    (pick (eqb a.number 47) (wrong_pair Single a.place)
    (Err read.NoRoom))))))

wrong_back_lem : (fault : Fault) (at : ℕ) → reading_back (reading_of (wrong_pair fault at)) ≡ wrong_pair fault at
unfolding reading_back
wrong_back_lem OutOfRange n = refl
wrong_back_lem Shift n = refl
wrong_back_lem Single n = refl

reading_back_lem : (a : Result ℕ ReadError) → reading_back (reading_of a) ≡ a
unfolding reading_back
reading_back_lem (Ok n) = refl
reading_back_lem (Err read.TooLong) = refl
reading_back_lem (Err (read.Odd n)) = refl
reading_back_lem (Err (read.WrongPair wrong)) = wrong_back_lem wrong.fault wrong.place
reading_back_lem (Err read.NoRoom) = refl

pub reading_one : OneToOne reading_of
reading_one = one_back reading_of reading_back reading_back_lem

writing_back : Answer → Result ℕ WriteError
writing_back a =
    pick (eqb a.number 0) (Ok a.count)
    (pick (eqb a.number 45) (Err write.TooLong)
    (pick (eqb a.number 43) (Err (write.Stranger a.place))
    (Err write.NoRoom)))

writing_back_lem : (a : Result ℕ WriteError) → writing_back (writing_of a) ≡ a
unfolding writing_back
writing_back_lem (Ok n) = refl
writing_back_lem (Err write.TooLong) = refl
writing_back_lem (Err (write.Stranger n)) = refl
writing_back_lem (Err write.NoRoom) = refl

pub writing_one : OneToOne writing_of
writing_one = one_back writing_of writing_back writing_back_lem
