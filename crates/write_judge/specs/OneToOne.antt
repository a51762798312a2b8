-- The answers of `write` are settled by what `writing_of` says of them.
-- Assumes nothing.
use Rattle.std.specs.Prelude.{◌≡◌, refl, ℕ, Result, Ok, Err, eqb}
use Rattle.format.specs.Choice.{pick}
use Rattle.format.specs.Answers.{Answer}
use Rattle.format.specs.OneToOne.{OneToOne, one_back}
use Rattle.write_judge.specs.Calls.{writing_of}
use Rattle.write_judge.specs.declared.Refused.{Refused}
use Rattle.write_judge.specs.declared.Refused.TheVariants as write

writing_back : Answer → Result ℕ Refused
writing_back a =
    pick (eqb a.number 0) (Ok a.count)
    (pick (eqb a.number 20) (Err write.Version)
    (pick (eqb a.number 21) (Err write.Names)
    (pick (eqb a.number 22) (Err write.Dates)
    (pick (eqb a.number 23) (Err write.Last)
    (pick (eqb a.number 24) (Err write.Rows)
    (pick (eqb a.number 25) (Err write.Values)
    (pick (eqb a.number 26) (Err write.Signature)
    (pick (eqb a.number 27) (Err write.TooLong)
    (Err write.NoRoom)))))))))

writing_back_lem : (a : Result ℕ Refused) → writing_back (writing_of a) ≡ a
unfolding writing_back
writing_back_lem (Ok n) = refl
writing_back_lem (Err write.Version) = refl
writing_back_lem (Err write.Names) = refl
writing_back_lem (Err write.Dates) = refl
writing_back_lem (Err write.Last) = refl
writing_back_lem (Err write.Rows) = refl
writing_back_lem (Err write.Values) = refl
writing_back_lem (Err write.Signature) = refl
writing_back_lem (Err write.TooLong) = refl
writing_back_lem (Err write.NoRoom) = refl

pub writing_one : OneToOne writing_of
writing_one = one_back writing_of writing_back writing_back_lem
