-- The answers of the calls on dates are settled by what `taken_of` and `numbered_of` say of them.
-- Assumes nothing.
use Rattle.std.specs.Prelude.{◌≡◌, refl, ℕ, Result, Ok, Err, eqb}
use Rattle.format.specs.Choice.{pick}
use Rattle.format.specs.Answers.{Valued}
use Rattle.format.specs.OneToOne.{OneToOne, one_back}
use Rattle.dates.specs.Calls.{taken_of, numbered_of}
use Rattle.dates.specs.declared.Date.{Date}
use Rattle.dates.specs.declared.NoSuchDate.{NoSuchDate}

taken_back : Valued Date → Result Date NoSuchDate
taken_back g = pick (eqb g.number 0) (Ok g.value) (Err (record {}))

taken_back_lem : (a : Result Date NoSuchDate) → taken_back (taken_of a) ≡ a
unfolding taken_back
taken_back_lem (Ok d) = refl
taken_back_lem (Err e) = refl

pub taken_one : OneToOne taken_of
taken_one = one_back taken_of taken_back taken_back_lem

numbered_back : Valued ℕ → Result ℕ NoSuchDate
numbered_back g = pick (eqb g.number 0) (Ok g.value) (Err (record {}))

numbered_back_lem : (a : Result ℕ NoSuchDate) → numbered_back (numbered_of a) ≡ a
unfolding numbered_back
numbered_back_lem (Ok n) = refl
numbered_back_lem (Err e) = refl

pub numbered_one : OneToOne numbered_of
numbered_one = one_back numbered_of numbered_back numbered_back_lem
