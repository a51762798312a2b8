-- The answer of `put_item_name` and of `put_rule_words` is settled by what `told_of` says of it.
-- Assumes nothing.
use Rattle.std.specs.Prelude.{◌≡◌, refl, ℕ, Result, Ok, Err, eqb}
use Rattle.format.specs.Choice.{pick}
use Rattle.format.specs.Answers.{Answer}
use Rattle.format.specs.OneToOne.{OneToOne, one_back}
use Rattle.why_words.specs.Calls.{told_of}
use Rattle.octets.specs.declared.NoRoom.{NoRoom}

told_back : Answer → Result ℕ NoRoom
told_back a = pick (eqb a.number 0) (Ok a.count) (Err (record {}))

told_back_lem : (a : Result ℕ NoRoom) → told_back (told_of a) ≡ a
unfolding told_back
told_back_lem (Ok n) = refl
told_back_lem (Err e) = refl

pub told_one : OneToOne told_of
told_one = one_back told_of told_back told_back_lem
