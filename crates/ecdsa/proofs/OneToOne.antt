-- The answers of the calls on signatures are settled by what `to_der_of`, `to_raw_of` and `hash_of` say of them.
-- Assumes nothing.
use Rattle.std.specs.Prelude.{◌≡◌, refl, ℕ, Result, Ok, Err, eqb}
use Rattle.format.specs.Choice.{pick}
use Rattle.format.specs.Answers.{Answer, Valued}
use Rattle.format.specs.OneToOne.{OneToOne, one_back}
use Rattle.ecdsa.specs.Calls.{to_der_of, to_raw_of, hash_of}
use Rattle.ecdsa.specs.declared.ToDerError.{ToDerError}
use Rattle.ecdsa.specs.declared.ToDerError.TheVariants as der
use Rattle.ecdsa.specs.declared.ToRawError.{ToRawError}
use Rattle.ecdsa.specs.declared.ToRawError.TheVariants as raw
use Rattle.ecdsa.specs.declared.NoSize.{NoSize}
use Rattle.ecdsa.specs.declared.Hash.{Hash}
use Rattle.ecdsa.specs.declared.Hash.TheVariants as hash

der_back : Answer → Result ℕ ToDerError
der_back a =
    pick (eqb a.number 0) (Ok a.count)
    (pick (eqb a.number 60) (Err der.NoSize)
    (pick (eqb a.number 61) (Err der.WrongLength)
    (Err der.NoRoom)))

der_back_lem : (a : Result ℕ ToDerError) → der_back (to_der_of a) ≡ a
unfolding der_back
der_back_lem (Ok n) = refl
der_back_lem (Err der.NoSize) = refl
der_back_lem (Err der.WrongLength) = refl
der_back_lem (Err der.NoRoom) = refl

pub der_one : OneToOne to_der_of
der_one = one_back to_der_of der_back der_back_lem

raw_back : Answer → Result ℕ ToRawError
raw_back a =
    pick (eqb a.number 0) (Ok a.count)
    (pick (eqb a.number 60) (Err raw.NoSize)
    (pick (eqb a.number 62) (Err raw.NotStrict)
    (Err raw.NoRoom)))

raw_back_lem : (a : Result ℕ ToRawError) → raw_back (to_raw_of a) ≡ a
unfolding raw_back
raw_back_lem (Ok n) = refl
raw_back_lem (Err raw.NoSize) = refl
raw_back_lem (Err raw.NotStrict) = refl
raw_back_lem (Err raw.NoRoom) = refl

pub raw_one : OneToOne to_raw_of
raw_one = one_back to_raw_of raw_back raw_back_lem

hash_back : Valued ℕ → Result Hash NoSize
hash_back a =
    pick (eqb a.value 224) (Ok hash.Sha224)
    (pick (eqb a.value 256) (Ok hash.Sha256)
    (pick (eqb a.value 384) (Ok hash.Sha384)
    (pick (eqb a.value 512) (Ok hash.Sha512)
    (Err (record {})))))

hash_back_lem : (a : Result Hash NoSize) → hash_back (hash_of a) ≡ a
unfolding hash_back
hash_back_lem (Ok hash.Sha224) = refl
hash_back_lem (Ok hash.Sha256) = refl
hash_back_lem (Ok hash.Sha384) = refl
hash_back_lem (Ok hash.Sha512) = refl
hash_back_lem (Err e) = refl

pub hash_one : OneToOne hash_of
hash_one = one_back hash_of hash_back hash_back_lem
