-- What the calls on signatures answer (document 01, 60 to 63; to DER 60, 61, 63, as document 02, Ticket 8 has it; to
-- raw 60, 62, 63; hash 60), and the number of each case.
-- Assumes nothing.
pub mod Laws
use Rattle.std.specs.Prelude.{ℕ, ◌*◌, List, [], ◌∷◌, Result, Ok, Err, leb, eqb, length}
use Rattle.format.specs.Choice.{pick}
use Rattle.format.specs.Answers.{Outcome, Answer, Valued, done, result, refusal}
use Rattle.format.specs.Order.{Test, test, in_order}
use Rattle.ecdsa.specs.Signature.{is_size, der_of}
use Rattle.ecdsa.specs.Strict.{raw_of, is_raw, bytes_in}
use Rattle.ecdsa.specs.declared.ToDerError.{ToDerError}
use Rattle.ecdsa.specs.declared.ToDerError.TheVariants as der
use Rattle.ecdsa.specs.declared.ToRawError.{ToRawError}
use Rattle.ecdsa.specs.declared.ToRawError.TheVariants as raw
use Rattle.ecdsa.specs.declared.NoSize.{NoSize}
use Rattle.ecdsa.specs.declared.Hash.{Hash}
use Rattle.ecdsa.specs.declared.Hash.TheVariants as hash

-- to DER: 60, 61, 63
abbrev pub to_der_tests : ℕ → List ℕ → ℕ → List Test
to_der_tests n bytes room =
    test 60 0 (is_size n) ∷ test 61 0 (eqb (length bytes) (2 * n)) ∷ test 63 0 (leb (length (der_of n bytes)) room) ∷ []

unfoldable pub to_der : ℕ → List ℕ → ℕ → Outcome
to_der n bytes room = in_order (to_der_tests n bytes room) (done (der_of n bytes))

-- to raw: 60, 62, 63
abbrev pub to_raw_tests : ℕ → List ℕ → ℕ → List Test
to_raw_tests n bytes room = test 60 0 (is_size n) ∷ test 62 0 (is_raw (raw_of n bytes)) ∷ test 63 0 (leb (2 * n) room) ∷ []

unfoldable pub to_raw : ℕ → List ℕ → ℕ → Outcome
to_raw n bytes room = in_order (to_raw_tests n bytes room) (done (bytes_in (raw_of n bytes)))

-- the hash by n, as its size in bits: 28 SHA-224, 32 SHA-256, 48 SHA-384, 64 and 66 SHA-512
unfoldable pub hash_for : ℕ → Valued ℕ
hash_for n =
    pick (eqb n 28) (result 224)
    (pick (eqb n 32) (result 256)
    (pick (eqb n 48) (result 384)
    (pick (eqb n 64) (result 512)
    (pick (eqb n 66) (result 512)
    (refusal 0 60)))))

-- number and count of each case
abbrev pub to_der_of : Result ℕ ToDerError → Answer
to_der_of (Ok count) = record { number = 0; place = 0; count = count }
to_der_of (Err der.NoSize) = record { number = 60; place = 0; count = 0 }
to_der_of (Err der.WrongLength) = record { number = 61; place = 0; count = 0 }
to_der_of (Err der.NoRoom) = record { number = 63; place = 0; count = 0 }

abbrev pub to_raw_of : Result ℕ ToRawError → Answer
to_raw_of (Ok count) = record { number = 0; place = 0; count = count }
to_raw_of (Err raw.NoSize) = record { number = 60; place = 0; count = 0 }
to_raw_of (Err raw.NotStrict) = record { number = 62; place = 0; count = 0 }
to_raw_of (Err raw.NoRoom) = record { number = 63; place = 0; count = 0 }

abbrev pub hash_of : Result Hash NoSize → Valued ℕ
hash_of (Ok hash.Sha224) = result 224
hash_of (Ok hash.Sha256) = result 256
hash_of (Ok hash.Sha384) = result 384
hash_of (Ok hash.Sha512) = result 512
hash_of (Err e) = refusal 0 60
