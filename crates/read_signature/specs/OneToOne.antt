-- The answer of the signature is settled by what `signature_of` says of it.
-- Assumes nothing.
use Rattle.std.specs.Prelude.{◌≡◌, refl, ℕ, Result, Ok, Err}
use Rattle.format.specs.OneToOne.{OneToOne, one_back}
use Rattle.verdict.specs.Items.{Way, is, not}
use Rattle.read_signature.specs.Meaning.{signature_of}
use Rattle.read_signature.specs.declared.Signature.{Signature}
use Rattle.read_items.specs.declared.cursor.Refusal.{Refusal}

signature_back : Way ℕ → Result Signature Refusal
signature_back (is size at) = Ok (record { size = size; start = record { place = at } })
signature_back (not why place) = Err (record { why = why; place = place })

signature_back_lem : (a : Result Signature Refusal) → signature_back (signature_of a) ≡ a
unfolding signature_back
signature_back_lem (Ok signature) = refl
signature_back_lem (Err why) = refl

pub signature_one : OneToOne signature_of
signature_one = one_back signature_of signature_back signature_back_lem
