-- Laws of the call to raw: the outcome by the tests that lead there.
-- Assumes nothing.
use Rattle.std.specs.Prelude.{◌≡◌, true, false, ℕ, ◌*◌, ◌<◌, ◌≤◌, List, leb}
use Rattle.std.proofs.Common.{◌∙◌, le-leb}
use Rattle.std.proofs.lemmas.Bool.{lt-leb}
use Rattle.format.specs.Choice.{pick}
use Rattle.format.specs.Answers.{done, refused}
use Rattle.ecdsa.specs.Signature.{is_size}
use Rattle.ecdsa.specs.Strict.{Raw, raw_of, is_raw, bytes_in}
use Rattle.ecdsa.specs.Calls.{to_raw}

-- the outcome, by the tests
module _ (n : ℕ) (s : List ℕ) (room : ℕ) where
  pub to_raw_no_size : is_size n ≡ false → to_raw n s room ≡ refused 60 0
  unfolding to_raw
  to_raw_no_size e = simp e

  module _ (size : is_size n ≡ true) where
    sized :
        (r : Raw) →
        raw_of n s ≡ r →
        to_raw n s room ≡ pick (is_raw r) (pick (leb (2 * n) room) (done (bytes_in r)) (refused 63 0)) (refused 62 0)
    unfolding to_raw
    sized r e = simp (size, e)

    pub to_raw_not_strict : raw_of n s ≡ Raw.none → to_raw n s room ≡ refused 62 0
    to_raw_not_strict e = sized Raw.none e

    module _ (bytes : List ℕ) (e : raw_of n s ≡ Raw.raw bytes) where
      pub to_raw_no_room : room < 2 * n → to_raw n s room ≡ refused 63 0
      to_raw_no_room h = sized (Raw.raw bytes) e ∙ simp (lt-leb (2 * n) room h)

      pub to_raw_done : 2 * n ≤ room → to_raw n s room ≡ done bytes
      to_raw_done h = sized (Raw.raw bytes) e ∙ simp (le-leb (2 * n) room h)
