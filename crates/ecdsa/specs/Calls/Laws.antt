-- Laws of the calls to DER and of the hash: the outcome by the tests that lead there.
-- Assumes nothing.
use Rattle.std.specs.Prelude.{◌≡◌, true, false, ℕ, ◌*◌, List, length}
use borrow.Author.Tests.{eq-eqb, ne_eqb}
use Rattle.format.specs.Answers.{refused, refusal}
use Rattle.format.specs.Order.{in_room}
use Rattle.ecdsa.specs.Signature.{is_size, der_of}
use Rattle.ecdsa.specs.Calls.{to_der, hash_for}

-- to DER
module _ (n : ℕ) (bytes : List ℕ) (room : ℕ) where
  pub to_der_no_size : is_size n ≡ false → to_der n bytes room ≡ refused 60 0
  unfolding to_der
  to_der_no_size e = simp e

  module _ (size : is_size n ≡ true) where
    pub to_der_wrong : (length bytes ≡ 2 * n → ⊥) → to_der n bytes room ≡ refused 61 0
    unfolding to_der
    to_der_wrong h = simp (size, ne_eqb (length bytes) (2 * n) h)

    pub to_der_formed : length bytes ≡ 2 * n → to_der n bytes room ≡ in_room 63 (der_of n bytes) room
    unfolding to_der in_room
    to_der_formed h = simp (size, eq-eqb (length bytes) (2 * n) h)

-- n that is none of the five
module _ (n : ℕ) (a : n ≡ 28 → ⊥) (b : n ≡ 32 → ⊥) (c : n ≡ 48 → ⊥) (d : n ≡ 64 → ⊥) (e : n ≡ 66 → ⊥) where
  pub no_size : false ≡ is_size n
  unfolding is_size
  no_size = simp (ne_eqb n 28 a, ne_eqb n 32 b, ne_eqb n 48 c, ne_eqb n 64 d, ne_eqb n 66 e)

  pub no_hash : refusal 0 60 ≡ hash_for n
  unfolding hash_for
  no_hash = simp (ne_eqb n 28 a, ne_eqb n 32 b, ne_eqb n 48 c, ne_eqb n 64 d, ne_eqb n 66 e)
