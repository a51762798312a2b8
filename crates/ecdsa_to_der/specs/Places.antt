-- What the inner functions ask of the places they write to.
-- Assumes nothing.
pub mod Laws
use Rattle.std.specs.Prelude.{◌≡◌, true, ℕ, ◌+◌, ◌<◌, ◌≤◌, List, length}
use Rattle.ecdsa.specs.Signature.{is_size, content_from}

-- the digits start inside the number, whose size is told in one byte, and there is room for tag, size and content
pub record Room (number : List ℕ) (start : ℕ) (out : List ℕ) (at : ℕ) : Type 0 where
  pub inside : start < length number
  pub small : length number < 127
  pub room : at + 2 + length (content_from number start) ≤ length out

-- two numbers of one of the five sizes
pub record Numbers (r s : List ℕ) : Type 0 where
  pub size : is_size (length r) ≡ true
  pub alike : length s ≡ length r
