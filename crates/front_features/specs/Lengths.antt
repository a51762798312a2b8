-- A feature's length at a place, by what stands there: each answer of the definition is an answer of the code.
-- Assumes nothing.
use Rattle.std.specs.Prelude.{◌≡◌, ℕ, ◌+◌, ◌*◌, ◌<◌, ◌≤◌, List, ◌∷◌, length, drop, get_or}
use Rattle.std.proofs.Common.{ap}
use native.Mathlib.Omega.{arith}
use borrow.Author.Tests.{eq-eqb, ne_eqb, lt-ltb, le-ltb}
use Rattle.format.specs.Places.{past_end}
use Rattle.grammar.specs.Content.{Version, three, four}
use Rattle.front_message.specs.Message.{ends, last_of, after_one, after_high, after_two, length_front}
use Rattle.front_features.specs.Meaning.{counted, ended, counted_of}
use Rattle.front_features.specs.Places.{byte_here}

-- the last byte of a length, without room for what it tells
pub last_cramped : (room n w at : ℕ) → room < 1 + w + n + 58 → ended (at + w) ≡ counted_of at (last_of room n w)
last_cramped room n w at h = rw (lt-ltb room (1 + w + n + 58) h)

-- the last byte of a length, with room
pub last_is : (room n w at : ℕ) → 1 + w + n + 58 ≤ room → counted n (at + (1 + w)) ≡ counted_of at (last_of room n w)
last_is room n w at h = rw (le-ltb room (1 + w + n + 58) h)

-- a length of which nothing can be completed ends where it starts
ends_here : (at : ℕ) → ended at ≡ counted_of at (ends 0)
ends_here at = let e : at ≡ at + 0 = omega arith in ap ended e

module _ (room at : ℕ) (s : List ℕ) where
  -- no byte behind 81
  pub one_end : length s ≤ at + 1 → ended (at + 1) ≡ counted_of at (after_one room (drop (at + 1) s))
  unfolding after_one
  one_end h = rw (past_end s (at + 1) h)

  -- no byte behind 82
  pub two_end : length s ≤ at + 1 → ended (at + 1) ≡ counted_of at (after_two room (drop (at + 1) s))
  unfolding after_two
  two_end h = rw (past_end s (at + 1) h)

  -- no byte behind 82 and another
  pub high_end : (high : ℕ) → length s ≤ at + 2 → ended (at + 2) ≡ counted_of at (after_high room high (drop (at + 2) s))
  unfolding after_high
  high_end high h = rw (past_end s (at + 2) h)

  -- a byte behind 82 and another
  pub high_last : (x high : ℕ) → at + 2 < length s → x ≡ get_or s (at + 2) 0
      → counted_of at (last_of room (high * 256 + x) 2) ≡ counted_of at (after_high room high (drop (at + 2) s))
  unfolding after_high
  high_last x high h e = rw (byte_here s (at + 2) x h e)

  -- no byte of a length at all
  pub length_end : (v : Version) → length s ≤ at → ended at ≡ counted_of at (length_front v room (drop at s))
  unfolding length_front
  length_end three h = rw (past_end s at h) (ends_here at)
  length_end four h = rw (past_end s at h) (ends_here at)

  -- a byte behind 81 or 82
  module _ (x : ℕ) (h : at + 1 < length s) (e : x ≡ get_or s (at + 1) 0) where
    -- below 128 behind 81
    pub one_small : x < 0x80 → ended (at + 1) ≡ counted_of at (after_one room (drop (at + 1) s))
    unfolding after_one
    one_small less = rw (byte_here s (at + 1) x h e, lt-ltb x 0x80 less)

    -- from 128 on behind 81
    pub one_last : 0x80 ≤ x → counted_of at (last_of room x 1) ≡ counted_of at (after_one room (drop (at + 1) s))
    unfolding after_one
    one_last more = rw (byte_here s (at + 1) x h e, le-ltb x 0x80 more)

    -- 0 behind 82
    pub two_zero : x ≡ 0 → ended (at + 1) ≡ counted_of at (after_two room (drop (at + 1) s))
    unfolding after_two
    two_zero z = rw (byte_here s (at + 1) x h e, eq-eqb x 0 z)

    module _ (n : x ≡ 0 → ⊥) where
      -- a byte behind 82 without room for what it tells at least
      pub two_cramped : room < 3 + x * 256 + 58 → ended (at + 1) ≡ counted_of at (after_two room (drop (at + 1) s))
      unfolding after_two
      two_cramped less = rw (byte_here s (at + 1) x h e, ne_eqb x 0 n, lt-ltb room (3 + x * 256 + 58) less)

      -- another byte behind 82
      pub two_high : 3 + x * 256 + 58 ≤ room
          → counted_of at (after_high room x (drop (at + 2) s)) ≡ counted_of at (after_two room (drop (at + 1) s))
      unfolding after_two
      two_high more =
          let two : at + 1 + 1 ≡ at + 2 = omega arith in
          rw (byte_here s (at + 1) x h e, ne_eqb x 0 n, le-ltb room (3 + x * 256 + 58) more, two)

  -- the first byte of a length: all of it in version 3
  module _ (x : ℕ) (h : at < length s) (e : x ≡ get_or s at 0) where
    pub length_three : (v : Version) → v ≡ three → counted_of at (last_of room x 0) ≡ counted_of at (length_front v room (drop at s))
    unfolding length_front
    length_three v f = rw (f, byte_here s at x h e)

    -- the first byte of a DER length
    pub length_four : (v : Version) → v ≡ four
        → counted_of at (length_front four room (x ∷ drop (at + 1) s)) ≡ counted_of at (length_front v room (drop at s))
    length_four v f = rw (f, byte_here s at x h e)

-- a DER length by its first byte
module _ (room at b : ℕ) (s : List ℕ) where
  -- below 128
  pub der_small : b < 0x80 → counted_of at (last_of room b 0) ≡ counted_of at (length_front four room (b ∷ s))
  unfolding length_front
  der_small less = rw (lt-ltb b 0x80 less)

  module _ (more : 0x80 ≤ b) where
    -- 81 without room
    pub der_one_cramped : b ≡ 0x81 → room < 188 → ended at ≡ counted_of at (length_front four room (b ∷ s))
    unfolding length_front
    der_one_cramped e less = rw (le-ltb b 0x80 more, eq-eqb b 0x81 e, lt-ltb room 188 less) (ends_here at)

    -- 81 with room
    pub der_one : b ≡ 0x81 → 188 ≤ room → counted_of at (after_one room s) ≡ counted_of at (length_front four room (b ∷ s))
    unfolding length_front
    der_one e much = rw (le-ltb b 0x80 more, eq-eqb b 0x81 e, le-ltb room 188 much)

    module _ (n : b ≡ 0x81 → ⊥) where
      -- 82 without room
      pub der_two_cramped : b ≡ 0x82 → room < 317 → ended at ≡ counted_of at (length_front four room (b ∷ s))
      unfolding length_front
      der_two_cramped e less = rw (le-ltb b 0x80 more, ne_eqb b 0x81 n, eq-eqb b 0x82 e, lt-ltb room 317 less) (ends_here at)

      -- 82 with room
      pub der_two : b ≡ 0x82 → 317 ≤ room → counted_of at (after_two room s) ≡ counted_of at (length_front four room (b ∷ s))
      unfolding length_front
      der_two e much = rw (le-ltb b 0x80 more, ne_eqb b 0x81 n, eq-eqb b 0x82 e, le-ltb room 317 much)

      -- another byte
      pub der_other : (b ≡ 0x82 → ⊥) → ended at ≡ counted_of at (length_front four room (b ∷ s))
      unfolding length_front
      der_other m = rw (le-ltb b 0x80 more, ne_eqb b 0x81 n, ne_eqb b 0x82 m) (ends_here at)
