-- The longest front part of some bytes with which an accepted seal begins (document 02, Ticket 12). Over the grammar alone: nothing here
-- knows of a reader.
-- Assumes nothing.
use Rattle.std.specs.Prelude.{◌≡◌, List, ◌++◌, ℕ, suc, ◌<◌, ◌≤◌, length, take}
use Rattle.grammar.specs.Content.{Content}
use Rattle.grammar.specs.Publish.{publish}
use Rattle.grammar.specs.Legal.{Legal}

-- the bytes of an accepted seal: the published form of a legal content
pub record Sealed (t : List ℕ) : Type 0 where
  pub content : Content
  pub legal : Legal content
  pub is : publish content ≡ t

-- some string of a language begins with these bytes
abbrev pub Begins : (List ℕ → Type 0) → List ℕ → Type 0
Begins P q = (rest : List ℕ) × P (q ++ rest)

-- k is the length of the longest front part of s with which some string begins: it begins with those k bytes, and none with one byte
-- more, if s has more
pub record Longest (P : List ℕ → Type 0) (s : List ℕ) (k : ℕ) : Type 0 where
  pub within : k ≤ length s
  pub begun : Begins P (take k s)
  pub no_more : k < length s → Begins P (take (suc k) s) → ⊥
