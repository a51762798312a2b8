-- What the calls answer with the front part beside it (document 02, Ticket 12): "for an accepted seal it is the whole length; on a refusal
-- this length is the one further field that need not be 0".
-- Assumes nothing.
pub mod Laws
use Rattle.std.specs.Prelude.{◌≡◌, ◌⊎◌, ℕ, List, length}
use Rattle.reading.specs.declared.Reading.{Reading}
use Rattle.front_header.specs.Header.{front}
use Rattle.front_reading.specs.declared.Fronted.{Fronted}

-- an answer of the reader, and beside it the front part of its input
abbrev pub fronted : List ℕ → Reading → Fronted
fronted s answer = record { reading = answer; front = front s }

-- where the number is 0, or 12, the seal is good, and its front part is the whole
abbrev pub Whole : List ℕ → ℕ → Type 0
Whole s number = (number ≡ 0) ⊎ (number ≡ 12) → length s ≡ front s
