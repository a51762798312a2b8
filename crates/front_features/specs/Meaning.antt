-- What the code's answers mean: each case of a feature's length, and features and signature from a place on.
-- Assumes nothing.
use Rattle.std.specs.Prelude.{ℕ, suc, ◌+◌, ◌-◌, List, [], Result, Ok, Err, ltb, length, drop}
use Rattle.format.specs.Choice.{pick}
use Rattle.grammar.specs.Content.{Version}
use Rattle.front_message.specs.Message.{Length, is, ends, message_front}
use Rattle.front_features.specs.declared.Counted.{Counted}
use Rattle.front_features.specs.declared.Ends.{Ends}

-- a length that is told, with the place after it, and one that ends at a place
abbrev pub counted : ℕ → ℕ → Result Counted Ends
counted size next = Ok (record { size = size; next = next })

abbrev pub ended : ℕ → Result Counted Ends
ended place = Err (record { place = place })

-- a length that starts at a place, with the places that the code tells in place of how many bytes
abbrev pub counted_of : ℕ → Length → Result Counted Ends
counted_of at (is n w) = counted n (at + w)
counted_of at (ends k) = ended (at + k)

-- features and signature from a place on, where no tag was used before; behind 4,038 none begin
unfoldable pub message_from : Version → ℕ → List ℕ → ℕ
message_from v start s =
    pick (ltb 4038 start) start (start + message_front v (suc (length (drop start s))) [] (4096 - start) (drop start s))
