-- `front` gives the longest front part with which some accepted seal begins (document 02, Ticket 12), for every byte string.
-- Assumes nothing.
use Rattle.std.specs.Prelude.{List, ℕ}
use Rattle.format.specs.Bytes.{Bytes}
use Rattle.front.specs.Front.{Sealed, Longest}
use Rattle.front_message.proofs.Message.Exact.{message_is}
use Rattle.front_header.specs.Header.{front}
use Rattle.front_header.specs.Header.Parts.{Readers}
use Rattle.front_header.proofs.Header.Laws.{front_is_by}
use Rattle.front_header.specs.Days.{day_longest, day_size}
use Rattle.front_header.specs.Pairs.Fronts.{country_reader, signer_reader, triple_reader, length_reader, two_reader, one_reader}

readers : Readers
readers = record {
  country = country_reader;
  signer = signer_reader;
  triple = triple_reader;
  length = length_reader;
  two = two_reader;
  one = one_reader;
  day = record { size = day_size; front = day_longest };
}

pub front_is : (s : List ℕ) → Bytes s → Longest Sealed s (front s)
front_is = front_is_by readers message_is
