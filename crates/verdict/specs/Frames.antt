-- The frame of a feature (document 02, Ticket 10: "The camera overlay must frame a whole feature"): the seal's bytes from the tag's
-- place that its row gives to the end of its value: its tag, its length and its value, and nothing else.
-- Assumes nothing.
use Rattle.std.specs.Prelude.{◌≡◌, ℕ, ◌+◌, List, [], ◌∷◌, length}
use Rattle.format.specs.Bytes.{All}
use Rattle.grammar.specs.Content.{Version}
use Rattle.grammar.specs.Publish.{length_of, feature}
use Rattle.verdict.specs.Judge.{Row, Report}
use Rattle.verdict.specs.Report.{part, feature_of}

-- these bytes are the seal's from a place up to another
abbrev pub Between : ℕ → ℕ → List ℕ → List ℕ → Type 0
Between at end s bytes = (part at (length bytes) s ≡ bytes) × (at + length bytes ≡ end)

-- where the feature of a row ends, one past its last byte
abbrev pub end_of : Row → ℕ
end_of r = r.place + r.size

-- what a row says of a seal's bytes: the byte at the tag's place is the tag, the length begins right after it, the value right after
-- the length, and from the tag's place to the value's end stands the feature's published form
pub record Framed (v : Version) (s : List ℕ) (r : Row) : Type 0 where
  pub tag : Between r.start (r.start + 1) s (r.tag ∷ [])
  pub sized : Between (r.start + 1) r.place s (length_of v r.size)
  pub value : Between r.place (end_of r) s (feature_of s r).value
  pub whole : Between r.start (end_of r) s (feature v (feature_of s r))

-- features lie one after another, from a place to another: each tag's place is the end of the feature before
abbrev pub Chain : ℕ → List Row → ℕ → Type 0
Chain at [] end = at ≡ end
Chain at (r ∷ rows) end = (r.start ≡ at) × Chain (end_of r) rows end

-- all rows of a report: the first tag's place is the header's end, and the last feature ends at the message's end
pub record Frames (s : List ℕ) (r : Report) : Type 0 where
  pub each : All (Framed r.header.version s) r.rows
  pub chain : Chain r.header_end r.rows r.message_end
