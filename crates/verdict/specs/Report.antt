-- What is reported, turned back into a content: each value and the signature are the seal's bytes at their places.
-- Assumes nothing.
use Rattle.std.specs.Prelude.{ℕ, List, map, take, drop}
use Rattle.grammar.specs.Content.{Feature, Content}
use Rattle.verdict.specs.Judge.{Row, Report}

abbrev pub part : ℕ → ℕ → List ℕ → List ℕ
part place size s = take size (drop place s)

abbrev pub feature_of : List ℕ → Row → Feature
feature_of s r = record { tag = r.tag; value = part r.place r.size s }

unfoldable pub content_of : List ℕ → Report → Content
content_of s r =
    record { header = r.header; features = map (feature_of s) r.rows; signature = part r.signature_place r.signature_size_lem s }
