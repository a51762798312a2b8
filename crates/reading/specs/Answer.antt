-- What a caller holds after a reading, turned back into a content: the answer, the table and the text that were lent,
-- and the seal's own bytes.
-- Assumes nothing.
pub mod Laws
use Rattle.std.specs.Prelude.{ℕ, List, map, take, drop}
use Rattle.std.proofs.Math.Option
use Rattle.std.proofs.Math.Option.{Option}
use Rattle.grammar.specs.Content.{Content}
use Rattle.versions.specs.declared.Version.{Version}
use Rattle.versions.specs.Versions.{version_of}
use Rattle.rows.specs.Rows.{rows_of}
use Rattle.verdict.specs.Report.{part, feature_of}
use Rattle.reading.specs.declared.Reading.{Reading}

-- the content in a version, and the content: none where the header's version is neither 3 nor 4
unfoldable pub content_as : List ℕ → Reading → List ℕ → List ℕ → Version → Content
content_as s r table text v =
    let h = r.header in
    record {
      header = record {
        version = v;
        country = h.country;
        signer = take 4 text;
        reference = take h.length (drop 4 text);
        issued = h.issued;
        signed = h.signed;
        definition = h.definition;
        category = h.category;
      };
      features = map (feature_of s) (take r.count (rows_of table));
      signature = part r.signature.place r.signature.length s;
    }

unfoldable pub content_in : List ℕ → Reading → List ℕ → List ℕ → Option Content
content_in s r table text = Option.map (content_as s r table text) (version_of r.header.version)
