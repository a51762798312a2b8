-- What a call of the writer is given: header, text, rows over a values buffer, and the raw signature; and the content that they say.
-- Assumes nothing.
pub mod Laws
use Rattle.std.specs.Prelude.{ℕ, List, [], ◌∷◌, map, take, drop, get_or}
use Rattle.std.proofs.Math.Option
use Rattle.std.proofs.Math.Option.{Option}
use Rattle.versions.specs.declared.Version.{Version}
use Rattle.versions.specs.Versions.{version_of}
use Rattle.grammar.specs.Content.{Feature, Content, Header as Headed}
use Rattle.rows.specs.Rows.{rows_of}
use Rattle.verdict.specs.Report.{feature_of}
use Rattle.fields.specs.declared.Header.{Header}

pub record Given : Type 0 where
  pub header : Header
  pub text : List ℕ
  pub table : List ℕ
  pub values : List ℕ
  pub signature : List ℕ

-- the country's three characters; it is an array of three, but a struct's array does not tell its length, so they are taken one by one
abbrev pub three_of : List ℕ → List ℕ
three_of c = get_or c 0 0 ∷ get_or c 1 0 ∷ get_or c 2 0 ∷ []

-- the header in a version: signer and reference are the text's first four characters and the rest
abbrev pub header_of : Version → Header → List ℕ → Headed
header_of v h text = record {
  version = v;
  country = three_of h.country;
  signer = take 4 text;
  reference = drop 4 text;
  issued = h.issued;
  signed = h.signed;
  definition = h.definition;
  category = h.category;
}

-- the features, in the order of their rows
abbrev pub features_of : Given → List Feature
features_of g = map (feature_of g.values) (rows_of g.table)

-- the content in a version, and the content that is said: none where the header's version is neither 3 nor 4
unfoldable pub content_as : Given → Version → Content
content_as g v = record { header = header_of v g.header g.text; features = features_of g; signature = g.signature }

unfoldable pub content_of : Given → Option Content
content_of g = Option.map (content_as g) (version_of g.header.version)

-- what is given, in the order of the call
abbrev pub given : Header → List ℕ → List ℕ → List ℕ → List ℕ → Given
given header text table values signature = record { header = header; text = text; table = table; values = values; signature = signature }
