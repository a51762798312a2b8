-- The verdict on every byte string (document 01, "The numbers a call answers", Reader): 1 first, then item by item from the left.
-- Assumes nothing.
pub mod Listed
pub mod Pins
pub mod Causes
use Rattle.std.specs.Prelude.{Bool, false, ℕ, zero, suc, ◌+◌, List, [], ◌∷◌, ◌++◌, ltb, eqb, length}
use Rattle.format.specs.Choice.{pick, either}
use Rattle.fields.specs.Signature.{is_signature}
use Rattle.grammar.specs.Content.{Version, Header}
pub use Rattle.rows.specs.declared.Row.{Row}
use Rattle.rows.specs.Rows.{row_of}
use Rattle.causes.specs.Causes.{rule_number}
use Rattle.causes.specs.declared.Item.TheVariants as item
use Rattle.causes.specs.declared.Rule.TheVariants as rule
use Rattle.verdict.specs.Items.{Item, Way, is, not, why, next, pass, whole, byte, mark, version, country, names, date, last}
use Rattle.verdict.specs.Items.{der_length, feature_length}

-- what is reported of a seal; each zone ends one past its last byte
pub record Report : Type 0 where
  pub header : Header
  pub rows : List Row
  pub header_end : ℕ
  pub message_end : ℕ
  pub seal_end : ℕ
  pub signature_place : ℕ
  pub signature_size_lem : ℕ

pub data Verdict : Type 0 where
  accepted : Report → Verdict
  refused : ℕ → ℕ → Verdict

unfoldable pub header : List ℕ → Way Header
header s =
    next item.Mark (mark 0 s)
    (λ dc at. next item.Version (version at s)
    (λ v at. next item.Country (country at s)
    (λ c at. pass (names v at s)
    (λ n at. next item.Issued (date at s)
    (λ issued at. next item.Signed (date at s)
    (λ signed at. next item.Definition (last at s)
    (λ definition at. next item.Category (last at s)
    (λ category at.
    is
    (record {
      version = v;
      country = c;
      signer = n.signer;
      reference = n.reference;
      issued = issued;
      signed = signed;
      definition = definition;
      category = category;
    })
    at))))))))

-- whether a row before has this tag
abbrev pub used : ℕ → List Row → Bool
used tag [] = false
used tag (r ∷ rows) = either (eqb tag r.tag) (used tag rows)

-- a tag: FF ends the features, and no tag is used twice
abbrev pub tag_in : List Row → ℕ → ℕ → Item ℕ
tag_in rows at x = pick (used x rows) (not rule.NotUsedBefore at) (is x (at + 1))

unfoldable pub tag : List Row → ℕ → List ℕ → Item ℕ
tag rows at s = byte at s (tag_in rows at)

abbrev pub value_in : ℕ → ℕ → ℕ → ℕ → List ℕ → Item Row
value_in tag start n at value = is (row_of tag start at n) (at + n)

-- length and value of a feature whose tag was read; the feature starts where its tag stands
unfoldable pub row : Version → ℕ → ℕ → ℕ → List ℕ → Way Row
row v tag start at s = next item.Length (feature_length v at s) (λ n at. next item.Value (whole n at s (value_in tag start n at)) is)

-- the features from a place on, after those before, up to FF; the place is that of FF. There are fewer than 256, as no tag is used twice.
unfoldable pub features : ℕ → Version → List Row → ℕ → List ℕ → Way (List Row)
features zero v rows at s = not (why item.Tag rule.NotUsedBefore) at
features (suc more) v rows at s =
    next item.Tag (tag rows at s)
    (λ x at'. pick (eqb x 0xFF) (is rows at)
    (pass (row v x at at' s) (λ r at. features more v (rows ++ (r ∷ [])) at s)))

-- the signature after FF: its size; that is judged before its bytes are looked for, and nothing follows them
abbrev pub raw_in : ℕ → ℕ → List ℕ → Item ℕ
raw_in n start raw = is n (start + n)

abbrev pub end_in : ℕ → List ℕ → ℕ → ℕ → Way ℕ
end_in start s n end = pick (ltb end (length s)) (not (why item.End rule.NothingAfter) end) (is n start)

abbrev pub size_in : ℕ → List ℕ → ℕ → ℕ → Way ℕ
size_in at s n start =
    pick (is_signature n) (next item.Signature (whole n start s (raw_in n start)) (end_in start s))
    (not (why item.SignatureLength rule.SignatureSize) at)

unfoldable pub signature : ℕ → List ℕ → Way ℕ
signature at s = next item.SignatureLength (der_length at s) (size_in at s)

-- features and signature, after a header and the place where it ends
abbrev pub after_header : List ℕ → Header → ℕ → Way Report
after_header s h header_end =
    pass (features 256 h.version [] header_end s)
    (λ rows message_end. pass (signature (message_end + 1) s)
    (λ n start.
    is
    (record {
      header = h;
      rows = rows;
      header_end = header_end;
      message_end = message_end;
      seal_end = length s;
      signature_place = start;
      signature_size_lem = n;
    })
    (start + n)))

-- header, features, signature
unfoldable pub reading : List ℕ → Way Report
reading s = pass (header s) (after_header s)

-- a byte string that is too long is refused before its first item is read
unfoldable pub judging : List ℕ → Way Report
judging s = pick (ltb 4096 (length s)) (not (why item.Seal rule.NotTooLong) 4096) (reading s)

-- the number that is answered is that of the rule
abbrev pub verdict : Way Report → Verdict
verdict (is r at) = accepted r
verdict (not why place) = refused (rule_number why.rule) place

unfoldable pub judge : List ℕ → Verdict
judge s = verdict (judging s)
