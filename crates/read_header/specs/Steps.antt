-- The header in the two steps that the code takes, and what their answers mean: the fields before the dates, and
-- those after.
-- Assumes nothing.
pub mod Laws
pub mod Together
use Rattle.std.specs.Prelude.{ℕ, List, take, drop, Result, Ok, Err}
use Rattle.dates.specs.declared.Date.{Date}
use Rattle.versions.specs.declared.Version.{Version}
use Rattle.causes.specs.declared.Item.TheVariants as item
use Rattle.verdict.specs.Items.{Way, is, not, next, pass, mark, version, country, names, date, last, Names}
use Rattle.read_names.specs.Meaning.{Measured, measured}
use Rattle.read_header.specs.declared.Front.{Front}
use Rattle.read_header.specs.declared.Rest.{Rest}
use Rattle.read_items.specs.declared.cursor.Refusal.{Refusal}

-- the fields up to the reference, with L beside the names
pub record Fields : Type 0 where
  pub version : Version
  pub country : List ℕ
  pub names : Measured

-- the fields from the dates on
pub record Dated : Type 0 where
  pub issued : Date
  pub signed : Date
  pub definition : ℕ
  pub category : ℕ

unfoldable pub fields : List ℕ → Way Fields
fields s =
    next item.Mark (mark 0 s)
    (λ dc at. next item.Version (version at s)
    (λ v at. next item.Country (country at s)
    (λ c at. pass (names v at s)
    (λ n at. is (record { version = v; country = c; names = measured n }) at))))

-- the country of the fields, and their signer and reference
abbrev pub code_in : Fields → List ℕ
code_in f = f.country

abbrev pub names_in : Fields → Names
names_in f = f.names.names

unfoldable pub dated : ℕ → List ℕ → Way Dated
dated at s =
    next item.Issued (date at s)
    (λ issued at. next item.Signed (date at s)
    (λ signed at. next item.Definition (last at s)
    (λ definition at. next item.Category (last at s)
    (λ category at. is (record { issued = issued; signed = signed; definition = definition; category = category }) at))))

-- country and names stand in lent buffers
abbrev pub front_of : List ℕ → List ℕ → Result Front Refusal → Way Fields
front_of code text (Ok front) =
    is
    (record {
      version = front.version;
      country = code;
      names =
          record { length = front.length; names = record { signer = take 4 text; reference = take front.length (drop 4 text) } };
    })
    front.next.place
front_of code text (Err why) = not why.why why.place

abbrev pub rest_of : Result Rest Refusal → Way Dated
rest_of (Ok rest) =
    is (record { issued = rest.issued; signed = rest.signed; definition = rest.definition; category = rest.category }) rest.next.place
rest_of (Err why) = not why.why why.place
