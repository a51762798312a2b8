-- What a seal says (document 01, Layout; Doc 9303-13, 2.2 to 2.4): header, features, signature.
-- Assumes nothing.
use Rattle.std.specs.Prelude.{ℕ, List}
use Rattle.dates.specs.declared.Date.{Date}
pub use Rattle.versions.specs.declared.Version.{Version}
pub use Rattle.versions.specs.declared.Version.TheVariants.{Three as three, Four as four}

-- Table 1. The country has three characters, with fillers as `<`.
pub record Header : Type 0 where
  pub version : Version
  pub country : List ℕ
  pub signer : List ℕ
  pub reference : List ℕ
  pub issued : Date
  pub signed : Date
  pub definition : ℕ
  pub category : ℕ

pub record Feature : Type 0 where
  pub tag : ℕ
  pub value : List ℕ

-- the signature is raw: r then s
pub record Content : Type 0 where
  pub header : Header
  pub features : List Feature
  pub signature : List ℕ
