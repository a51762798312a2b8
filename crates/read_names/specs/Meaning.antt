-- What each case of the answers means, which rules each kind of text has, and what country and names leave in lent memory.
-- Assumes nothing.
pub mod Text
pub mod Field
pub mod Rules
pub mod Named
pub mod Lent
use Rattle.std.specs.Prelude.{◌≡◌, ℕ, ◌+◌, ◌≤◌, ◌<◌, List, ◌++◌, length, take, drop, Result, Ok, Err}
use Rattle.std.proofs.Math.Option.{Option, none, some}
use Rattle.format.specs.Answers.{done, filled}
use Rattle.c40.specs.Text.{width}
use Rattle.causes.specs.declared.Rule.{Rule}
use Rattle.verdict.specs.Items.{Way, is, not, Exact, exact, wrong_at, in_country, in_nine, in_six, in_reference}
use Rattle.verdict.specs.Items as read
use Rattle.read_items.specs.declared.cursor.Cursor.{Cursor}
use Rattle.read_items.specs.declared.cursor.Refusal.{Refusal}
use Rattle.read_names.specs.declared.rules.Kind.{Kind}
use Rattle.read_names.specs.declared.rules.Kind.TheVariants as kind

-- signer and reference, and the reference's length
pub record Measured : Type 0 where
  pub length : ℕ
  pub names : read.Names

abbrev pub measured : read.Names → Measured
measured n = record { length = length n.reference; names = n }

-- signer and reference stand one after the other at the start of a text
abbrev pub names_of : List ℕ → Result (ℕ × Cursor) Refusal → Way Measured
names_of text (Ok read) =
    is (record { length = read.0; names = record { signer = take 4 text; reference = take read.0 (drop 4 text) } }) read.1.place
names_of text (Err why) = not why.why why.place

-- what signer and reference leave in a lent text: themselves from its start and past them what was there, or all that was there
abbrev pub text_over : List ℕ → Way read.Names → List ℕ
text_over old (is n at) = filled (done (n.signer ++ n.reference)) old
text_over old (not why place) = old

-- the rules of each kind of text, and whether they are kept
abbrev pub rules_of : Kind → List ℕ → Option Rule
rules_of kind.Country = in_country
rules_of kind.Nine = in_nine
rules_of kind.Six = in_six
rules_of kind.Reference = in_reference

abbrev pub kept_of : Result Unit Rule → Option Rule
kept_of (Ok all) = none
kept_of (Err rule) = some rule

-- a text of as many characters as its kind has
abbrev pub Fits : Kind → List ℕ → Type 0
Fits kind.Country text = length text ≡ 3
Fits kind.Nine text = length text ≡ 9
Fits kind.Six text = length text ≡ 6
Fits kind.Reference text = (0 < length text) × (length text ≤ 255)

-- any text at all
abbrev pub any_text : List ℕ → Option Rule
any_text t = none

-- as many bytes as a field of the text's size takes
abbrev pub Sized : List ℕ → List ℕ → Type 0
Sized bytes text = (length bytes ≡ width (length text)) × ((0 < length text) × (length text ≤ 255))

-- what the bytes are, where the text is what was put down
abbrev pub exact_of : List ℕ → Result Unit ℕ → Exact
exact_of text (Ok filled) = exact text
exact_of text (Err pair) = wrong_at pair
