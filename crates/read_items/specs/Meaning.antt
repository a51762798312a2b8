-- What each case of an item's answer means: the item and the place that the next cursor has, or the rule that it breaks and the place.
-- Assumes nothing.
pub mod Laws
use Rattle.std.specs.Prelude.{ℕ, ◌+◌, List, Option, Some, None, Result, Ok, Err}
use Rattle.causes.specs.declared.Item.{Item as Name}
use Rattle.causes.specs.declared.Item.TheVariants as item
use Rattle.causes.specs.declared.Rule.TheVariants as rule
use Rattle.causes.specs.declared.Why.{Why}
use Rattle.verdict.specs.Items.{Read, Item, Way, is, not, next}
use Rattle.verdict.specs.Items as read
use Rattle.read_items.specs.declared.cursor.Refusal.{Refusal}
use Rattle.read_items.specs.declared.cursor.Broken.{Broken}
use Rattle.read_items.specs.declared.cursor.Cursor.{Cursor}

-- what is read, seen through a map
abbrev pub through : {R A B : Type 0} → (A → B) → Read R A → Read R B
through f (is a at) = is (f a) at
through f (not why place) = not why place

-- a refusal
abbrev pub because : Why → ℕ → Refusal
because why place = record { why = why; place = place }

-- what code answers that is asked why an item was not read, and it was
abbrev pub nothing : Refusal
nothing = because (read.why item.Seal rule.There) 0

-- why items were not read, and why an item was not under its name
abbrev pub why_of : {A : Type 0} → Way A → Refusal
why_of (is a at) = nothing
why_of (not why place) = because why place

abbrev pub refused : {A : Type 0} → Name → Item A → Refusal
refused item i = why_of (next item i is)

abbrev pub byte_of : ℕ → Option (ℕ × Cursor) → Item ℕ
byte_of at (Some read) = is read.0 read.1.place
byte_of at None = not rule.There at

abbrev pub whole_of : ℕ → Option Cursor → Item Unit
whole_of at (Some next) = is tt next.place
whole_of at None = not rule.There at

-- an item whose value stands elsewhere
abbrev pub step_of : {A : Type 0} → A → Result Cursor Broken → Item A
step_of value (Ok next) = is value next.place
step_of value (Err broken) = not broken.rule broken.place

-- an item with its value: a number, the version or a date
abbrev pub item_of : {A : Type 0} → Result (A × Cursor) Broken → Item A
item_of (Ok read) = is read.0 read.1.place
item_of (Err broken) = not broken.rule broken.place

-- why an item was not read, under its name
abbrev pub refusal_of : {T : Type 0} → Name → Result T Broken → Refusal
refusal_of item (Ok read) = nothing
refusal_of item (Err broken) = because (read.why item broken.rule) broken.place

-- what an item leaves in a lent buffer: its value, or what was there
abbrev pub value_or : {R A : Type 0} → A → Read R A → A
value_or old (is a at) = a
value_or old (not why place) = old

-- past so many bytes
abbrev pub past : ℕ → ℕ → List ℕ → Item Unit
past size at bytes = is tt (at + size)
