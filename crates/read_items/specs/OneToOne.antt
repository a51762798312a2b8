-- The answers of the items are settled by what `byte_of`, `whole_of`, `step_of` and `item_of` say of them.
-- Assumes nothing.
use Rattle.std.specs.Prelude.{◌≡◌, refl, ℕ, Option, Some, None, Result, Ok, Err}
use Rattle.format.specs.OneToOne.{OneToOne, by_way_back, one_back}
use Rattle.dates.specs.declared.Date.{Date}
use Rattle.versions.specs.declared.Version.{Version}
use Rattle.verdict.specs.Items.{Item, is, not}
use Rattle.read_items.specs.Meaning.{byte_of, whole_of, step_of, item_of}
use Rattle.read_items.specs.declared.cursor.Broken.{Broken}
use Rattle.read_items.specs.declared.cursor.Cursor.{Cursor}

byte_back : Item ℕ → Option (ℕ × Cursor)
byte_back (is x at) = Some (x, record { place = at })
byte_back (not rule place) = None

byte_back_lem : (at : ℕ) (a : Option (ℕ × Cursor)) → byte_back (byte_of at a) ≡ a
unfolding byte_back
byte_back_lem at (Some read) = refl
byte_back_lem at None = refl

pub byte_one : (at : ℕ) → OneToOne (byte_of at)
byte_one at = one_back (byte_of at) byte_back (byte_back_lem at)

whole_back : Item Unit → Option Cursor
whole_back (is u at) = Some (record { place = at })
whole_back (not rule place) = None

whole_back_lem : (at : ℕ) (a : Option Cursor) → whole_back (whole_of at a) ≡ a
unfolding whole_back
whole_back_lem at (Some next) = refl
whole_back_lem at None = refl

pub whole_one : (at : ℕ) → OneToOne (whole_of at)
whole_one at = one_back (whole_of at) whole_back (whole_back_lem at)

step_back : {A : Type 0} → Item A → Result Cursor Broken
step_back (is a at) = Ok (record { place = at })
step_back (not rule place) = Err (record { rule = rule; place = place })

step_back_lem : {A : Type 0} (value : A) (a : Result Cursor Broken) → step_back (step_of value a) ≡ a
unfolding step_back
step_back_lem value (Ok next) = refl
step_back_lem value (Err broken) = refl

-- whatever the value is that stands elsewhere
pub step_one : {A : Type 0} (x y : A) (a b : Result Cursor Broken) → step_of x a ≡ step_of y b → a ≡ b
step_one x y = by_way_back (step_of x) (step_of y) step_back (step_back_lem x) (step_back_lem y)

item_back : {A : Type 0} → Item A → Result (A × Cursor) Broken
item_back (is a at) = Ok (a, record { place = at })
item_back (not rule place) = Err (record { rule = rule; place = place })

item_back_lem : {A : Type 0} (a : Result (A × Cursor) Broken) → item_back (item_of a) ≡ a
unfolding item_back
item_back_lem (Ok read) = refl
item_back_lem (Err broken) = refl

-- whatever the type of its value is
pub item_one : {A : Type 0} → OneToOne {A = Result (A × Cursor) Broken} {B = Item A} item_of
item_one {A} = one_back item_of item_back item_back_lem

pub number_one : OneToOne {A = Result (ℕ × Cursor) Broken} {B = Item ℕ} item_of
number_one = item_one

pub edition_one : OneToOne {A = Result (Version × Cursor) Broken} {B = Item Version} item_of
edition_one = item_one

pub day_one : OneToOne {A = Result (Date × Cursor) Broken} {B = Item Date} item_of
day_one = item_one
