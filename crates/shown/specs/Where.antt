-- The value of a tag in a main seal and its extension (document 02, Ticket 2): "For a given tag number, show the value out of the extension
-- seal if it has that feature, otherwise out of the main seal, as that part of the lent bytes and no copy."
-- Assumes nothing.
use Rattle.std.specs.Prelude.{ℕ, List, [], ◌∷◌, Result, Ok, Err, eqb}
use Rattle.std.proofs.Math.Option.{Option, none, some}
use Rattle.std.specs.Borrow.{Bor}
use Rattle.format.specs.Choice.{pick}
use Rattle.lent.specs.Part.{IsPart}
use Rattle.verdict.specs.Judge.{Row, Verdict, accepted, refused, judge}
use Rattle.reading.specs.declared.Part.{Part}
use Rattle.shown.specs.declared.Where.{Where}
use Rattle.shown.specs.declared.Where.TheVariants.{Extension, Main}
use Rattle.shown.specs.declared.NotShown.{NotShown}
use Rattle.shown.specs.declared.NotShown.TheVariants.{Main as NotMain, Extension as NotExtension, Neither}

-- the value of the feature with a tag, among the rows of a seal
abbrev pub value_in : ℕ → List Row → Option Part
value_in tag [] = none
value_in tag (r ∷ rows) = pick (eqb r.tag tag) (some (record { place = r.place; length = r.size })) (value_in tag rows)

-- out of the extension if it has that feature, otherwise out of the main seal
abbrev pub first_of : Option Part → Option Part → Result Where NotShown
first_of (some value) other = Ok (Extension value)
first_of none (some value) = Ok (Main value)
first_of none none = Err Neither

-- "A refused seal gives its number and place, the main one's first"
abbrev pub look_up : ℕ → Verdict → Verdict → Result Where NotShown
look_up tag (refused number place) extension = Err (NotMain number place)
look_up tag (accepted r) (refused number place) = Err (NotExtension number place)
look_up tag (accepted r) (accepted q) = first_of (value_in tag q.rows) (value_in tag r.rows)

-- THE answer, for every pair of byte strings and every tag
unfoldable pub where_is : List ℕ → List ℕ → ℕ → Result Where NotShown
where_is main extension tag = look_up tag (judge main) (judge extension)

-- What each case is told as: number and place, which seal has the value or is refused (0 neither, 1 the main one, 2 the extension), and the
-- value's part of it. "Refusals: 50 feature in neither seal, after both seals' own"; a refused seal "shows an empty part".
pub record Answer : Type 0 where
  pub number : ℕ
  pub place : ℕ
  pub which : ℕ
  pub value : Part

-- a value that a seal shows, and a refusal with an empty part
abbrev pub showing : ℕ → Part → Answer
showing which value = record { number = 0; place = 0; which = which; value = value }

abbrev pub empty : ℕ → ℕ → ℕ → Answer
empty number place which = record { number = number; place = place; which = which; value = record { place = 0; length = 0 } }

abbrev pub answer_of : Result Where NotShown → Answer
answer_of (Ok (Extension value)) = showing 2 value
answer_of (Ok (Main value)) = showing 1 value
answer_of (Err (NotMain number place)) = empty number place 1
answer_of (Err (NotExtension number place)) = empty number place 2
answer_of (Err Neither) = empty 50 0 0

-- what is shown: the part of the lent seal that was found, and else an empty part
abbrev pub IsShown : Bor (List ℕ) → Bor (List ℕ) → Result Where NotShown → Bor (List ℕ) → Type 0
IsShown main extension (Ok (Extension value)) r = IsPart extension value.place value.length r
IsShown main extension (Ok (Main value)) r = IsPart main value.place value.length r
IsShown main extension (Err e) r = IsPart main 0 0 r
