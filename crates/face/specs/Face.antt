-- The structs of the C face, field by field: each holds what the layer beneath answers, and nothing is lost on the way
-- (Kept.antt beside this file).
-- Assumes nothing.
use Rattle.std.specs.Prelude.{ℕ, ℤ}
use Rattle.format.specs.Answers.{Answer, Valued}
use Rattle.dates.specs.declared.Date.{Date}
use Rattle.face.specs.declared.FrDate.{FrDate}
use Rattle.face.specs.declared.FrFilled.{FrFilled}
use Rattle.face.specs.declared.FrDated.{FrDated}
use Rattle.face.specs.declared.FrNumbered.{FrNumbered}
use Rattle.face.specs.declared.FrInteger.{FrInteger}
use Rattle.face.specs.declared.FrHashed.{FrHashed}

-- outwards: what a call beneath answers, as the face gives it
abbrev pub date_of : Date → FrDate
date_of d = record { month = d.month; day = d.day; year = d.year }

-- number, place and the count written
abbrev pub filled_with : ℕ → ℕ → ℕ → FrFilled
filled_with number place count = record { number = number; place = place; count = count }

abbrev pub filled_of : Answer → FrFilled
filled_of a = filled_with a.number a.place a.count

-- number, place and the value
abbrev pub dated_of : Valued Date → FrDated
dated_of g = record { number = g.number; place = g.place; date = date_of g.value }

abbrev pub numbered_of : Valued ℕ → FrNumbered
numbered_of g = record { number = g.number; place = g.place; value = g.value }

abbrev pub integer_of : Valued ℤ → FrInteger
integer_of g = record { number = g.number; place = g.place; value = g.value }

abbrev pub hashed_of : Valued ℕ → FrHashed
hashed_of g = record { number = g.number; place = g.place; bits = g.value }

-- inwards: what the face is given, as the call beneath takes it
abbrev pub inner_date : FrDate → Date
inner_date d = record { month = d.month; day = d.day; year = d.year }
