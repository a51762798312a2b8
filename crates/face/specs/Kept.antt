-- Nothing is lost on the way: from each struct of the face, what it was made of comes back whole.
-- Assumes nothing.
use Rattle.std.specs.Prelude.{◌≡◌, refl, ℕ, ℤ}
use Rattle.format.specs.Answers.{Answer, Valued}
use Rattle.dates.specs.declared.Date.{Date}
use Rattle.face.specs.declared.FrDate.{FrDate}
use Rattle.face.specs.declared.FrFilled.{FrFilled}
use Rattle.face.specs.declared.FrDated.{FrDated}
use Rattle.face.specs.declared.FrNumbered.{FrNumbered}
use Rattle.face.specs.declared.FrInteger.{FrInteger}
use Rattle.face.specs.declared.FrHashed.{FrHashed}
use Rattle.face.specs.Face.{date_of, filled_of, dated_of, numbered_of, integer_of, hashed_of, inner_date}

-- a date, out and in, and in and out
pub date_kept : (d : Date) → inner_date (date_of d) ≡ d
date_kept d = refl

pub date_back : (d : FrDate) → date_of (inner_date d) ≡ d
date_back d = refl

-- an answer by number, place and count, and one by number, place and value
abbrev pub answer_in : FrFilled → Answer
answer_in f = record { number = f.number; place = f.place; count = f.count }

pub answer_kept : (a : Answer) → answer_in (filled_of a) ≡ a
answer_kept a = refl

abbrev pub dated_in : FrDated → Valued Date
dated_in f = record { number = f.number; place = f.place; value = inner_date f.date }

pub dated_kept : (g : Valued Date) → dated_in (dated_of g) ≡ g
dated_kept g = refl

abbrev pub numbered_in : FrNumbered → Valued ℕ
numbered_in f = record { number = f.number; place = f.place; value = f.value }

pub numbered_kept : (g : Valued ℕ) → numbered_in (numbered_of g) ≡ g
numbered_kept g = refl

abbrev pub integer_in : FrInteger → Valued ℤ
integer_in f = record { number = f.number; place = f.place; value = f.value }

pub integer_kept : (g : Valued ℤ) → integer_in (integer_of g) ≡ g
integer_kept g = refl

abbrev pub hashed_in : FrHashed → Valued ℕ
hashed_in f = record { number = f.number; place = f.place; value = f.bits }

pub hashed_kept : (g : Valued ℕ) → hashed_in (hashed_of g) ≡ g
hashed_kept g = refl
