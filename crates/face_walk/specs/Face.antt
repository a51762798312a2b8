-- The structs of the C face for the walk and the look-up, field by field, and that nothing is lost on the way.
-- Assumes nothing.
use Rattle.std.specs.Prelude.{◌≡◌, refl}
use Rattle.face_seals.specs.Face.{part_of}
use Rattle.walk_steps.specs.declared.Start.{Start}
use Rattle.walk_steps.specs.declared.Step.{Step}
use Rattle.shown.specs.Where.{Answer}
use Rattle.face_walk.specs.declared.FrStart.{FrStart}
use Rattle.face_walk.specs.declared.FrStep.{FrStep}
use Rattle.face_walk.specs.declared.FrWhere.{FrWhere}

abbrev pub start_of : Start → FrStart
start_of s = record { number = s.number; place = s.place; at = s.at }

-- a row's numbers: its tag and where that stands, its value's place and length
abbrev pub step_of : Step → FrStep
step_of s =
    record {
      number = s.number;
      place = s.place;
      tag = s.row.tag;
      tag_place = s.row.start;
      value = record { place = s.row.place; length = s.row.size };
      at = s.at;
    }

abbrev pub where_of : Answer → FrWhere
where_of a = record { number = a.number; place = a.place; which = a.which; value = part_of a.value }

-- what they were made of comes back whole
abbrev pub start_in : FrStart → Start
start_in f = record { number = f.number; place = f.place; at = f.at }

pub start_kept : (s : Start) → start_in (start_of s) ≡ s
start_kept s = refl

abbrev pub step_in : FrStep → Step
step_in f =
    record {
      number = f.number;
      place = f.place;
      row = record { tag = f.tag; start = f.tag_place; place = f.value.place; size = f.value.length };
      at = f.at;
    }

pub step_kept : (s : Step) → step_in (step_of s) ≡ s
step_kept s = refl

abbrev pub where_in : FrWhere → Answer
where_in f =
    record {
      number = f.number;
      place = f.place;
      which = f.which;
      value = record { place = f.value.place; length = f.value.length };
    }

pub where_kept : (a : Answer) → where_in (where_of a) ≡ a
where_kept a = refl
