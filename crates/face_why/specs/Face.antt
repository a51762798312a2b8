-- The struct of the C face that says why a seal is refused, field by field, and that nothing is lost on the way.
-- Assumes nothing.
use Rattle.std.specs.Prelude.{◌≡◌, refl}
use Rattle.face_seals.specs.Face.{part_of}
use Rattle.why.specs.declared.Reason.{Reason}
use Rattle.face_why.specs.declared.FrReason.{FrReason}

abbrev pub reason_of : Reason → FrReason
reason_of r = record { number = r.number; place = r.place; item = r.item; rule = r.rule; judged = part_of r.judged }

abbrev pub reason_in : FrReason → Reason
reason_in f =
    record {
      number = f.number;
      place = f.place;
      item = f.item;
      rule = f.rule;
      judged = record { place = f.judged.place; length = f.judged.length };
    }

pub reason_kept : (r : Reason) → reason_in (reason_of r) ≡ r
reason_kept r = refl
