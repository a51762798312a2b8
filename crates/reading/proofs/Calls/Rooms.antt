-- What the room for the answer makes of a verdict.
-- Assumes nothing.
use Rattle.std.specs.Prelude.{◌≡◌, Bool, true, false, ℕ, ◌+◌, ◌*◌, ◌≤◌, ltb, length}
use Rattle.std.proofs.Common.{arith}
use Rattle.format.specs.Choice.{pick}
use Rattle.grammar.specs.Content.{Content}
use Rattle.grammar.specs.Publish.{publish, header_zone}
use Rattle.grammar.specs.Legal.{Legal}
use Rattle.rows.specs.Rows.{width}
use Rattle.verdict.specs.Judge.{Report, Verdict, accepted, refused}
use Rattle.verdict.specs.Judge.Listed.{FromList}
use Rattle.verdict.proofs.Judge.Complete.{report_of, published_accepted}
use Rattle.verdict.proofs.Judge.Sound.{unaccepted}
use Rattle.reading.specs.Calls.{answer_of, given, reading}
use Rattle.reading.specs.Calls.Reads.{length_rows_of, both_fit}

-- enough for a legal content's rows and names
pub room_enough :
    (c : Content) → Legal c → (numbers room : ℕ) → width * length c.features ≤ numbers → 4 + length c.header.reference ≤ room →
    reading (publish c) numbers room ≡ accepted (report_of c)
unfolding report_of
room_enough c l numbers room rows names =
    both_fit (publish c) numbers room (report_of c) (published_accepted c l)
    (omega (arith, length_rows_of c.header.version (length (header_zone c.header)) c.features))
    names

-- accepted with room is accepted by the verdict
chosen : (b : Bool) (number place : ℕ) (v : Verdict) (r : Report) → pick b (refused number place) v ≡ accepted r → v ≡ accepted r
chosen true number place v r e = absurd (unaccepted number place r e)
chosen false number place v r e = e

pub given_accepted : (v : Verdict) (numbers room : ℕ) (r : Report) → given numbers room v ≡ accepted r → v ≡ accepted r
given_accepted (accepted q) numbers room r e =
    let text = ltb room (4 + length q.header.reference) in
    chosen text 12 0 (accepted q) r (chosen (ltb numbers (width * length q.rows)) 12 0 (pick text (refused 12 0) (accepted q)) r e)
given_accepted (refused number place) numbers room r e = e

-- the number is of the list
listed_pick : (b : Bool) (u v : Verdict) → (answer_of u).number ≤ 12 → (answer_of v).number ≤ 12 → (answer_of (pick b u v)).number ≤ 12
listed_pick true u v l m = l
listed_pick false u v l m = m

pub given_listed : (v : Verdict) (numbers room : ℕ) → FromList v → (answer_of (given numbers room v)).number ≤ 12
given_listed (accepted q) numbers room l =
    let text = ltb room (4 + length q.header.reference) in
    listed_pick (ltb numbers (width * length q.rows)) (refused 12 0) (pick text (refused 12 0) (accepted q)) (omega arith)
    (listed_pick text (refused 12 0) (accepted q) (omega arith) (omega arith))
given_listed (refused number place) numbers room l = omega (arith, l.1)
