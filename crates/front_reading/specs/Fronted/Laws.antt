-- A seal that is accepted is its own front part, and so is one that is good but for the room that is lent.
-- Assumes nothing.
use Rattle.std.specs.Prelude.{◌≡◌, refl, ℕ, List, length}
use Rattle.std.proofs.Common.{sym, subst, inl, inr, arith}
use Rattle.format.specs.Bytes.{Bytes}
use Rattle.verdict.specs.Judge.{Report, Verdict, accepted, refused, judge}
use Rattle.verdict.specs.Judge.Listed.{from_list, FromList}
use Rattle.verdict.proofs.Judge.Sound.{accepted_published}
use Rattle.reading.specs.Calls.{answer_of, given, reading}
use Rattle.reading.specs.declared.Reading.{Reading}
use Rattle.front.specs.Front.{Sealed}
use Rattle.front.proofs.Front.Crew.{whole_exactly}
use Rattle.front_header.specs.Header.{front}
use Rattle.front_header.proofs.Exact.{front_is}
use Rattle.front_reading.specs.Fronted.{Whole}

-- the bytes of an accepted seal
sealed : (s : List ℕ) → Bytes s → (r : Report) → judge s ≡ accepted r → Sealed s
sealed s bytes r e = let p = accepted_published s bytes r e in record { content = p.content; legal = p.legal; is = p.form_is }

-- its front part is the whole
pub whole_front : (s : List ℕ) → Bytes s → (r : Report) → judge s ≡ accepted r → length s ≡ front s
whole_front s bytes r e = sym (whole_exactly s (front s) (front_is s bytes) (sealed s bytes r e))

module _ (s : List ℕ) (bytes : Bytes s) where
  -- a refusal of the verdict has another number
  other : (number place : ℕ) → FromList (refused number place) → Whole s number
  other number place l (inl e) = absurd (omega (arith, l.0))
  other number place l (inr e) = absurd (omega (arith, l.1))

  judged_by_lem : (v : Verdict) → judge s ≡ v → FromList v → Whole s (answer_of v).number
  judged_by_lem (accepted r) e l = λ z. whole_front s bytes r e
  judged_by_lem (refused number place) e l = other number place l

  read_by : (numbers room : ℕ) (v : Verdict) → judge s ≡ v → FromList v → Whole s (answer_of (given numbers room v)).number
  read_by numbers room (accepted r) e l = λ z. whole_front s bytes r e
  read_by numbers room (refused number place) e l = other number place l

  -- of the verdict, and of a reading with so much lent
  pub judged_whole : (q : Reading) → q ≡ answer_of (judge s) → Whole s q.number
  judged_whole q e = subst (λ a. Whole s a.number) (sym e) (judged_by_lem (judge s) refl (from_list s))

  pub read_whole : (numbers room : ℕ) (q : Reading) → q ≡ answer_of (reading s numbers room) → Whole s q.number
  read_whole numbers room q e = subst (λ a. Whole s a.number) (sym e) (read_by numbers room (judge s) refl (from_list s))
