-- What is to be shown of a call's answer and buffer, from the outcome.
-- Assumes nothing.
use Rattle.std.specs.Prelude.{◌≡◌, ℕ, List, length}
use Rattle.std.proofs.Common.{ap, sym, ◌∙◌}
use Rattle.format.specs.Buffer.{over}
use Rattle.format.proofs.Buffer.Laws.{over_start}
use Rattle.format.specs.Answers.{Outcome, done, refused, told, filled}

-- a refusal: the number and the place, and the buffer as it was
pub refuses :
    (o : Outcome) (number place : ℕ) (out : List ℕ) →
    o ≡ refused number place →
    (record { number = number; place = place; count = 0 } ≡ told o) × (out ≡ filled o out)
refuses o number place out e = (ap told (sym e), ap (λ p. filled p out) (sym e))

-- done: the count, and the bytes from the buffer's start
pub gives :
    (o : Outcome) (bytes : List ℕ) (count : ℕ) (out after : List ℕ) →
    o ≡ done bytes →
    count ≡ length bytes →
    after ≡ over out 0 bytes →
    (record { number = 0; place = 0; count = count } ≡ told o) × (after ≡ filled o out)
gives o bytes count out after e f g = (
  ap (λ (k : ℕ). record { number = 0; place = 0; count = k }) f ∙ ap told (sym e),
  g ∙ over_start out bytes ∙ ap (λ p. filled p out) (sym e),
)
