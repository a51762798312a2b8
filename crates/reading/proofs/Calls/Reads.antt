-- What a reading leaves where the judging refused: a law of specs/Calls/Reads.antt.
-- Assumes nothing.
use Rattle.std.specs.Prelude.{◌≡◌, refl, ℕ, List, length, Err}
use Rattle.std.proofs.Common.{ap, sym, ◌∙◌, arith}
use Rattle.verdict.specs.Items.{Way, is, not}
use Rattle.verdict.specs.Judge.{Report, verdict, judging}
use Rattle.verdict.specs.Judge.{judge}
use Rattle.reading.specs.Calls.{answer_of, outcome_of, judgement_of, given}
use Rattle.reading.specs.declared.Reading.{Reading}
use Rattle.reading.specs.declared.Judgement.{Judgement}
use Rattle.read_items.specs.declared.cursor.Refusal.{Refusal}
use Rattle.reading.specs.Calls.Reads.{Reads, Leaves}

-- a refusal is answered whatever the room
leaves :
    (rows names : List ℕ) (i : Way Report) (r : Reading) (w : Refusal) →
    outcome_of i ≡ Err w →
    r ≡ answer_of (verdict i) →
    Leaves rows names r rows names (given (length rows) (length names) (verdict i))
leaves rows names (is q at) r w without a = let z : ◌≡◌ {A = ℕ} 0 1 = cc in absurd (omega arith)
leaves rows names (not y place) r w without a = (a, (refl, refl))

pub reads_judged :
    (s rows names : List ℕ) (q : Judgement) →
    q ≡ judgement_of (judging s) →
    (w : Refusal) →
    q.outcome ≡ Err w →
    Reads s rows names q.reading rows names
unfolding judge
reads_judged s rows names q a w without =
    leaves rows names (judging s) q.reading w (sym (ap (λ j. j.outcome) a) ∙ without) (ap (λ j. j.reading) a)
