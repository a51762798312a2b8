-- What a judging came to is what is told of it.
-- Assumes nothing.
use Rattle.std.specs.Prelude.{◌≡◌, refl, ℕ, List, Ok, Err}
use Rattle.std.proofs.Common.{ap, sym, ◌∙◌, arith}
use Rattle.versions.specs.declared.Version.{Version}
use Rattle.verdict.specs.Items.{Way, is, not}
use Rattle.verdict.specs.Judge.{Report, judging}
use Rattle.read_items.specs.declared.cursor.Refusal.{Refusal}
use Rattle.reading.specs.Calls.{outcome_of, judgement_of}
use Rattle.reading.specs.declared.Judgement.{Judgement}
use Rattle.why.specs.Told.{nothing, telling, told}

good_told : (s : List ℕ) (i : Way Report) (v : Version) → outcome_of i ≡ Ok v → nothing ≡ telling s i
good_told s (is r at) v e = refl
good_told s (not y place) v e = let z : ◌≡◌ {A = ℕ} 0 1 = cc in absurd (omega arith)

not_told : (s : List ℕ) (i : Way Report) (w : Refusal) → outcome_of i ≡ Err w → telling s (not w.why w.place) ≡ telling s i
not_told s (is r at) w e = let z : ◌≡◌ {A = ℕ} 0 1 = cc in absurd (omega arith)
not_told s (not y place) w e =
    let same : w ≡ record { why = y; place = place } = cc in
    ap (λ (u : Refusal). telling s (not u.why u.place)) same

module _ (s : List ℕ) (q : Judgement) (judged : q ≡ judgement_of (judging s)) where
  pub told_good : (v : Version) → q.outcome ≡ Ok v → nothing ≡ told s
  unfolding told
  told_good v e = good_told s (judging s) v (sym (ap (λ j. j.outcome) judged) ∙ e)

  pub told_not : (w : Refusal) → q.outcome ≡ Err w → telling s (not w.why w.place) ≡ told s
  unfolding told
  told_not w e = not_told s (judging s) w (sym (ap (λ j. j.outcome) judged) ∙ e)
