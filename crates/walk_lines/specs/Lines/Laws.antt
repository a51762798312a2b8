-- The lines of the features, one more a turn; what the call leaves is the text; and a longer input has the text of its first 4,097 bytes.
-- Assumes nothing.
use Rattle.std.specs.Prelude.{◌≡◌, refl, ℕ, ◌≤◌, ◌<◌, length}
use Rattle.std.proofs.Math.Path.{ap, sym, subst}
use Rattle.std.proofs.Common.{◌∙◌, arith}
use mathlib.Core.List.{List, [], ◌++◌, append_assoc, append-nil}
use Rattle.std.specs.Borrow.{MutBor}
use Rattle.format.specs.Bytes.{Bytes}
use Rattle.format.specs.Answers.{done, filled}
use Rattle.rows.specs.declared.Row.{Row}
use Rattle.lines.specs.Line.{Put, Counts, decimal_of, ascii}
use Rattle.lines.specs.Line.Laws.{put_none, put_more, put_start, counts_filled, filled_length}
use Rattle.lines.specs.declared.written.Line.{Line}
use Rattle.lines.specs.Written.{Opens, Puts}
use Rattle.list_lines.specs.ListLine.{line_of, refusal}
use Rattle.verdict.specs.Judge.{Verdict, accepted, refused, judge}
use Rattle.verdict.specs.Judge.Listed.{FromList, from_list}
use Rattle.judging.specs.Judged.{judge_taken}
use Rattle.walk_steps.specs.declared.Start.{Start}
use Rattle.walk_steps.specs.declared.Step.{Step}
use Rattle.walk_steps.specs.Steps.{start_of, step_at}
use Rattle.walk_steps.specs.Rows.{Finds}
use Rattle.walk_steps.proofs.Rows.Laws.{rows_found, none_ahead, one_ahead}
use Rattle.walk_lines.specs.Lines.{feature, feature_lines, text_of, Tells, TellsOn, Enough}

-- the line of a feature, as it is put together
feature_parts :
    (r : Row) →
    (ascii "feature " ++ decimal_of r.tag)
    ++ ((ascii " at " ++ decimal_of r.start)
    ++ ((ascii " value at " ++ decimal_of r.place) ++ line_of (ascii " length ") (decimal_of r.size)))
    ≡ feature r
unfolding feature
feature_parts r = simp append_assoc

pub put_feature :
    (old : Line) (r : Row) (new : Line) →
    Puts old
    ((ascii "feature " ++ decimal_of r.tag)
    ++ ((ascii " at " ++ decimal_of r.start)
    ++ ((ascii " value at " ++ decimal_of r.place) ++ line_of (ascii " length ") (decimal_of r.size))))
    new →
    Puts old (feature r) new
put_feature old r new p = subst (λ l. Puts old l new) (feature_parts r) p

-- how far the lines are put down: those of the rows before stand in `out`, and those of the rows that are still to be found are left
pub record Left (s old : List ℕ) (from : ℕ) (out : List ℕ) (o place : ℕ) (rows : List Row) : Type 0 where
  pub before : List ℕ
  pub rest : List Row
  pub put : Put old from before out o
  pub finds : Finds s place rest
  pub same : feature_lines rows ≡ before ++ feature_lines rest

pub record Telling (s : List ℕ) (start : ℕ) (old : List ℕ) (from : ℕ) (out : List ℕ) (o place : ℕ) : Type 0 where
  pub long : length out ≡ length old
  pub left : (rows : List Row) → Finds s start rows → Left s old from out o place rows

pub telling_start : (s : List ℕ) (start : ℕ) (old : List ℕ) (from : ℕ) → Telling s start old from old from start
telling_start s start old from =
    record { long = refl; left = λ rows f. record { before = []; rest = rows; put = put_none old from; finds = f; same = refl } }

module _ (s : List ℕ) (start : ℕ) (old : List ℕ) (from : ℕ) (out : List ℕ) (o place : ℕ) (t : Telling s start old from out o place)
    (step : Step) (e : step ≡ step_at s place) where
  -- no feature is left
  pub telling_end : (step.number ≡ 0 → ⊥) → Tells s start old from out o
  unfolding feature_lines
  telling_end h rows f =
      let l = t.left rows f in
      let none = ap (λ q. l.before ++ feature_lines q) (none_ahead s place step e h l.rest l.finds) in
      subst (λ lines. Put old from lines out o) (sym (l.same ∙ none ∙ append-nil l.before)) l.put

  -- the line of the next one is put down
  pub telling_more : step.number ≡ 0 → (new : List ℕ) (to : ℕ) → length new ≡ length out → Put out o (feature step.row) new to
      → Telling s start old from new to step.at
  unfolding feature_lines
  telling_more z new to kept p = record {
    long = kept ∙ t.long;
    left = λ rows f.
        let l = t.left rows f in
        let a = one_ahead s place step e z l.rest l.finds in
        record {
          before = l.before ++ feature step.row;
          rest = a.others;
          put = put_more old from l.before out o (feature step.row) new to l.put t.long p;
          finds = a.finds;
          same =
              l.same ∙ ap (λ q. l.before ++ feature_lines q) a.is_rest
              ∙ sym (append_assoc l.before (feature step.row) (feature_lines a.others));
        };
  }

-- what is told in a buffer through a line that starts at a place of it
pub tells_through : (s : List ℕ) (start : ℕ) (out : MutBor (List ℕ)) (at : ℕ) (a b : Line) (new : List ℕ) (r : ℕ) → Opens out at a
    → TellsOn s start a b → b.out.now ≡ new → b.at ≡ r → Tells s start out.now at new r
tells_through s start out at a b new r o t e f = rw (sym o.text, sym o.place, sym e, sym f) t.tells

pub enough : {n : ℕ} → 4096 < n → Enough n
enough {n} h = record { same = λ s. ap text_of (judge_taken n h s) }

-- what the call leaves in a buffer with room for the text: that of a refusal, or the lines of the features
abbrev pub Leaves : List ℕ → List ℕ → List ℕ → ℕ → Type 0
Leaves s old new count = (count ≡ length (text_of (judge s))) × (new ≡ filled (done (text_of (judge s))) old)

refused_text : (v : Verdict) (a : Start) → a ≡ start_of v → (a.number ≡ 0 → ⊥) → refusal a.number a.place ≡ text_of v
unfolding text_of
refused_text (accepted r) a e h = absurd (h (ap (λ q. q.number) e))
refused_text (refused number place) a e h = ap (λ q. refusal q.number q.place) e

told_text : (s old new : List ℕ) (count : ℕ) → Bytes s → (v : Verdict) → judge s ≡ v → FromList v → (a : Start) → a ≡ start_of v
    → a.number ≡ 0 → Tells s a.at old 0 new count → Put old 0 (text_of v) new count
unfolding text_of
told_text s old new count bytes (accepted r) j l a e z t =
    t r.rows (subst (λ k. Finds s k r.rows) (sym (ap (λ q. q.at) e)) (rows_found s bytes r j))
told_text s old new count bytes (refused number place) j l a e z t = absurd (omega (arith, l.0, ap (λ q. q.number) e))

module _ (s old new : List ℕ) (count : ℕ) (room : length (text_of (judge s)) ≤ length old) (a : Start) (e : a ≡ start_of (judge s)) where
  pub whole_refusal : (a.number ≡ 0 → ⊥) → Put old 0 (refusal a.number a.place) new count → Leaves s old new count
  whole_refusal h p =
      put_start old (text_of (judge s)) new count (subst (λ t. Put old 0 t new count) (refused_text (judge s) a e h) p) room

  pub whole_walk : Bytes s → a.number ≡ 0 → Tells s a.at old 0 new count → Leaves s old new count
  whole_walk bytes z t =
      put_start old (text_of (judge s)) new count (told_text s old new count bytes (judge s) refl (from_list s) a e z t) room

-- for whoever calls it: the count lies within the buffer, which keeps its length
module _ (s out after : List ℕ) (f : after ≡ filled (done (text_of (judge s))) out) where
  pub text_counts : (n : ℕ) → n ≡ length (text_of (judge s)) → Counts n after
  text_counts n e = counts_filled n (text_of (judge s)) out after e f

  pub text_length : length (text_of (judge s)) ≤ length out → length out ≡ length after
  text_length h = filled_length (text_of (judge s)) out after f h
