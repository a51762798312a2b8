-- Where a value stands, one law for each way out of the look-up.
-- Assumes nothing.
use Rattle.std.specs.Prelude.{◌≡◌, refl, ℕ, List, Result, Err}
use Rattle.std.proofs.Math.Path.{ap, sym}
use Rattle.std.proofs.Common.{subst, ◌∙◌, arith}
use Rattle.std.specs.Borrow.{Bor}
use Rattle.format.specs.Bytes.{Bytes}
use Rattle.verdict.specs.Judge.{Report, Verdict, accepted, refused, judge}
use Rattle.verdict.specs.Judge.Listed.{FromList, from_list}
use Rattle.walk_steps.specs.declared.Start.{Start}
use Rattle.walk_steps.specs.Steps.{start_of}
use Rattle.walk_steps.specs.Rows.{Finds}
use Rattle.walk_steps.proofs.Rows.Laws.{rows_found}
use Rattle.shown.specs.declared.Where.{Where}
use Rattle.shown.specs.declared.NotShown.{NotShown}
use Rattle.shown.specs.declared.NotShown.TheVariants.{Main as NotMain, Extension as NotExtension}
use Rattle.shown.specs.Where.{look_up, where_is, IsShown}
use Rattle.shown.specs.Found.{IsFirst}

-- a walk that starts with 0 is that of an accepted seal
record Opens (v : Verdict) (a : Start) : Type 0 where
  report : Report
  is_accepted : v ≡ accepted report
  starts : a.at ≡ report.header_end

opens : (v : Verdict) (a : Start) → FromList v → a ≡ start_of v → a.number ≡ 0 → Opens v a
opens (accepted r) a l e z = record { report = r; is_accepted = refl; starts = ap (λ q. q.at) e }
opens (refused number place) a l e z = absurd (omega (arith, l.0, ap (λ q. q.number) e))

main_refused : (tag : ℕ) (v w : Verdict) (a : Start) → a ≡ start_of v → (a.number ≡ 0 → ⊥) → Err (NotMain a.number a.place) ≡ look_up tag v w
main_refused tag (accepted r) w a e h = absurd (h (ap (λ q. q.number) e))
main_refused tag (refused number place) w a e h = ap (λ q. Err (NotMain q.number q.place)) e

extension_refused : (tag : ℕ) (r : Report) (w : Verdict) (b : Start) → b ≡ start_of w → (b.number ≡ 0 → ⊥)
    → Err (NotExtension b.number b.place) ≡ look_up tag (accepted r) w
extension_refused tag r (accepted q) b e h = absurd (h (ap (λ q. q.number) e))
extension_refused tag r (refused number place) b e h = ap (λ q. Err (NotExtension q.number q.place)) e

module _ (main extension : List ℕ) (tag : ℕ) (a : Start) (e : a ≡ start_of (judge main)) where
  pub where_not_main : (a.number ≡ 0 → ⊥) → Err (NotMain a.number a.place) ≡ where_is main extension tag
  unfolding where_is
  where_not_main h = main_refused tag (judge main) (judge extension) a e h

  module _ (z : a.number ≡ 0) (b : Start) (f : b ≡ start_of (judge extension)) where
    pub where_not_extension : (b.number ≡ 0 → ⊥) → Err (NotExtension b.number b.place) ≡ where_is main extension tag
    unfolding where_is
    where_not_extension h =
        let o = opens (judge main) a (from_list main) e z in
        extension_refused tag o.report (judge extension) b f h ∙ sym (ap (λ v. look_up tag v (judge extension)) o.is_accepted)

    pub where_first : b.number ≡ 0 → Bytes main → Bytes extension → (w : Result Where NotShown) → IsFirst main a.at extension b.at tag w
        → w ≡ where_is main extension tag
    unfolding where_is
    where_first y bytes more w first =
        let o = opens (judge main) a (from_list main) e z in
        let p = opens (judge extension) b (from_list extension) f y in
        first o.report.rows p.report.rows
        (subst (λ k. Finds main k o.report.rows) (sym o.starts) (rows_found main bytes o.report o.is_accepted))
        (subst (λ k. Finds extension k p.report.rows) (sym p.starts) (rows_found extension more p.report p.is_accepted))
        ∙ sym (ap (λ v. look_up tag v (judge extension)) o.is_accepted ∙ ap (look_up tag (accepted o.report)) p.is_accepted)

-- what is shown, by the answer and the case that it is
pub shows : (main extension r : Bor (List ℕ)) (answer w found : Result Where NotShown) → answer ≡ w → answer ≡ found → IsShown main extension found r
    → IsShown main extension w r
shows main extension r answer w found e f s = subst (λ u. IsShown main extension u r) (sym f ∙ e) s
