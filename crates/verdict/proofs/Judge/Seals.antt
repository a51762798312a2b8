-- What is accepted is the published form of a legal content; the report is then that content's, and turned back it is that content.
-- Assumes nothing.
use Rattle.std.specs.Prelude.{◌≡◌, ℕ, List}
use Rattle.std.proofs.Common.{ap, sym, ◌∙◌}
use Rattle.format.specs.Bytes.{Bytes}
use Rattle.grammar.specs.Content.{Content}
use Rattle.grammar.specs.Publish.{publish}
use Rattle.grammar.specs.Legal.{Legal}
use Rattle.verdict.specs.Judge.{Report, Verdict, accepted, refused, judge}
use Rattle.verdict.proofs.Judge.Complete.{report_of, published_accepted}
use Rattle.verdict.proofs.Judge.Sound.{accepted_published}
use Rattle.verdict.specs.Report.{content_of}
use Rattle.verdict.proofs.Report.Laws.{reported}

pub record Seal (s : List ℕ) (r : Report) : Type 0 where
  pub content : Content
  pub legal : Legal content
  pub form_is : publish content ≡ s
  pub report_is : r ≡ report_of content
  pub reports : content_of s r ≡ content

abbrev report_in : Report → Verdict → Report
report_in q (accepted r) = r
report_in q (refused number place) = q

pub accepted_only : (s : List ℕ) → Bytes s → (r : Report) → judge s ≡ accepted r → Seal s r
accepted_only s bytes r e =
    let p = accepted_published s bytes r e in
    let same : r ≡ report_of p.content =
    ap (report_in r) (sym e ∙ ap judge (sym p.form_is) ∙ published_accepted p.content p.legal) in
    record {
      content = p.content;
      legal = p.legal;
      form_is = p.form_is;
      report_is = same;
      reports = ap (λ u. content_of s u) same ∙ ap (λ u. content_of u (report_of p.content)) (sym p.form_is) ∙ reported p.content;
    }
