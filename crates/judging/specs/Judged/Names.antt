-- Signer and reference that the first step put into a text are those of the verdict.
-- Assumes nothing.
use Rattle.std.specs.Prelude.{◌≡◌, ℕ, ◌+◌, ◌≤◌, List, [], ◌++◌, length, take, drop}
use Rattle.std.proofs.Common.{ap, sym, subst, ◌∙◌, take-add}
use Rattle.versions.specs.declared.Version.{Version}
use Rattle.grammar.specs.Content.{Header}
use Rattle.verdict.specs.Items.{Way, is, not, pass, Names}
use Rattle.verdict.specs.Judge.{Row, Report, features, signature, verdict, reading, judging, judge}
use Rattle.read_header.specs.Steps.{Fields, Dated, dated, fields}
use Rattle.read_header.specs.Steps.Together.{header_of, fields_known}
use Rattle.causes.specs.declared.Why.{Why}
use Rattle.reading.specs.Calls.{Named}
use Rattle.judging.specs.Judged.{FrontRead, front, judge_reading, dated_next}

-- signer and reference of the fields stand at the start of a text
abbrev Stands : Fields → List ℕ → Type 0
Stands f text = take (4 + length f.names.names.reference) text ≡ f.names.names.signer ++ f.names.names.reference

-- what follows the header
abbrev on : List ℕ → Header → ℕ → Way Report
on s h p1 =
    pass (features 256 h.version [] p1 s)
    (λ rows p2. pass (signature (p2 + 1) s)
    (λ n start.
    is
    (record {
      header = h;
      rows = rows;
      header_end = p1;
      message_end = p2;
      seal_end = length s;
      signature_place = start;
      signature_size_lem = n;
    })
    (start + n)))

-- whatever the steps after them give
module _ (text : List ℕ) (f : Fields) (stands : Stands f text) (s : List ℕ) where
  abbrev whole : Dated → List Row → ℕ → ℕ → ℕ → ℕ → Report
  whole d rows p1 p2 n start = record {
    header = header_of f d;
    rows = rows;
    header_end = p1;
    message_end = p2;
    seal_end = length s;
    signature_place = start;
    signature_size_lem = n;
  }

  after_signature : (d : Dated) (rows : List Row) (p1 p2 : ℕ) (i : Way ℕ)
      → Named (verdict (pass i (λ n start. is (whole d rows p1 p2 n start) (start + n)))) text
  after_signature d rows p1 p2 (is n start) = stands
  after_signature d rows p1 p2 (not y place) = tt

  after_features : (d : Dated) (p1 : ℕ) (i : Way (List Row))
      → Named
      (verdict
      (pass i (λ rows p2. pass (signature (p2 + 1) s) (λ n start. is (whole d rows p1 p2 n start) (start + n)))))
      text
  after_features d p1 (is rows p2) = after_signature d rows p1 p2 (signature (p2 + 1) s)
  after_features d p1 (not y place) = tt

  after_rest : (i : Way Dated) → Named (verdict (pass (pass i (λ d at. is (header_of f d) at)) (on s))) text
  after_rest (is d p1) = after_features d p1 (features 256 f.version [] p1 s)
  after_rest (not y place) = tt

pub named_front :
    (s text : List ℕ) (v : Version) (code : List ℕ) (size at : ℕ) →
    length s ≤ 4096 →
    is (front v code size (record { signer = take 4 text; reference = take size (drop 4 text) })) at ≡ fields s →
    Named (judge s) text
unfolding reading judge
named_front s text v code size at short e =
    let names : Names = record { signer = take 4 text; reference = take size (drop 4 text) } in
    let f = front v code size names in
    let q : FrontRead s v code size at = record { short = short; names = names; fields_read = e } in
    let stands : Stands f text = ap (λ n. take (4 + n) text) (sym (fields_known s f at e)) ∙ take-add 4 size text in
    subst (λ w. Named (verdict w) text) (sym (judge_reading s short))
    (subst (λ i. Named (verdict (pass i (on s))) text) (sym (dated_next s v code size at q)) (after_rest text f stands s (dated at s)))

-- a refusal has none
pub named_refused : (s text : List ℕ) (y : Why) (place : ℕ) → judging s ≡ not y place → Named (judge s) text
unfolding judge
named_refused s text y place e = subst (λ w. Named (verdict w) text) (sym e) tt
