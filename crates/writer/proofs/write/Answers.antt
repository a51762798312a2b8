-- `write` meets its contract: a refusal leaves the buffer as it was, and what is judged good is put down.
-- Assumes nothing.
use native.Mathlib.Omega.{arith}
use mathlib.Core.Path.{◌≡◌, refl, ap, sym, ◌∙◌}
use mathlib.Core.Option.{some}
use lib.ListN.{length}
use Rattle.format.specs.Answers.{told, filled}
use Rattle.format.proofs.Answers.Laws.{gives}
use Rattle.versions.specs.declared.Version.{Version}
use Rattle.versions.specs.Versions.{version_of, stated_of}
use Rattle.grammar.specs.Publish.{publish}
use Rattle.write_given.specs.Given.{Given, given, content_as}
use Rattle.write_judge.specs.Calls.{writing, writing_of}
use Rattle.write_judge.specs.Calls.Laws.{writing_version}
use Rattle.std.specs.Prelude.{Err}
use Rattle.std.proofs.lemmas.Result.{err_from_is_err_and}
use Rattle.write_judge.specs.declared.Refused.{Refused}
use Rattle.write_judge.specs.declared.Refused.TheVariants as write
use Rattle.writer.specs.Theorems.{refusal_keeps}
use Rattle.writer.specs.Legal.Order.{Passes, passes_in, passes_done}
use Rattle.writer.proofs.write.Goals as goal
use Rattle.writer.proofs.write.Goals.{After-judge, In-Ok}

-- a refusal has a number of its own
not_done : (e : Refused) → (writing_of (Err e)).number ≡ 0 → ⊥
not_done write.Version z = absurd (omega arith)
not_done write.Names z = absurd (omega arith)
not_done write.Dates z = absurd (omega arith)
not_done write.Last z = absurd (omega arith)
not_done write.Rows z = absurd (omega arith)
not_done write.Values z = absurd (omega arith)
not_done write.Signature z = absurd (omega arith)
not_done write.TooLong z = absurd (omega arith)
not_done write.NoRoom z = absurd (omega arith)

abbrev whole : After-judge → Given
whole c =
    let a = c.args in given a.header a.text.now a.rows.now a.values.now a.signature.now

abbrev ver : In-Ok → Version
ver c = c.in-Ok.version

passed : (k : In-Ok) → Passes (ver k) (whole (goal.at.In-Ok k).After-judge) (length k.args.out.now)
passed c =
    let version : version_of (whole (goal.at.In-Ok c).After-judge).header.version ≡ some (ver c) =
    sym c.from_number.ensures ∙ ap stated_of c.in-Ok.is in
    passes_in (whole (goal.at.In-Ok c).After-judge) (length c.args.out.now) (ver c) version
    (sym (ap (λ a. a.number) c.in_ok-size.ensures))

pub returns-in_err-size : goal.returns-in_err-size
returns-in_err-size c =
    let p = err_from_is_err_and c.from_residual.result c.from_residual.ensures.1 in
    rw (p.1, p.2)
    (record {
      answer = c.in_err-size.ensures;
      buffer = sym
          (refusal_keeps (whole (goal.at.returns-in_err-size c).After-judge) c.args.out.now
          (λ z. not_done _ (ap (λ a. a.number) c.in_err-size.ensures ∙ z)));
    })

pub returns-in_default : goal.returns-in_default
returns-in_default c =
    let out = c.args.out.now in
    let e = writing_version (whole (goal.at.returns-in_default c).After-judge) (length out) (sym c.from_number.ensures ∙ ap stated_of c.in_default.is) in
    record { answer = sym (ap told e); buffer = sym (ap (λ o. filled o out) e) }

pub put_seal-requires : goal.put_seal-requires
put_seal-requires c =
    let p = passed (goal.at.put_seal-requires c).In-Ok in (
      record {
        header = p.names;
        dated = record { days = p.days; last = p.last };
        table = p.table;
        values = p.sizes;
        signature = p.signature;
        size = p.size;
      },
      omega (arith, p.fits),
    )

pub returns : goal.returns
returns c =
    let seal = publish (content_as (whole (goal.at.returns c).After-judge) (ver (goal.at.returns c).In-Ok)) in
    let out = c.args.out.now in record {
      answer = c.in_ok-size.ensures;
      buffer = (gives (writing (whole (goal.at.returns c).After-judge) (length out)) seal (length seal) out _ (passes_done (ver (goal.at.returns c).In-Ok) (whole (goal.at.returns c).After-judge) (length out) (passed (goal.at.returns c).In-Ok)) refl
          c.put_seal.ensures
          ).1;
    }
