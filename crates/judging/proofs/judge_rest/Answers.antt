-- `judge_rest` meets its contract: a refusal from the dates on is the verdict, and else that on the features and the signature.
-- Assumes nothing.
use mathlib.Core.Path.{◌∙◌, ap, refl, sym}
use Rattle.read_items.specs.Meaning.Laws.{left}
use Rattle.read_header.specs.Steps.{rest_of}
use Rattle.judging.specs.Judged.{judge_rest, judged_refused, header_next, settled}
use Rattle.judging.proofs.judge_rest.Goals as goal

pub returns-in_err-rest : goal.returns-in_err-rest
returns-in_err-rest c =
    ap settled (left _ _ c.from_residual.ensures.1)
    ∙ judged_refused _ _ _ _
    (judge_rest _ _ _ _ _ c.requires.read _ _ (sym (ap rest_of c.in_err-rest.was) ∙ c.read_rest.ensures)) refl

pub judge_message-requires : goal.judge_message-requires
judge_message-requires c =
    let w = c.in_ok-rest.rest in record {
      read = header_next _ _ _ _ _ c.requires.read
          (record { issued = w.issued; signed = w.signed; definition = w.definition; category = w.category })
          w.next.place _
          (sym (ap rest_of c.in_ok-rest.was) ∙ c.read_rest.ensures)
          c.number.ensures;
    }
