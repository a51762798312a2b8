-- `judge_seal` meets its contract: a seal that is too long is refused, and so is one whose fields before the dates are not read; any other
-- is judged from the dates on, with its names in the text.
-- Assumes nothing.
use native.Mathlib.Omega.{arith}
use mathlib.Core.Path.{◌≡◌, ◌∙◌, ap, refl, sym}
use Rattle.std.specs.Prelude.{Ok}
use Prim.Native.Nat.{◌≤◌}
use lib.ListN.{length, take, drop}
use Rattle.verdict.specs.Items.{not}
use Rattle.read_items.specs.Meaning.Laws.{left}
use Rattle.read_items.specs.declared.cursor.Refusal.{Refusal}
use Rattle.read_header.specs.Steps.{fields, front_of}
use Rattle.reading.specs.Calls.{judgement_of}
use Rattle.judging.specs.Judged.{judge_long, judge_front, judged_refused, over_long, over_short, settled}
use Rattle.judging.specs.Judged.Names.{named_front, named_refused}
use Rattle.judging.proofs.judge_seal.Goals as goal
use Rattle.judging.proofs.judge_seal.Goals.{Else-seal-gt4096, In_ok-front}

short : (c : Else-seal-gt4096) → length c.args.seal.now ≤ 4096
short c = omega arith

-- what was read before the dates
front_read : (c : In_ok-front) →
    front_of c.read_front.new.country c.read_front.new.text (Ok c.in_ok-front.front) ≡ fields c.args.seal.now
front_read c =
    sym (ap (front_of c.read_front.new.country c.read_front.new.text) c.in_ok-front.was) ∙ c.read_front.ensures.item

pub returns-then-seal-gt4096 : goal.returns-then-seal-gt4096
returns-then-seal-gt4096 c =
    let args = c.args in
    let j = judge_long args.seal.now (omega arith) in record {
      answer = judged_refused _ _ _ _ j (ap (λ (w : Refusal). judgement_of (not w.why w.place)) c.of.ensures);
      text = named_refused _ _ _ _ j;
      buffer = over_long args.names.now args.seal.now (omega arith);
    }

pub returns-in_err-front : goal.returns-in_err-front
returns-in_err-front c =
    let little = short (goal.at.returns-in_err-front c).Else-seal-gt4096 in
    let j = judge_front _ little _ _
    (sym (ap (front_of c.read_front.new.country c.read_front.new.text) c.in_err-front.was) ∙ c.read_front.ensures.item) in record {
      answer = ap settled (left _ _ c.from_residual.ensures.1) ∙ judged_refused _ _ _ _ j refl;
      text = named_refused _ _ _ _ j;
      buffer = over_short _ _ _ little c.read_front.ensures.names;
    }

pub judge_rest-requires : goal.judge_rest-requires
judge_rest-requires c =
    let text = c.read_front.new.text in record {
      read = record {
        short = short (goal.at.judge_rest-requires c).Else-seal-gt4096;
        names = record { signer = take 4 text; reference = take c.in_ok-front.front.length (drop 4 text) };
        fields_read = front_read (goal.at.judge_rest-requires c).In_ok-front;
      };
    }

pub returns : goal.returns
returns c =
    let little = short (goal.at.returns c).Else-seal-gt4096 in record {
      answer = c.judge_rest.ensures;
      text = named_front _ _ _ _ _ _ little (front_read (goal.at.returns c).In_ok-front);
      buffer = over_short _ _ _ little c.read_front.ensures.names;
    }
