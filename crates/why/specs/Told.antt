-- What `why` answers (document 02, Ticket 11), for every byte string: number and place, the codes of the item and of the rule that it
-- breaks, and the bytes judged. proofs/Theorems.antt shows that it is the true reason.
-- Assumes nothing.
pub mod Laws
use Rattle.std.specs.Prelude.{ℕ, List}
use Rattle.causes.specs.Causes.{rule_number, item_code, rule_code}
use Rattle.verdict.specs.Items.{Way, is, not}
use Rattle.verdict.specs.Judge.{Report, judging}
use Rattle.reason.specs.Judged.{judged_size}
use Rattle.why.specs.declared.Reason.{Reason}

-- what is told of a judging: nothing of a seal that is accepted
abbrev pub nothing : Reason
nothing = record { number = 0; place = 0; item = 0; rule = 0; judged = record { place = 0; length = 0 } }

abbrev pub telling : List ℕ → Way Report → Reason
telling s (is r at) = nothing
telling s (not why place) =
    record {
      number = rule_number why.rule;
      place = place;
      item = item_code why.item;
      rule = rule_code why.rule;
      judged = record { place = place; length = judged_size s why.item why.rule place };
    }

unfoldable pub told : List ℕ → Reason
told s = telling s (judging s)
