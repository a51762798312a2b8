-- `case_file::given::any_number` meets its contract: after `~` the number is counted down, and else it is as it stands.
-- Assumes nothing.
use native.Mathlib.Omega.{arith}
use mathlib.Core.Path.{◌≡◌, sym, ◌∙◌}
use Prim.Native.Nat.{◌<◌}
use lib.ListN.{length, get_or}
use Rattle.case_file.specs.Given.Laws.{tilde_there, number_down, number_plain}
use Rattle.case_file.proofs.given.any_number.Goals as goal
use Rattle.case_file.proofs.given.any_number.Goals.{Then-at-eq126}

-- `~` stands at the place, so that there is a byte
tilde : (c : Then-at-eq126) → get_or c.args.line.now c.args.from 10 ≡ 126
tilde c = sym c.at.ensures ∙ c.if-at-eq126.true

here : (c : Then-at-eq126) → c.args.from < length c.args.line.now
here c = tilde_there c.args.line.now c.args.from (tilde c)

pub overflow_add-from : goal.overflow_add-from
overflow_add-from c = omega (arith, here (goal.at.overflow_add-from c).Then-at-eq126)

pub returns-then-at-eq126 : goal.returns-then-at-eq126
returns-then-at-eq126 c =
    let less = c.number-less.ensures in
    let there = (goal.at.returns-then-at-eq126 c).Then-at-eq126 in
    record {
      from_le_next = (omega (arith, less.0.on), omega (arith, less.0.within, here there));
      value_value = number_down _ _ _ _ (tilde there) less.1.0 less.1.1;
    }

pub returns : goal.returns
returns c =
    let all = c.number.ensures in
    record { from_le_next = (all.0.on, all.0.within); value_value = number_plain _ _ _ _ (λ e. c.if-at-eq126.false (c.at.ensures ∙ e)) all.1.0 all.1.1 }
