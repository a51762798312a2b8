-- `front_features::message_from` meets its contract: where no message begins there is none, and else `message_front` tells.
-- Assumes nothing.
use borrow.Author.Tests.{lt-ltb, le-ltb}
use native.Mathlib.Omega.{arith}
use mathlib.Core.Path.{◌≡◌, sym, ap, ◌∙◌}
use mathlib.Core.List.{List, []}
use Prim.Native.Nat.{ℕ, suc, ◌+◌, ◌-◌, ◌≤◌, ◌<◌}
use lib.ListN.{length, drop}
use Rattle.format.specs.Places.{past_end}
use Rattle.grammar.specs.Content.{Version}
use Rattle.front_message.specs.Message.{turn, message_front}
use Rattle.front_features.specs.Meaning.{message_from}
use Rattle.front_features.proofs.message_from.Goals as goal

module _ (v : Version) (s : List ℕ) (start : ℕ) where
  behind : 4038 < start → start ≡ message_from v start s
  unfolding message_from
  behind h = simp (lt-ltb 4038 start h)

  before : start ≤ 4038 → message_from v start s ≡ start + message_front v (suc (length (drop start s))) [] (4096 - start) (drop start s)
  unfolding message_from
  before h = simp (le-ltb 4038 start h)

  past : start ≤ 4038 → length s < start → start ≡ message_from v start s
  unfolding message_front turn
  past h g =
      let none : message_front v (suc (length (drop start s))) [] (4096 - start) (drop start s) ≡ 0 =
      ap (λ t. message_front v (suc (length t)) [] (4096 - start) t) (past_end s start (omega arith)) in
      sym (before h ∙ ap (λ k. start + k) none ∙ omega arith)

pub returns-then-start-gt4038 : goal.returns-then-start-gt4038
returns-then-start-gt4038 c = behind _ _ _ c.if-start-gt4038.true

pub returns-then-seal-start : goal.returns-then-seal-start
returns-then-seal-start c = past _ _ _ c.if-start-gt4038.false c.if-seal-start.true

pub returns : goal.returns
returns c = c.message_front.ensures ∙ sym (before _ _ _ c.if-start-gt4038.false)
