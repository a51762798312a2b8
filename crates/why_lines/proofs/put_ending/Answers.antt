-- `why_lines::put_ending` meets its contract: a byte stands behind the front part, or none does.
-- Assumes nothing.
use borrow.Author.Tests.{lt-ltb, le-ltb}
use mathlib.Core.Path.{◌≡◌}
use mathlib.Core.Bool.{true, false}
use lib.Dec.{ltb}
use lib.ListN.{length, take, drop}
use Rattle.hex_bytes.specs.Shown.{shown}
use Rattle.lines.specs.Written.Laws.{puts_more}
use Rattle.why_lines.proofs.put_ending.Goals as goal

pub returns-then-front-seal : goal.returns-then-front-seal
returns-then-front-seal c =
    let there : ltb c.args.front (length c.args.seal.now) ≡ true =
    lt-ltb _ _ c.if-front-seal.true in
    rw there
    (puts_more _ _ _ _ _ c.text.ensures
    (puts_more _ _ _ (shown (take 1 (drop c.args.front c.args.seal.now))) _
    (rw c.part.ensures.bytes at c.put_shown.ensures) c.text-then-front-seal.ensures))

pub returns : goal.returns
returns c =
    let none : ltb c.args.front (length c.args.seal.now) ≡ false =
    le-ltb _ _ c.if-front-seal.false in
    rw none c.text-2.ensures
