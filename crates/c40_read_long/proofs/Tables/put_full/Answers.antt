-- `Tables::put_full` meets its contract: two look-ups and three stores are the pair's three characters.
-- Assumes nothing.
use native.Mathlib.Omega.{arith}
use mathlib.Core.Path.{refl}
use Rattle.pairs.proofs.Pairs.Laws.{apart}
use Rattle.c40_read_long.specs.Laid.Laws.{tail_fits, full_put}
use Rattle.c40_read_long.proofs.Tables.put_full.Goals as goal

pub returns-then-head-eq0 : goal.returns-then-head-eq0
returns-then-head-eq0 c e = absurd (apart refl e)

pub overflow_cast-tail : goal.overflow_cast-tail
overflow_cast-tail c =
    record { fits = tail_fits c.args.self.now.tails c.args.self.now.tails_are_sound _ (omega arith) }

pub returns-then-tail-eq0 : goal.returns-then-tail-eq0
returns-then-tail-eq0 c e = absurd (apart refl e)

pub returns : goal.returns
returns c =
    let a = c.args in
    full_put a.self.now.heads a.self.now.tails a.self.now.heads_are_sound a.self.now.tails_are_sound a.x a.y _ (omega arith) (omega arith) (omega arith)
    a.text.now a.at _ _ (omega arith) (omega arith) (omega arith) c.low.ensures c.low-2.ensures
