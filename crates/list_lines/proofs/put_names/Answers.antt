-- `put_names` meets its contract. A country has three characters.
-- Assumes nothing.
use native.Mathlib.Omega.{arith}
use mathlib.Core.Path.{◌≡◌}
use Prim.Native.Nat.{◌≤◌}
use lib.ListN.{length, take}
use lib.Seq.{take_all}
use Rattle.lines.specs.Written.Laws.{puts_more}
use Rattle.list_lines.specs.ListLine.{name_lines}
use Rattle.list_lines.proofs.put_names.Goals as goal

pub returns : goal.returns
unfolding name_lines
returns c =
    let code = c.args.country in
    let short : length code ≤ 3 = omega arith in
    let all : take 3 code ≡ code = take_all 3 code short in
    puts_more _ _ _ _ _ c.put_counted.ensures
    (puts_more _ _ _ _ _ (rw all at c.put_named.ensures) (puts_more _ _ _ _ _ c.put_named-2.ensures c.put_named-3.ensures))
