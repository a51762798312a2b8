-- `Chart::three` meets its contract: a pair that carries something and is not the last carries three characters,
-- so its number is in range.
-- Assumes nothing.
use native.Mathlib.Omega.{arith}
use mathlib.Core.Path.{◌≡◌, ◌∙◌, refl, ap, sym}
use mathlib.Core.Bool.{false}
use Prim.Native.Nat.{ℕ, ◌+◌, ◌*◌, ◌-◌, ◌<◌, ◌≤◌}
use mathlib.Core.List.{List}
use lib.ListN.{get_or}
use Rattle.std.specs.Prelude.{Ok}
use Rattle.pairs.specs.Chart.{the_chart, char}
use Rattle.pairs.specs.Pairs.{number, first, second, third, pair_of}
use Rattle.pairs.proofs.Pairs.Laws.{pair_full, chars_some}
use Rattle.pairs.specs.declared.decode.Pair.TheVariants.{Three}
use Rattle.c40_read.proofs.decode.Chart.three.Goals as goal
use Rattle.c40_read.proofs.decode.Chart.three.Goals.{Start}

-- the pair's number is in range, and the pair carries the characters of its three values
in_range : (c : Start)
    → let n = number c.args.x c.args.y in
    (0 < n) × (n ≤ 64000)
    × (pair_of the_chart false c.args.x c.args.y ≡ Ok (Three (char (first n)) (char (second n)) (char (third n))))
in_range c = pair_full false _ _ refl (chars_some _ (omega arith))

pub overflow_sub-wide : goal.overflow_sub-wide
overflow_sub-wide c = let h = in_range (goal.at.overflow_sub-wide c).Start in omega arith

pub bounds-self-a : goal.bounds-self-a
bounds-self-a c = let h = in_range (goal.at.bounds-self-a c).Start in omega arith

pub returns : goal.returns
returns c =
    let v = c.split-v.result in
    let s = c.split-v.ensures in
    let low = (in_range (goal.at.returns c).Start).0 in
    let less = c.wide.result * 256 + c.wide-2.result - 1 in
    let e : less + 1 ≡ number c.args.x c.args.y = omega arith in
    ap (λ (t : List ℕ). Ok (Three (get_or t v.a 0) (get_or t v.b 0) (get_or t v.c 0))) c.args.self.now.is_chart
    ∙ (λ i. Ok (Three (char ((s.0 ∙ ap first e) i)) (char ((s.1.0 ∙ ap second e) i)) (char ((s.1.1 ∙ ap third e) i))))
    ∙ sym (in_range (goal.at.returns c).Start).2
