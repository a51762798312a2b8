-- `Tables::lay_row` meets its contract: each entry that is not 0 is right.
-- Assumes nothing.
use native.Mathlib.Omega.{arith}
use mathlib.Core.Path.{◌≡◌, refl, ap}
use Prim.Native.Nat.{ℕ, ◌+◌, ◌*◌, ◌<◌, ◌≤◌}
use lib.ListN.{get_or}
use Rattle.pairs.specs.Chart.{char}
use Rattle.pairs.specs.Chart.Laws.{entry}
use Rattle.c40_read_long.specs.Laid.{TailAt}
use Rattle.c40_read_long.specs.Laid.Laws.{char_small, sound_set, tail_right}
use Rattle.c40_read_long.proofs.Tables.lay_row.Goals as goal
use Rattle.c40_read_long.proofs.Tables.lay_row.Goals.{In-loop-c, Start}

-- the characters of the second value and of the third, by the chart: neither is over 90
by_chart : (c : Start) (v : ℕ) → 3 ≤ v → v < 40 → get_or c.args.chart.now v 0 < 91
by_chart c v h k = omega (arith, entry _ v v c.requires.0 refl, char_small v h k)

small : (c : In-loop-c)
    → (get_or c.args.chart.now c.loop-c.c 0 < 91) × (get_or c.args.chart.now c.args.b 0 < 91)
small c =
    (by_chart (goal.at.In-loop-c c).Start _ (omega arith) (omega arith), by_chart (goal.at.In-loop-c c).Start _ (omega arith) (omega arith))

pub overflow_cast-second : goal.overflow_cast-second
overflow_cast-second c = omega (arith, by_chart (goal.at.overflow_cast-second c).Start c.args.b (omega arith) (omega arith))

pub overflow_cast-self : goal.overflow_cast-self
overflow_cast-self c = omega (arith, small (goal.at.overflow_cast-self c).In-loop-c)

pub overflow_mul-self : goal.overflow_mul-self
overflow_mul-self c = omega (arith, small (goal.at.overflow_mul-self c).In-loop-c)

pub overflow_add-self : goal.overflow_add-self
overflow_add-self c = omega (arith, small (goal.at.overflow_add-self c).In-loop-c)

pub invariant_of-self : goal.invariant_of-self
invariant_of-self c =
    let b = c.args.b in
    let third = c.loop-c.c in
    let is : get_or c.args.chart.now third 0 * 256 + get_or c.args.chart.now b 0 ≡ char third * 256 + char b =
    ap (λ t. get_or t third 0 * 256 + get_or t b 0) c.requires.0 in
    record {
      heads_are_sound = c.loop-c.self.heads_are_sound;
      tails_are_sound =
          sound_set TailAt 1601 _ c.loop-c.self.tails_are_sound _ _ (omega arith)
          (λ some. tail_right b third _ (omega arith) (omega arith) (omega arith) (omega arith) is);
    }
