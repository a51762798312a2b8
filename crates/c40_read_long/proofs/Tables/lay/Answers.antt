-- `Tables::lay` meets its contract: each entry that is not 0 is right.
-- Assumes nothing.
use mathlib.Core.Path.{refl, sym, subst}
use mathlib.Core.List.{[], ◌∷◌, ◌++◌}
use lib.ListN.{replicate}
use Rattle.c40_read_long.specs.Laid.{HeadAt, Heads}
use Rattle.c40_read_long.specs.Laid.Laws.{sound_blank, heads_laid}
use Rattle.c40_read_long.proofs.Tables.lay.Goals as goal

-- the heads are the chart, and a 0 behind it
pub invariant_of-self : goal.invariant_of-self
invariant_of-self c = record {
  heads_are_sound =
      subst (λ t. Heads (t ++ 0 ∷ [])) (sym c.copy_from_slice.ensures.after)
      (heads_laid _ _ c.the_chart-chart.ensures (sound_blank HeadAt 41 (replicate 41 0) refl));
  tails_are_sound = c.args.self.now.tails_are_sound;
}
