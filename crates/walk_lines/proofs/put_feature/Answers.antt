-- `walk_lines::put_feature` meets its contract: four names, each with its number, and a newline.
-- Assumes nothing.
use Rattle.lines.specs.Written.Laws.{puts_more}
use Rattle.walk_lines.specs.Lines.Laws.{put_feature}
use Rattle.walk_lines.proofs.put_feature.Goals as goal

pub returns : goal.returns
returns c =
    put_feature _ _ _
    (puts_more _ _ _ _ _ c.put_named.ensures
    (puts_more _ _ _ _ _ c.put_named-2.ensures (puts_more _ _ _ _ _ c.put_named-3.ensures c.put_counted.ensures)))
