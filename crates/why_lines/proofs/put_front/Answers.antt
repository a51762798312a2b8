-- `why_lines::put_front` meets its contract: the words, the number, what stands behind it, a newline.
-- Assumes nothing.
use Rattle.lines.specs.Written.Laws.{puts_more}
use Rattle.why_lines.specs.Lines.{front_line}
use Rattle.why_lines.proofs.put_front.Goals as goal

pub returns : goal.returns
unfolding front_line
returns c =
    puts_more _ _ _ _ _ c.text.ensures
    (puts_more _ _ _ _ _ c.number.ensures (puts_more _ _ _ _ _ c.put_ending.ensures c.put.ensures))
