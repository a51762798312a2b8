-- `hex_bytes::put_more` meets its contract: there are none, or the words are put down around their number.
-- Assumes nothing.
use Rattle.lines.specs.Written.Laws.{puts_none, puts_more}
use Rattle.hex_bytes.proofs.Shown.Laws.{more_none, more_some}
use Rattle.hex_bytes.proofs.put_more.Goals as goal

pub returns-then-more-eq0 : goal.returns-then-more-eq0
returns-then-more-eq0 c = rw (more_none _ c.if-more-eq0.true) (puts_none _)

pub returns : goal.returns
returns c =
    rw (more_some _ c.if-more-eq0.false)
    (puts_more _ _ _ _ _ c.text.ensures (puts_more _ _ _ _ _ c.number.ensures c.text-2.ensures))
