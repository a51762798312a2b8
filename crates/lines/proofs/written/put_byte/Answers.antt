-- `put_byte` of `lines` meets its contract: there is room for the byte, or there is none.
-- Assumes nothing.
use Rattle.lines.specs.Line.Laws.{put_one, put_full}
use Rattle.lines.proofs.written.put_byte.Goals as goal

pub returns-then-at-out : goal.returns-then-at-out
returns-then-at-out c = put_one _ _ _ c.if-at-out.true

pub returns : goal.returns
returns c = put_full _ _ _ c.if-at-out.false
