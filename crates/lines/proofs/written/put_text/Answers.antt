-- `put_text` of `lines` meets its contract.
-- Assumes nothing.
use Rattle.std.proofs.Common.{refl, ◌∙◌}
use Rattle.lines.specs.Line.Laws.{put_none, text_turn}
use Rattle.lines.proofs.written.put_text.Goals as goal

pub loop-b-init : goal.loop-b-init
loop-b-init c = (refl, put_none _ _)

pub loop-b-preserved : goal.loop-b-preserved
loop-b-preserved c = (
  c.put_byte-next.auto.out ∙ c.loop-b.invariant.0,
  text_turn c.args.text.now _ _ c.loop-b.b-index c.loop-b-test.true _ _ c.loop-b.invariant.0 _ _ c.loop-b.invariant.1 c.put_byte-next.ensures,
)
