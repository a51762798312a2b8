-- `hex_bytes::put_hex` meets its contract.
-- Assumes nothing.
use Rattle.lines.specs.Written.Laws.{puts_none}
use Rattle.hex_bytes.specs.Shown.{hex_bytes}
use Rattle.hex_bytes.proofs.Shown.Laws.{hex_turn}
use Rattle.hex_bytes.proofs.put_hex.Goals as goal

pub loop-byte-init : goal.loop-byte-init
unfolding hex_bytes
loop-byte-init c = puts_none _

pub loop-byte-preserved : goal.loop-byte-preserved
loop-byte-preserved c = hex_turn _ _ c.loop-byte-test.true _ _ _ c.loop-byte.invariant c.put_byte.ensures
