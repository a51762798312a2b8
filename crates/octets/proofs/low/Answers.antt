-- `octets::low` meets its contract: eight bits are what 256 leaves.
-- Assumes nothing.
use lib.Bits.{and_mask}
use Rattle.octets.proofs.low.Goals as goal

pub returns : goal.returns
returns c = and_mask c.args.n 8
