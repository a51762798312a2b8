-- `case_scan::take_pairs` meets its contract.
-- Assumes nothing.
use Rattle.std.proofs.Common.{[]}
use Rattle.lines.specs.Written.Laws.{puts_none, puts_more}
use Rattle.case_scan.specs.Scan.Laws.{pairs_none, pairs_turn, pairs_done}
use Rattle.case_scan.proofs.take_pairs.Goals as goal

pub loop-byte-init : goal.loop-byte-init
loop-byte-init c = ([], pairs_none _ _, puts_none _)

pub loop-byte-preserved : goal.loop-byte-preserved
loop-byte-preserved c = (
  _,
  pairs_turn c.args.s.now _ c.loop-byte.i _ _ c.loop-byte.invariant.1 c.in-Some.ensures.1,
  puts_more _ _ _ _ _ c.loop-byte.invariant.2 c.put.ensures,
)

pub returns : goal.returns
returns c = pairs_done c.args.s.now _ c.loop-byte.i _ c.loop-byte.invariant.1 c.in_default.ensures _ _ c.loop-byte.invariant.2
