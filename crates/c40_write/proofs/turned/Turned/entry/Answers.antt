-- `Turned::entry` meets its contract: it is a value or the mark.
-- Assumes nothing.
use Rattle.c40_write.specs.Turned.Laws.{looked, found_most}
use Rattle.c40_write.proofs.turned.Turned.entry.Goals as goal

pub returns : goal.returns
returns c =
    let is = looked _ _ _ c.args.self.now.is_turned c.wide.ensures in
    record { is = is; most = found_most c.args.code _ c.ranges.code.fits is }
