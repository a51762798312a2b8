-- `decode::full` meets its contract. The loop's invariant: all pairs before the place are full.
-- Assumes nothing.
use native.Mathlib.Omega.{arith}
use mathlib.Core.Path.{◌≡◌, subst}
use Rattle.c40_read.specs.Full.{FullTo}
use Rattle.c40_read.specs.Full.Laws.{full_start}
use Rattle.c40_read.proofs.decode.full.Goals as goal

pub loop-i-init : goal.loop-i-init
loop-i-init c = (omega arith, full_start _)

pub returns : goal.returns
returns c =
    let come = c.loop-i.invariant.1 in
    let end : c.loop-i.i ≡ c.args.last = omega (arith, come.even) in
    record { full = subst (FullTo c.args.bytes.now) end come; inside = omega arith; not_full = λ h. absurd (omega arith) }
