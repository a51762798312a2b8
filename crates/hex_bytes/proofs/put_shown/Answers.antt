-- `hex_bytes::put_shown` meets its contract: there are none, or fewer than sixteen, or as many and maybe more.
-- Assumes nothing.
use native.Mathlib.Omega.{arith}
use mathlib.Core.Path.{sym}
use lib.Seq.{length-take-le}
use Rattle.lines.specs.Written.Laws.{puts_more}
use Rattle.hex_bytes.proofs.Shown.Laws.{shown_none, shown_some, shown_all}
use Rattle.hex_bytes.proofs.put_shown.Goals as goal

pub returns-then-size-eq0 : goal.returns-then-size-eq0
returns-then-size-eq0 c = rw (shown_none _ c.if-size-eq0.true) c.text.ensures

pub returns-then-size-lt-MOST : goal.returns-then-size-lt-MOST
returns-then-size-lt-MOST c = rw (shown_all _ c.if-size-eq0.false c.if-size-lt-MOST.true) c.put_hex.ensures

pub slice_bounds-put_hex-end : goal.slice_bounds-put_hex-end
slice_bounds-put_hex-end c = sym (length-take-le 16 c.args.bytes.now (omega arith))

pub returns : goal.returns
returns c = rw (shown_some _ c.if-size-eq0.false) (puts_more _ _ _ _ _ c.put_hex-2.ensures c.put_more.ensures)
