-- `case_file::line::put_bytes` meets its contract: few bytes are put down whole, and many in five parts.
-- Assumes nothing.
use native.Mathlib.Omega.{arith}
use borrow.Author.Tests.{le-leb, lt-leb}
use mathlib.Core.Path.{sym}
use lib.Seq.{length-take-le}
use Rattle.case_file.specs.Line.{shown}
use Rattle.format.specs.Places.{to_end}
use Rattle.case_file.specs.Line.Laws.{puts_more}
use Rattle.case_file.proofs.line.put_bytes.Goals as goal

pub returns-then-n-le24 : goal.returns-then-n-le24
unfolding shown
returns-then-n-le24 c = rw (le-leb _ _ c.if-n-le24.true) c.put_hex.ensures

pub slice_bounds-put_hex-end : goal.slice_bounds-put_hex-end
slice_bounds-put_hex-end c = sym (length-take-le 8 c.args.bytes.now (omega arith))

pub returns : goal.returns
unfolding shown
returns c =
    rw (lt-leb _ _ c.if-n-le24.false, ← c.checksum.ensures)
    (puts_more _ _ _ _ _ c.put_hex-2.ensures
    (puts_more _ _ _ _ _ c.text.ensures
    (puts_more _ _ _ _ _ (rw to_end at c.put_hex-3.ensures) (puts_more _ _ _ _ _ c.text-2.ensures c.number.ensures))))
