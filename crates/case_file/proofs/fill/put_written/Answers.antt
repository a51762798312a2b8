-- `case_file::fill::put_written` meets its contract.
-- Assumes nothing.
use native.Mathlib.Omega.{arith}
use mathlib.Core.Path.{sym}
use borrow.Author.Tests.{lt-ltb, le-ltb, eq-eqb, ne_eqb}
use lib.Seq.{length-take-le}
use Rattle.case_file.specs.Line.Laws.{puts_none, puts_more}
use Rattle.case_file.proofs.fill.put_written.Goals as goal

pub returns-then-count-eq0 : goal.returns-then-count-eq0
returns-then-count-eq0 c = rw (eq-eqb _ _ c.if-count-eq0.true) (puts_none _)

pub returns-then-buffer-count : goal.returns-then-buffer-count
returns-then-buffer-count c = rw (ne_eqb _ _ c.if-count-eq0.false, lt-ltb _ _ c.if-buffer-count.true) c.text.ensures

pub slice_bounds-put_bytes-end : goal.slice_bounds-put_bytes-end
slice_bounds-put_bytes-end c = sym (length-take-le c.args.count c.args.buffer.now (omega arith))

pub returns : goal.returns
returns c =
    rw (ne_eqb _ _ c.if-count-eq0.false, le-ltb _ _ c.if-buffer-count.false) (puts_more _ _ _ _ _ c.put.ensures c.put_bytes.ensures)
