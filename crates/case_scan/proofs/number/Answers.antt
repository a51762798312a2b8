-- `case_scan::number` meets its contract.
-- Assumes nothing.
use Rattle.std.proofs.Common.{◌≡◌, arith}
use Rattle.case_scan.specs.Scan.Laws.{numeral_none, numeral_more, number_start, number_past, number_low, number_high}
use Rattle.case_scan.specs.Scan.Laws.{number_large, number_go}
use Rattle.case_scan.proofs.number.Goals as goal

pub loop-i-init : goal.loop-i-init
loop-i-init c = (omega arith, numeral_none _ _, number_start _ _)

pub returns-then-b-lt48 : goal.returns-then-b-lt48
returns-then-b-lt48 c =
    (c.loop-i.invariant.1, number_low c.args.s.now _ _ _ c.loop-i.invariant.2 (omega arith) (omega arith))

pub returns-then-b-gt57 : goal.returns-then-b-gt57
returns-then-b-gt57 c =
    (c.loop-i.invariant.1, number_high c.args.s.now _ _ _ c.loop-i.invariant.2 (omega arith) (omega arith) (omega arith))

pub returns-then-value-gt922337203685477580 : goal.returns-then-value-gt922337203685477580
returns-then-value-gt922337203685477580 c =
    (c.loop-i.invariant.1, number_large c.args.s.now _ _ _ c.loop-i.invariant.2 (omega arith) (omega arith) (omega arith) (omega arith))

pub loop-i-preserved : goal.loop-i-preserved
loop-i-preserved c =
    let from = c.args.from in
    let s = c.args.s.now in (
      omega arith,
      rw c.wide.ensures (numeral_more s from c.loop-i.value c.loop-i.i c.loop-i.invariant.1 (omega arith) (omega arith) (omega arith)),
      rw c.wide.ensures
          (number_go s from c.loop-i.value c.loop-i.i c.loop-i.invariant.2 (omega arith) (omega arith) (omega arith) (omega arith)),
    )

pub returns : goal.returns
returns c =
    let last : c.max.result ≡ c.loop-i.i = omega (arith, c.loop-i.invariant.1.within) in
    rw last (c.loop-i.invariant.1, number_past c.args.s.now _ _ _ c.loop-i.invariant.2 (omega arith))
