-- `case_scan::pair_at` meets its contract: the end, a first byte that is no digit, a second one, and a pair.
-- Assumes nothing.
use Rattle.case_scan.specs.Scan.Laws.{pairs_past, pairs_no_high, pairs_no_low, pairs_more, digit_at}
use Rattle.case_scan.proofs.pair_at.Goals as goal

pub returns-then-s-i : goal.returns-then-s-i
returns-then-s-i c = pairs_past _ _ c.if-s-i.true

pub returns-then-high-eq16 : goal.returns-then-high-eq16
returns-then-high-eq16 c = pairs_no_high _ _ c.if-s-i.false _ (digit_at _ _ _ c.at.ensures c.hex_value-high.ensures) c.if-high-eq16.true

pub returns-then-low-eq16 : goal.returns-then-low-eq16
returns-then-low-eq16 c =
    pairs_no_low _ _ c.if-s-i.false _ (digit_at _ _ _ c.at.ensures c.hex_value-high.ensures) c.if-high-eq16.false _
    (digit_at _ _ _ c.at-2.ensures c.hex_value-low.ensures) c.if-low-eq16.true

pub returns : goal.returns
returns c =
    pairs_more _ _ c.if-s-i.false _ (digit_at _ _ _ c.at.ensures c.hex_value-high.ensures) c.if-high-eq16.false _
    (digit_at _ _ _ c.at-2.ensures c.hex_value-low.ensures) c.if-low-eq16.false
