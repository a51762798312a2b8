-- `case_scan::runs` meets its contract: all runs are put down through a line on the buffer.
-- Assumes nothing.
use borrow.Author.Rules.{rules}
use Rattle.std.proofs.Common.{◌≡◌, ℕ, List, length, sym, arith}
use Rattle.lines.specs.Line.{Put, Counts}
use Rattle.lines.specs.Line.Laws.{counts}
use Rattle.lines.specs.Written.Laws.{put_through}
use Rattle.case_scan.proofs.runs.Goals as goal

counted : (old bytes new : List ℕ) (r : ℕ) → Put old 0 bytes new r → length new ≡ length old → Counts r new × Put old 0 bytes new r
counted old bytes new r p long = (counts r new (omega (arith, p.within)), p)

pub returns : goal.returns
returns c =
    counted _ _ _ _
    (put_through _ 0 c.new-line.result c.take_runs.new.out _ _ _ c.new-line.ensures c.take_runs.ensures
    (search (rules, c.take_runs.ensures.same, c.new-line.ensures.same)) (sym c.at.ensures))
    (omega arith)
