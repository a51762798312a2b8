-- `case_scan::take_runs` meets its contract.
-- Assumes nothing.
use Rattle.std.proofs.Common.{◌∙◌, ◌+◌, sym, [], arith}
use Rattle.lines.specs.Written.Laws.{puts_none, puts_more}
use Rattle.case_scan.specs.Scan.Laws.{here, run_on, runs_start, runs_other, runs_go}
use Rattle.case_scan.proofs.take_runs.Goals as goal

pub loop-i-init : goal.loop-i-init
loop-i-init c = ([], runs_start _ _, puts_none _)

pub loop-i-smaller : goal.loop-i-smaller
loop-i-smaller c =
    let inside = here c.args.s.now c.loop-i.i 32 (sym c.at.ensures ∙ c.loop-i-test.true) (omega arith) in
    let on = run_on c.args.s.now (c.loop-i.i + 1) in
    omega (arith, c.take_run-i.ensures.0)

pub loop-i-preserved : goal.loop-i-preserved
loop-i-preserved c = (
  _,
  runs_go c.args.s.now _ c.loop-i.i _ c.loop-i.invariant.1 (sym c.at.ensures ∙ c.loop-i-test.true) _ c.take_run-i.ensures.0,
  puts_more _ _ _ _ _ c.loop-i.invariant.2 c.take_run-i.ensures.1,
)

pub returns : goal.returns
returns c =
    runs_other c.args.s.now _ _ _ c.loop-i.invariant.1 _ _ c.loop-i.invariant.2 (λ e. c.loop-i-test.false (c.at.ensures ∙ e))
