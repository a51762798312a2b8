-- `Version::from_number` meets its contract, test by test.
-- Assumes nothing.
use Rattle.versions.proofs.Versions.Laws.{is_three, is_four, is_none}
use Rattle.versions.proofs.Version.from_number.Goals as goal

pub returns-then-number-eq3 : goal.returns-then-number-eq3
returns-then-number-eq3 c = is_three 3 4 _ c.if-number-eq3.true

pub returns-then-number-eq4 : goal.returns-then-number-eq4
returns-then-number-eq4 c = is_four 3 4 _ c.if-number-eq3.false c.if-number-eq4.true

pub returns : goal.returns
returns c = is_none 3 4 _ c.if-number-eq3.false c.if-number-eq4.false
