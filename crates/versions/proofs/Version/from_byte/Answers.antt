-- `Version::from_byte` meets its contract, test by test.
-- Assumes nothing.
use Rattle.versions.proofs.Versions.Laws.{is_three, is_four, is_none}
use Rattle.versions.proofs.Version.from_byte.Goals as goal

pub returns-then-byte-eq2 : goal.returns-then-byte-eq2
returns-then-byte-eq2 c = is_three 0x02 0x03 _ c.if-byte-eq2.true

pub returns-then-byte-eq3 : goal.returns-then-byte-eq3
returns-then-byte-eq3 c = is_four 0x02 0x03 _ c.if-byte-eq2.false c.if-byte-eq3.true

pub returns : goal.returns
returns c = is_none 0x02 0x03 _ c.if-byte-eq2.false c.if-byte-eq3.false
