-- `names_size` meets its contract.
-- Assumes nothing.
use native.Mathlib.Omega.{arith}
use Rattle.write_size.specs.SealSize.Laws.{names_plain, names_past, names_long}
use Rattle.write_size.proofs.names_size.Goals as goal

pub returns-in-Three : goal.returns-in-Three
returns-in-Three c = let a = c.args in names_plain a.version a.text c.in-Three.is

pub returns-then-text-gt6144 : goal.returns-then-text-gt6144
returns-then-text-gt6144 c =
    let a = c.args in names_past a.version a.text c.in_default.is (omega arith)

pub returns : goal.returns
returns c =
    let a = c.args in
    names_long a.version a.text c.in_default.is (omega arith) _ c.threes.ensures
