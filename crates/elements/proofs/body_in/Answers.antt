-- `elements::body_in` meets its contract.
-- Assumes nothing.
use native.Mathlib.Omega.{arith}
use Rattle.der.specs.Element.Laws.{body_not, body_is}
use Rattle.elements.proofs.body_in.Goals as goal

pub returns-then-room-read : goal.returns-then-room-read
returns-then-room-read c = let a = c.args in body_not a.room a.read.size a.read.width (omega arith)

pub returns : goal.returns
returns c = let a = c.args in body_is a.room a.read.size a.read.width (omega arith)
