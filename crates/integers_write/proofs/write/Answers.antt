-- `integers_write::write` meets its contract: the eight bytes from where their shortest form starts, behind the tag and the size.
-- Assumes nothing.
use native.Mathlib.Omega.{arith}
use mathlib.Core.Path.{◌≡◌, ◌∙◌, ap}
use Prim.Native.Nat.{◌<◌}
use lib.ListN.{drop, length-set}
use mir.Facts.{to_z-of_z}
use Rattle.format.specs.BigEndian.{be}
use Rattle.der.specs.Content.{shortest}
use Rattle.integers.specs.Integer.{word}
use Rattle.integers.specs.Calls.Laws.{no_room, written_size, written}
use Rattle.integers_write.proofs.write.Goals as goal
use Rattle.integers_write.proofs.write.Goals.{After-start_of-start}

-- the eight bytes, and where their shortest form starts
from :
    (c : After-start_of-start) →
    (c.bytes_of-bytes.result ≡ be 8 (word c.args.v))
    × (c.start_of-start.result < 8)
    × (shortest c.bytes_of-bytes.result ≡ drop c.start_of-start.result c.bytes_of-bytes.result)
from c = (
  c.bytes_of-bytes.ensures ∙ ap (be 8) (c.word.ensures ∙ ap word (to_z-of_z c.ranges.v)),
  c.start_of-start.ensures.0,
  c.start_of-start.ensures.1,
)

pub bounds-out-1 : goal.bounds-out-1
bounds-out-1 c = simp length-set (omega arith)

pub returns-then-out-size : goal.returns-then-out-size
returns-then-out-size c =
    let a = c.args in
    let f = from (goal.at.returns-then-out-size c).After-start_of-start in
    let w = no_room a.v _ _ f.0 f.1 f.2 a.out.now (omega arith) in
    record { answer = w.0; buffer = w.1 }

pub shape_of-out : goal.shape_of-out
shape_of-out c =
    let a = c.args in
    let f = from (goal.at.shape_of-out c).After-start_of-start in
    written_size a.v _ _ f.0 f.1 f.2 a.out.now (omega (arith, c.if-out-size.false)) _ c.copy.ensures.buffer

pub returns : goal.returns
returns c =
    let a = c.args in
    let f = from (goal.at.returns c).After-start_of-start in
    let w = written a.v _ _ f.0 f.1 f.2 a.out.now (omega (arith, c.if-out-size.false)) _ c.copy.ensures.buffer in
    record { answer = w.0; buffer = w.1 }
