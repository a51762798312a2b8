-- `put_text` of `lines` meets its contract. The loop's invariant: the text so far is put down.
use Rattle.std.proofs.Common.{◌≡◌, length, take}
use Rattle.lines.specs.Line.{Put}
use Rattle.lines.proofs.written.put_text.Given as goal

abbrev pub invariant-loop-b : goal.invariant-loop-b
invariant-loop-b l = (length l.out ≡ length l.initial.out) × Put l.initial.out l.at (take l.b-index l.text) l.out l.next
