-- `case_file::line::put_hex` meets its contract. The loop's invariant: the bytes so far are put down in hex.
use Rattle.std.proofs.Common.{take}
use Rattle.lines.specs.Written.{Puts}
use Rattle.case_file.specs.Line.{hex_of}
use Rattle.case_file.proofs.line.put_hex.Given as goal

abbrev pub invariant-loop-byte : goal.invariant-loop-byte
invariant-loop-byte l = Puts l.initial.line (hex_of (take l.byte-index l.bytes)) l.line
