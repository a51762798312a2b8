-- `hex_bytes::put_hex` meets its contract. The loop's invariant: the bytes so far are put down.
use Rattle.std.proofs.Common.{take}
use Rattle.lines.specs.Written.{Puts}
use Rattle.hex_bytes.specs.Shown.{hex_bytes}
use Rattle.hex_bytes.proofs.put_hex.Given as goal

abbrev pub invariant-loop-byte : goal.invariant-loop-byte
invariant-loop-byte l = Puts l.initial.line (hex_bytes (take l.byte-index l.bytes)) l.line
