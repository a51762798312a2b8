-- `case_file::line::checksum` meets its contract. The loop's invariant: `tail` and `sum` are the two sums of what is taken off the end.
use Rattle.std.proofs.Common.{◌≡◌, ℕ, ◌%◌, List, ◌++◌}
use Rattle.case_file.specs.Line.{weighted}
use Rattle.case_file.specs.Line.Laws.{total}
use Rattle.case_file.proofs.line.checksum.Given as goal

abbrev pub invariant-loop-byte : goal.invariant-loop-byte
invariant-loop-byte l =
    (after : List ℕ) × (l.bytes ≡ l.byte-iterator.iter.rest.now ++ after) × (l.tail ≡ total after % 65521) × (l.sum ≡ weighted 1 after % 65521)
