-- `case_file::line::put_words` meets its contract. The loop's invariant: the numbers so far are put down.
use Rattle.std.proofs.Common.{take}
use Rattle.lines.specs.Written.{Puts}
use Rattle.case_file.specs.Line.{words_of}
use Rattle.case_file.proofs.line.put_words.Given as goal

abbrev pub invariant-loop-number : goal.invariant-loop-number
invariant-loop-number l = Puts l.initial.line (words_of (take l.number-index l.numbers)) l.line
