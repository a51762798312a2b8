-- `Turned::all_known` meets its contract. The loop's invariant: the characters passed are judged by their marks together.
use Rattle.c40_write.specs.Turned.Laws.{Judged}
use Rattle.c40_write.proofs.turned.Turned.all_known.Given as goal

abbrev pub invariant-loop-c : goal.invariant-loop-c
invariant-loop-c l = Judged l.text l.c-index l.marks
