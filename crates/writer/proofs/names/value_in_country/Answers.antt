-- `value_in_country` meets its contract: a filler is carried as a space, and any other character is a letter.
-- Assumes nothing.
use native.Mathlib.Omega.{arith}
use mathlib.Core.Path.{ap, ◌∙◌}
use mathlib.Core.Logic.{⊎_elim}
use Prim.Native.Nat.{◌-◌}
use Rattle.grammar.specs.Legal.{Letter}
use Rattle.writer.specs.PutNames.{filler_value, country_value}
use Rattle.writer.proofs.names.value_in_country.Goals as goal
use Rattle.writer.proofs.names.value_in_country.Goals.{Else-c-eq60}

letter : (c : Else-c-eq60) → Letter c.args.c
letter c = ⊎_elim (λ l. l) (λ f. absurd (c.if-c-eq60.false f)) c.requires

pub returns-then-c-eq60 : goal.returns-then-c-eq60
returns-then-c-eq60 c = filler_value _ c.if-c-eq60.true

pub overflow_sub-result : goal.overflow_sub-result
overflow_sub-result c = omega (arith, (letter (goal.at.overflow_sub-result c).Else-c-eq60).0)

pub returns : goal.returns
returns c =
    let l = letter (goal.at.returns c).Else-c-eq60 in ap (λ n. n - 51) c.wide.ensures ∙ country_value _ l.0 (omega (arith, l.1))
