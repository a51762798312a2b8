-- `der_form::start_of` meets its contract. The loop's invariant: the bytes passed are zeros that the shortest form does without.
use mathlib.Core.Path.{◌≡◌}
use mathlib.Core.List.{◌∷◌}
use lib.ListN.{drop}
use Rattle.der.specs.Content.{shortest}
use Rattle.ecdsa_to_der.proofs.der_form.start_of.Given as goal

abbrev pub invariant-loop-k : goal.invariant-loop-k
invariant-loop-k l = shortest (0 ∷ l.number) ≡ shortest (0 ∷ drop l.k l.number)
