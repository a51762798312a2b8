-- `der_form::head_of` meets its contract.
-- Assumes nothing.
use native.Mathlib.Omega.{arith}
use mathlib.Core.Path.{◌≡◌, ◌∙◌, ap}
use mathlib.Core.List.{◌∷◌}
use Prim.Native.Nat.{◌+◌}
use lib.ListN.{length}
use Rattle.der.specs.Length.{form}
use Rattle.der.proofs.Lengths.Written.{written_form}
use Rattle.ecdsa.specs.Signature.Laws.{head_most}
use Rattle.ecdsa_to_der.proofs.der_form.head_of.Goals as goal
use Rattle.ecdsa_to_der.proofs.der_form.head_of.Goals.{After-length_width}

-- tag and length
head : (c : After-length_width) → 1 + c.length_width.result ≡ length (0x30 ∷ form c.args.size)
head c = omega (arith, c.length_width.ensures ∙ ap length (written_form c.args.size (omega (arith, c.requires))))

pub overflow_add-result : goal.overflow_add-result
overflow_add-result c = omega (arith, head c, head_most c.args.size c.requires)

pub returns : goal.returns
returns c = head c
