-- `der_form::put_head` meets its contract: the tag, and the length behind it.
-- Assumes nothing.
use native.Mathlib.Omega.{arith}
use mathlib.Core.Path.{◌∙◌, ap}
use mathlib.Core.List.{[], ◌∷◌}
use lib.ListN.{set}
use Rattle.format.proofs.Buffer.Laws.{set_over}
use Rattle.octets.specs.Copy.{copied}
use Rattle.der.specs.Length.{form}
use Rattle.der.proofs.Lengths.Written.{written_form}
use Rattle.ecdsa_to_der.specs.Places.Laws.{behind}
use Rattle.ecdsa_to_der.proofs.der_form.put_head.Goals as goal

pub returns : goal.returns
returns c =
    let out = c.args.out.now in
    let size = c.args.size in
    c.put_length.ensures.buffer
    ∙ ap (λ w. copied w (set out 0 0x30) 1) (written_form size (omega (arith, c.requires.0)))
    ∙ behind out (0x30 ∷ []) (form size) 0 (omega (arith, c.requires.1)) _ (set_over out 0 0x30 (omega (arith, c.requires.1)))
