-- `der_form::start_of` meets its contract. The loop's invariant: the bytes passed are zeros that the shortest form does without.
-- Assumes nothing.
use native.Mathlib.Omega.{arith}
use mathlib.Core.Path.{◌≡◌, refl, subst}
use Prim.Native.Nat.{◌-◌}
use mathlib.Core.List.{◌∷◌}
use lib.ListN.{length, drop}
use Rattle.der.specs.Content.{shortest}
use Rattle.ecdsa.specs.Signature.Laws.{start_more, start_here, start_last}
use Rattle.ecdsa_to_der.proofs.der_form.start_of.Goals as goal

pub loop-k-init : goal.loop-k-init
loop-k-init c = refl

pub returns-then-number-k-ne0 : goal.returns-then-number-k-ne0
returns-then-number-k-ne0 c = (omega arith, start_here _ _ (omega arith) c.loop-k.invariant c.if-number-k-ne0.true)

pub loop-k-preserved : goal.loop-k-preserved
loop-k-preserved c = start_more _ _ (omega arith) c.loop-k.invariant (omega arith) c.if-number-k-ne0.false

-- past all but the last byte
pub returns : goal.returns
returns c =
    let s = c.args.number.now in
    let end : c.loop-k.k ≡ length s - 1 = omega arith in
    (omega arith, start_last _ _ (omega arith) (subst (λ k. shortest (0 ∷ s) ≡ shortest (0 ∷ drop k s)) end c.loop-k.invariant) (omega arith))
