-- `pair_front` meets its contract: a whole pair, or its first byte, or none.
-- Assumes nothing.
use native.Mathlib.Omega.{arith}
use mathlib.Core.Path.{◌≡◌, ◌∙◌, ap, sym}
use mathlib.Core.Bool.{false}
use Prim.Native.Nat.{◌+◌, ◌<◌}
use lib.ListN.{length, get_or}
use Rattle.format.specs.Choice.{pick}
use Rattle.front_pairs.specs.Pairs.{fits}
use Rattle.front_pairs.specs.Pairs.Laws.{front_end, front_whole, front_byte}
use Rattle.front_pairs.proofs.pair_front.Goals as goal
use Rattle.front_pairs.proofs.pair_front.Goals.{Joined-at-seal, then-at-seal+else-fits, else-at-seal}

-- no whole pair was found
off : (c : Joined-at-seal)
    → let a = c.args in
    let s = a.seal.now in
    a.at + 1 < length s → fits a.kind (get_or s a.at 0) (get_or s (a.at + 1) 0) ≡ false
off c h = elim c.if-at-seal.branch [
  | then-at-seal+else-fits w ↦ sym w.fits.ensures ∙ w.if-fits.false
  | else-at-seal w ↦ absurd (omega (arith, w.if-at-seal.false))
]

pub returns-then-seal-at : goal.returns-then-seal-at
returns-then-seal-at c = front_end _ _ _ c.if-seal-at.true

pub returns-then-fits : goal.returns-then-fits
returns-then-fits c = front_whole _ _ _ c.if-at-seal.true (sym c.fits.ensures ∙ c.if-fits.true)

pub returns-then-opens : goal.returns-then-opens
returns-then-opens c =
    let a = c.args in
    ap (λ b. pick b 1 0) (sym c.if-opens.true ∙ c.opens.ensures)
    ∙ front_byte a.kind a.seal.now a.at (omega arith) (off (goal.at.returns-then-opens c).Joined-at-seal)

pub returns : goal.returns
returns c =
    let a = c.args in
    ap (λ b. pick b 1 0) (sym c.if-opens.false ∙ c.opens.ensures)
    ∙ front_byte a.kind a.seal.now a.at (omega arith) (off (goal.at.returns c).Joined-at-seal)
