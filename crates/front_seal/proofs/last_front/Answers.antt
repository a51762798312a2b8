-- `front_seal::last_front` meets its contract: no byte, 1 to 254, 0, or 255.
-- Assumes nothing.
use borrow.Author.Rules.{rules}
use native.Mathlib.Omega.{arith}
use Rattle.front_seal.specs.Steps.{last_none, last_zero, last_high, last_good}
use Rattle.front_seal.proofs.last_front.Goals as goal

pub returns-then-seal-at : goal.returns-then-seal-at
returns-then-seal-at c = search (rules, last_none)

pub returns-in-1-to-254 : goal.returns-in-1-to-254
returns-in-1-to-254 c = last_good c.args.seal.now c.args.at (omega arith) (λ e. omega (arith, e)) (λ e. omega (arith, e)) (omega arith)

pub returns-in_default : goal.returns-in_default
returns-in_default c = last_zero c.args.seal.now c.args.at (omega arith) (omega arith)

pub returns-in_default-2 : goal.returns-in_default-2
returns-in_default-2 c = last_high c.args.seal.now c.args.at (omega arith) (omega (arith, (c.type_inv.seal c.args.at).fits))
