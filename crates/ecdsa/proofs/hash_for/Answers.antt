-- `ecdsa::hash_for` meets its contract, one size a case.
-- Assumes nothing.
use native.Mathlib.Omega.{arith}
use mathlib.Core.Path.{ap, sym}
use Rattle.ecdsa.specs.Calls.{hash_for}
use Rattle.ecdsa.specs.Calls.Laws.{no_hash}
use Rattle.ecdsa.proofs.hash_for.Goals as goal

pub returns-in-28 : goal.returns-in-28
unfolding hash_for
returns-in-28 c = ap hash_for (sym c.in-28.is)

pub returns-in-32 : goal.returns-in-32
unfolding hash_for
returns-in-32 c = ap hash_for (sym c.in-32.is)

pub returns-in-48 : goal.returns-in-48
unfolding hash_for
returns-in-48 c = ap hash_for (sym c.in-48.is)

pub returns-in-64 : goal.returns-in-64
unfolding hash_for
returns-in-64 c = ap hash_for (sym c.in-64.is)

pub returns-in-66 : goal.returns-in-66
unfolding hash_for
returns-in-66 c = ap hash_for (sym c.in-66.is)

pub returns-in_default : goal.returns-in_default
returns-in_default c = no_hash _ (omega arith) (omega arith) (omega arith) (omega arith) (omega arith)
