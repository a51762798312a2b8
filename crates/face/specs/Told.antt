-- The one step of the proofs of the tables: an answer that is shown by its case is shown by the answer itself.
-- Assumes nothing.
use Rattle.std.specs.Prelude.{◌≡◌}
use Rattle.std.proofs.Common.{ap, sym, ◌∙◌}

pub told_by : {A B : Type 0} (f : A → B) {r : B} {a b : A} → r ≡ f b → a ≡ b → r ≡ f a
told_by f p e = p ∙ sym (ap f e)
