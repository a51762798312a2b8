-- `front_seal::front` meets its contract: the mark, the version, and then the rest.
-- Assumes nothing.
use mathlib.Core.Path.{ap, sym, ◌∙◌}
use native.Mathlib.Omega.{arith}
use Rattle.versions.specs.Versions.{stated_of, version_of_byte}
use Rattle.front_seal.specs.Steps.Start.{two_there, no_bytes, no_mark, mark_alone, no_version, version_goes}
use Rattle.front_seal.proofs.front.Goals as goal

pub returns-then-n-eq0 : goal.returns-then-n-eq0
returns-then-n-eq0 c = no_bytes _ c.if-n-eq0.true

pub returns-then-seal : goal.returns-then-seal
returns-then-seal c = no_mark _ (omega (arith, c.if-n-eq0.false)) c.if-seal.true

pub returns-then-n-eq1 : goal.returns-then-n-eq1
returns-then-n-eq1 c = mark_alone _ c.if-n-eq1.true c.if-seal.false

pub returns-in_default : goal.returns-in_default
returns-in_default c =
    no_version _ (two_there _ c.if-n-eq0.false c.if-n-eq1.false) c.if-seal.false
    (sym (ap stated_of c.in_default.is) ∙ c.from_byte.ensures ∙ ap version_of_byte c.wide.ensures)

pub returns : goal.returns
returns c =
    version_goes _ _ (two_there _ c.if-n-eq0.false c.if-n-eq1.false) c.if-seal.false
    (sym (ap stated_of c.in-Ok.is) ∙ c.from_byte.ensures ∙ ap version_of_byte c.wide.ensures)
    _ c.country_front.ensures
