-- `read_names::text::field` meets its contract: the text that was read, judged by the rules of its kind.
-- Assumes nothing.
use native.Mathlib.Omega.{arith}
use mathlib.Core.Path.{◌≡◌, ◌∙◌}
use Prim.Native.Nat.{ℕ, ◌≤◌, ◌<◌}
use lib.ListN.{length}
use mathlib.Core.List.{List}
use Rattle.read_names.specs.Meaning.{Fits}
use Rattle.read_names.specs.declared.rules.Kind.{Kind}
use Rattle.read_names.specs.declared.rules.Kind.TheVariants as kind
use Rattle.read_names.proofs.text.field.Goals as goal
use Rattle.read_names.proofs.text.field.Goals.{After-coded}

abbrev out : After-coded → List ℕ
out c = c.coded.new.text

-- every kind of text has 1 to 255 characters
some : (k : Kind) (t : List ℕ) → Fits k t → (0 < length t) × (length t ≤ 255)
some kind.Country t h = (omega arith, omega arith)
some kind.Nine t h = (omega arith, omega arith)
some kind.Six t h = (omega arith, omega arith)
some kind.Reference t h = h

-- and a text of the same length fits as well
again : (k : Kind) (t u : List ℕ) → length u ≡ length t → Fits k t → Fits k u
again kind.Country t u e h = e ∙ h
again kind.Nine t u e h = e ∙ h
again kind.Six t u e h = e ∙ h
again kind.Reference t u e h = (omega arith, omega arith)

pub coded-requires : goal.coded-requires
coded-requires c = some c.args.kind c.args.text.now c.requires

pub judge-requires : goal.judge-requires
judge-requires c =
    again c.args.kind c.args.text.now (out (goal.at.judge-requires c).After-coded) (omega arith) c.requires
