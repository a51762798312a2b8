-- `read_names::rules::in_nine` meets its contract: the test of the signer, and then the reference's.
-- Assumes nothing.
use native.Mathlib.Omega.{arith}
use mathlib.Core.Path.{◌≡◌, ◌∙◌, ap, sym}
use Prim.Native.Nat.{ℕ}
use mathlib.Core.List.{List}
use lib.ListN.{take}
use Rattle.fields.specs.Characters.{is_signer}
use Rattle.format.specs.Places.{first_four, to_end}
use Rattle.causes.specs.declared.Rule.TheVariants as rule
use Rattle.verdict.specs.Items.{in_reference}
use Rattle.read_names.specs.Meaning.Rules.{breaks, keeps}
use Rattle.read_names.proofs.rules.in_nine.Goals as goal
use Rattle.read_names.proofs.rules.in_nine.Goals.{After-is_signer}

abbrev text : After-is_signer → List ℕ
text c = c.args.text.now

-- what the test of the signer says
signer : (on : After-is_signer) → on.is_signer.result ≡ is_signer (take 4 (text on))
signer c = c.is_signer.ensures ∙ ap is_signer (first_four (text c) (omega arith))

pub returns-then-is_signer : goal.returns-then-is_signer
returns-then-is_signer c =
    c.in_reference.ensures ∙ ap in_reference (to_end (text (goal.at.returns-then-is_signer c).After-is_signer) 4)
    ∙ keeps _ rule.SignerCharacters _ (sym (signer (goal.at.returns-then-is_signer c).After-is_signer) ∙ c.if-is_signer.true)

pub returns : goal.returns
returns c = breaks _ rule.SignerCharacters _ (sym (signer (goal.at.returns c).After-is_signer) ∙ c.if-is_signer.false)
