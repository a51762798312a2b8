-- `read_names::rules::in_six` meets its contract: the signer, the two digits, and that they are not 00.
-- Assumes nothing.
use native.Mathlib.Omega.{arith}
use mathlib.Core.Path.{◌≡◌, ◌∙◌, ap, sym}
use mathlib.Core.Bool.{true}
use mathlib.Core.List.{List}
use Prim.Native.Nat.{ℕ, ◌≤◌, ◌<◌}
use lib.ListN.{take, get_or}
use Rattle.format.specs.Hex.{hex_value}
use Rattle.format.proofs.Hex.Laws.{value_most}
use Rattle.fields.specs.Characters.{is_signer}
use Rattle.format.specs.Places.{first_four}
use Rattle.causes.specs.declared.Rule.TheVariants as rule
use Rattle.read_names.specs.Meaning.Rules.{breaks, six_first, six_second, six_none, six_is}
use Rattle.read_names.proofs.rules.in_six.Goals as goal
use Rattle.read_names.proofs.rules.in_six.Goals.{After-hex_value-low, After-is_signer, Else-high-eq16, Else-low-eq16}

abbrev text : After-is_signer → List ℕ
text c = c.args.text.now

abbrev whole : After-hex_value-low → List ℕ
whole c = text (goal.at.After-hex_value-low c).After-is_signer

-- what the test of the signer says
signer : (on : After-is_signer) → on.is_signer.result ≡ is_signer (take 4 (text on))
signer c = c.is_signer.ensures ∙ ap is_signer (first_four (text c) (omega arith))

-- past the signer: what the two digits stand for
record Digits (on : After-hex_value-low) : Type 0 where
  passes : is_signer (take 4 (whole on)) ≡ true
  high : on.hex_value-high.result ≡ hex_value (get_or (whole on) 4 0)
  low : on.hex_value-low.result ≡ hex_value (get_or (whole on) 5 0)
  high_most : hex_value (get_or (whole on) 4 0) ≤ 16
  low_most : hex_value (get_or (whole on) 5 0) ≤ 16

digits : (on : After-hex_value-low) → Digits on
digits c =
    record {
      passes = sym (signer (goal.at.After-hex_value-low c).After-is_signer) ∙ c.if-not-is_signer.false;
      high = c.hex_value-high.ensures;
      low = c.hex_value-low.ensures;
      high_most = value_most (get_or (whole c) 4 0);
      low_most = value_most (get_or (whole c) 5 0);
    }

-- a digit that is not 16 is below it
below_high : (c : Else-high-eq16) → hex_value (get_or (whole (goal.at.Else-high-eq16 c).After-hex_value-low) 4 0) < 16
below_high c = let d = digits (goal.at.Else-high-eq16 c).After-hex_value-low in omega (arith, c.if-high-eq16.false)

below_low : (c : Else-low-eq16) → hex_value (get_or (whole (goal.at.Else-low-eq16 c).After-hex_value-low) 5 0) < 16
below_low c = let d = digits (goal.at.Else-low-eq16 c).After-hex_value-low in omega (arith, c.if-low-eq16.false)

pub returns-then-not-is_signer : goal.returns-then-not-is_signer
returns-then-not-is_signer c = breaks _ rule.SignerCharacters _ (sym (signer (goal.at.returns-then-not-is_signer c).After-is_signer) ∙ c.if-not-is_signer.true)

pub returns-then-high-eq16 : goal.returns-then-high-eq16
returns-then-high-eq16 c =
    let d = digits (goal.at.returns-then-high-eq16 c).After-hex_value-low in
    six_first (whole (goal.at.returns-then-high-eq16 c).After-hex_value-low) d.passes (sym d.high ∙ c.if-high-eq16.true)

pub returns-then-low-eq16 : goal.returns-then-low-eq16
returns-then-low-eq16 c =
    let d = digits (goal.at.returns-then-low-eq16 c).After-hex_value-low in
    six_second (whole (goal.at.returns-then-low-eq16 c).After-hex_value-low) d.passes (below_high (goal.at.returns-then-low-eq16 c).Else-high-eq16) (sym d.low ∙ c.if-low-eq16.true)

pub overflow_add-high : goal.overflow_add-high
overflow_add-high c = let d = digits (goal.at.overflow_add-high c).After-hex_value-low in omega arith

pub returns-then-high-low-eq0 : goal.returns-then-high-low-eq0
returns-then-high-low-eq0 c =
    let d = digits (goal.at.returns-then-high-low-eq0 c).After-hex_value-low in
    six_none (whole (goal.at.returns-then-high-low-eq0 c).After-hex_value-low) d.passes (below_high (goal.at.returns-then-high-low-eq0 c).Else-high-eq16) (below_low (goal.at.returns-then-high-low-eq0 c).Else-low-eq16) (omega (arith, c.if-high-low-eq0.true))

pub returns : goal.returns
returns c =
    let d = digits (goal.at.returns c).After-hex_value-low in
    six_is (whole (goal.at.returns c).After-hex_value-low) d.passes (below_high (goal.at.returns c).Else-high-eq16) (below_low (goal.at.returns c).Else-low-eq16) (λ e. c.if-high-low-eq0.false (omega arith))
