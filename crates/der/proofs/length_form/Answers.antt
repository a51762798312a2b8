-- `der::length_form` meets its contract.
-- Assumes nothing.
use native.Mathlib.Omega.{arith}
use mathlib.Core.Path.{◌≡◌, ap₂, ◌∙◌}
use Prim.Native.Nat.{◌/◌}
use Rattle.std.specs.Prelude.{Some}
use Rattle.der.specs.declared.Form.TheVariants.{Three}
use Rattle.der.proofs.Lengths.Written.{form_one, form_two, form_three, form_longer}
use Rattle.der.proofs.length_form.Goals as goal

pub returns-then-size-lt128 : goal.returns-then-size-lt128
returns-then-size-lt128 c = form_one c.args.size (omega arith)

pub returns-then-size-lt256 : goal.returns-then-size-lt256
returns-then-size-lt256 c = form_two c.args.size (omega arith) (omega arith)

pub returns-then-size-lt65536 : goal.returns-then-size-lt65536
returns-then-size-lt65536 c =
    let n = c.args.size in
    let high : c.low.result ≡ n / 256 = omega (arith, c.low.ensures) in
    ap₂ (λ b c. Some (Three 0x82 b c)) high c.low-then-size-lt65536.ensures ∙ form_three n (omega arith) (omega arith)

pub returns : goal.returns
returns c = form_longer c.args.size (omega arith)
