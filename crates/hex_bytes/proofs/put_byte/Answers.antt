-- `hex_bytes::put_byte` meets its contract: a space, the first digit, the last.
-- Assumes nothing.
use native.Mathlib.Omega.{arith}
use mathlib.Core.Path.{◌≡◌, ap, ◌∙◌}
use Prim.Native.Nat.{◌/◌, ◌%◌}
use Rattle.format.specs.Hex.{hex_digit}
use Rattle.hex_bytes.proofs.Shown.Laws.{byte_put}
use Rattle.hex_bytes.proofs.put_byte.Goals as goal

pub returns : goal.returns
returns c =
    let byte = c.args.byte in
    let high : c.wide-n.result / 16 % 16 ≡ byte / 16 = omega (arith, c.wide-n.ensures) in
    let one : c.hex_digit.result ≡ hex_digit (byte / 16) = c.hex_digit.ensures ∙ ap (λ k. hex_digit k) high in
    let two : c.hex_digit-2.result ≡ hex_digit (byte % 16) =
    c.hex_digit-2.ensures ∙ ap (λ k. hex_digit (k % 16)) c.wide-n.ensures in
    byte_put byte _ _ one two _ _ _ _ c.put.ensures c.put-2.ensures c.put-3.ensures
