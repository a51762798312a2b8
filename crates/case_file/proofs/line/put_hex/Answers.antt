-- `case_file::line::put_hex` meets its contract.
-- Assumes nothing.
use Rattle.std.proofs.Common.{◌≡◌, ap, ◌∙◌, ◌/◌, ◌%◌, get_or, arith}
use Rattle.format.specs.Hex.{hex_digit}
use Rattle.case_file.specs.Line.{hex_of}
use Rattle.case_file.specs.Line.Laws.{puts_none, hex_turn}
use Rattle.case_file.proofs.line.put_hex.Goals as goal
use Rattle.case_file.proofs.line.put_hex.Goals.{After-hex_digit, After-hex_digit-in-loop-byte}

-- the two digits of the byte of a turn
digits : (c : After-hex_digit) → c.hex_digit.result ≡ hex_digit (get_or c.args.bytes.now c.loop-byte.byte-index 0 / 16)
digits c =
    let small = c.type_inv.bytes c.loop-byte.byte-index in
    let e : c.wide-b.result / 16 % 16 ≡ get_or c.args.bytes.now c.loop-byte.byte-index 0 / 16 = omega (arith, c.wide-b.ensures, small) in
    c.hex_digit.ensures ∙ ap (λ n. hex_digit n) e

last : (c : After-hex_digit-in-loop-byte) → c.hex_digit-in-loop-byte.result ≡ hex_digit (get_or c.args.bytes.now c.loop-byte.byte-index 0 % 16)
last c = c.hex_digit-in-loop-byte.ensures ∙ ap (λ n. hex_digit (n % 16)) c.wide-b.ensures

pub loop-byte-init : goal.loop-byte-init
unfolding hex_of
loop-byte-init c = puts_none _

pub loop-byte-preserved : goal.loop-byte-preserved
loop-byte-preserved c =
    let d = digits (goal.at.loop-byte-preserved c).After-hex_digit in
    let e = last (goal.at.loop-byte-preserved c).After-hex_digit-in-loop-byte in
    hex_turn c.args.bytes.now c.loop-byte.byte-index c.loop-byte-test.true _ _ _ _ _ _ d e c.loop-byte.invariant c.put.ensures
    c.put-in-loop-byte.ensures
