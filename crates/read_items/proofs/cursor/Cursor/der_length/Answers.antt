-- `Cursor::der_length` meets its contract: the length that is read at the place.
-- Assumes nothing.
use native.Mathlib.Omega.{arith}
use mathlib.Core.Path.{◌≡◌, ◌∙◌, ap, sym}
use Prim.Native.Nat.{◌-◌, ◌≤◌}
use lib.ListN.{length, drop, length-drop}
use Rattle.format.specs.Places.{to_end}
use Rattle.format.specs.Bytes.Laws.{bytes_drop}
use Rattle.der.specs.Length.{read_length}
use Rattle.der.proofs.Lengths.Exact.{read_is_form}
use Rattle.verdict.specs.Items.{not, der_of}
use Rattle.read_items.specs.Meaning.Laws.{der_past}
use Rattle.read_items.proofs.cursor.Cursor.der_length.Goals as goal
use Rattle.read_items.proofs.cursor.Cursor.der_length.Goals.{After-read_length}

-- what is read is the length at the place
read :
    (c : After-read_length) →
    c.read_length.result
    ≡ read_length (drop c.args.self.place c.args.seal.now)
read c =
    let a = c.args in
    let s = a.seal.now in
    let at = a.self.place in
    c.read_length.ensures ∙ ap read_length (to_end s at)

pub returns-then-seal-at : goal.returns-then-seal-at
returns-then-seal-at c =
    let a = c.args in
    ap (λ b. not b.rule b.place) c.breaks.ensures ∙ der_past a.self.place a.seal.now (omega arith)

pub overflow_add-result : goal.overflow_add-result
overflow_add-result c =
    let a = c.args in
    let s = a.seal.now in
    let at = a.self.place in
    let taken = read_is_form (drop at s) (bytes_drop at s (λ i. (c.type_inv.seal i).fits)) _ _
    (sym (read (goal.at.overflow_add-result c).After-read_length) ∙ c.in-Ok.is) in
    let inside : c.in-Ok.width ≤ length s - at = omega (arith, taken.there, length-drop at s) in
    omega (arith, inside)

pub returns-in-Ok : goal.returns-in-Ok
returns-in-Ok c =
    let at = c.args.self.place in
    ap (der_of at) (sym c.in-Ok.is ∙ read (goal.at.returns-in-Ok c).After-read_length)

pub returns-in-Err : goal.returns-in-Err
returns-in-Err c =
    let at = c.args.self.place in
    ap (λ b. not b.rule b.place) c.breaks-in-Err.ensures ∙ ap (λ r. not r at) c.length_rule.ensures ∙ ap (der_of at) (sym c.in-Err.is ∙ read (goal.at.returns-in-Err c).After-read_length)
