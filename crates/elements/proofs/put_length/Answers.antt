-- `elements::put_length` meets its contract: the bytes of the form in stores one after another, where there is room for all of them.
-- Assumes nothing.
use native.Mathlib.Omega.{arith}
use native.Mathlib.Nat.{add-zero}
use mathlib.Core.Path.{◌≡◌, ◌∙◌, ap, sym}
use Prim.Native.Nat.{◌+◌, ◌≤◌}
use lib.ListN.{length, length-set}
use Rattle.format.proofs.Buffer.Laws.{over_none, set_over, over_two, over_three}
use Rattle.der.specs.Length.{bytes_of, written}
use Rattle.der.proofs.Lengths.Written.{put_not, put_all}
use Rattle.std.specs.Prelude.{Option, Some}
use Rattle.der.specs.declared.Form.{Form}
use Rattle.elements.proofs.put_length.Goals as goal
use Rattle.elements.proofs.put_length.Goals.{After-length_form}

fits : (c : After-length_form) → c.args.at + length (written c.args.size) ≤ length c.args.out.now
fits c = omega (arith, c.length_width.ensures, c.if-room-at-2.false, c.if-room-at.false)

-- and its bytes are those written
bytes : (c : After-length_form) (f : Option Form) → c.length_form.result ≡ f → written c.args.size ≡ bytes_of f
bytes c f e = ap bytes_of (sym c.length_form.ensures ∙ e)

-- a form that is there is one of the three
there : {r : Option Form} {f g : Form} → r ≡ Some f → f ≡ g → r ≡ Some g
there e same = e ∙ ap (λ f. Some f) same

pub bounds-out-at-in-Some-Three-2 : goal.bounds-out-at-in-Some-Three-2
bounds-out-at-in-Some-Three-2 c =
    let e = bytes (goal.at.bounds-out-at-in-Some-Three-2 c).After-length_form _ (there c.in-Some-Three.is c.in-Some-Three.field-0-is) in
    simp length-set (omega (arith, fits (goal.at.bounds-out-at-in-Some-Three-2 c).After-length_form, ap length e))

pub bounds-out-at-in-Some-Three-3 : goal.bounds-out-at-in-Some-Three-3
bounds-out-at-in-Some-Three-3 c =
    let e = bytes (goal.at.bounds-out-at-in-Some-Three-3 c).After-length_form _ (there c.in-Some-Three.is c.in-Some-Three.field-0-is) in
    simp length-set (omega (arith, fits (goal.at.bounds-out-at-in-Some-Three-3 c).After-length_form, ap length e))

pub returns-in-Some-One : goal.returns-in-Some-One
returns-in-Some-One c =
    let e = bytes (goal.at.returns-in-Some-One c).After-length_form _ (there c.in-Some-One.is c.in-Some-One.field-0-is) in
    let a = c.args in
    let w = put_all a.size a.out.now a.at _ e (fits (goal.at.returns-in-Some-One c).After-length_form) _ (set_over _ _ _ (omega (arith, fits (goal.at.returns-in-Some-One c).After-length_form, ap length e))) in
    record { place = w.0; buffer = w.1 }

pub returns-in-Some-Two : goal.returns-in-Some-Two
returns-in-Some-Two c =
    let e = bytes (goal.at.returns-in-Some-Two c).After-length_form _ (there c.in-Some-Two.is c.in-Some-Two.field-0-is) in
    let a = c.args in
    let w = put_all a.size a.out.now a.at _ e (fits (goal.at.returns-in-Some-Two c).After-length_form) _ (over_two _ _ _ _ (omega (arith, fits (goal.at.returns-in-Some-Two c).After-length_form, ap length e))) in
    record { place = w.0; buffer = w.1 }

pub returns-in-Some-Three : goal.returns-in-Some-Three
returns-in-Some-Three c =
    let e = bytes (goal.at.returns-in-Some-Three c).After-length_form _ (there c.in-Some-Three.is c.in-Some-Three.field-0-is) in
    let a = c.args in
    let w = put_all a.size a.out.now a.at _ e (fits (goal.at.returns-in-Some-Three c).After-length_form) _ (over_three _ _ _ _ _ (omega (arith, fits (goal.at.returns-in-Some-Three c).After-length_form, ap length e))) in
    record { place = w.0; buffer = w.1 }

pub returns-in-None : goal.returns-in-None
returns-in-None c =
    let a = c.args in
    let all = put_all a.size a.out.now a.at _ (bytes (goal.at.returns-in-None c).After-length_form _ c.in-None.is) (fits (goal.at.returns-in-None c).After-length_form) _ (sym (over_none _ _)) in
    record { place = sym (add-zero a.at) ∙ all.0; buffer = all.1 }

pub returns-then-room-at : goal.returns-then-room-at
returns-then-room-at c =
    let a = c.args in
    let w = put_not a.size a.out.now a.at (omega arith) in
    record { place = w.0; buffer = w.1 }

pub returns-then-room-at-2 : goal.returns-then-room-at-2
returns-then-room-at-2 c =
    let a = c.args in
    let w = put_not a.size a.out.now a.at (omega (arith, c.length_width.ensures)) in
    record { place = w.0; buffer = w.1 }

pub bounds-out-at : goal.bounds-out-at
bounds-out-at c =
    let e = bytes (goal.at.bounds-out-at c).After-length_form _ (there c.in-Some-One.is c.in-Some-One.field-0-is) in
    omega (arith, fits (goal.at.bounds-out-at c).After-length_form, ap length e)

pub bounds-out-at-in-Some-Two : goal.bounds-out-at-in-Some-Two
bounds-out-at-in-Some-Two c =
    let e = bytes (goal.at.bounds-out-at-in-Some-Two c).After-length_form _ (there c.in-Some-Two.is c.in-Some-Two.field-0-is) in
    omega (arith, fits (goal.at.bounds-out-at-in-Some-Two c).After-length_form, ap length e)

pub bounds-out-at-in-Some-Two-2 : goal.bounds-out-at-in-Some-Two-2
bounds-out-at-in-Some-Two-2 c =
    let e = bytes (goal.at.bounds-out-at-in-Some-Two-2 c).After-length_form _ (there c.in-Some-Two.is c.in-Some-Two.field-0-is) in
    simp length-set (omega (arith, fits (goal.at.bounds-out-at-in-Some-Two-2 c).After-length_form, ap length e))

pub bounds-out-at-in-Some-Three : goal.bounds-out-at-in-Some-Three
bounds-out-at-in-Some-Three c =
    let e = bytes (goal.at.bounds-out-at-in-Some-Three c).After-length_form _ (there c.in-Some-Three.is c.in-Some-Three.field-0-is) in
    omega (arith, fits (goal.at.bounds-out-at-in-Some-Three c).After-length_form, ap length e)
