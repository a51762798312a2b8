-- `put_length` meets its contract: a plain byte, or the bytes of the DER form in stores one after another.
-- Assumes nothing.
use native.Mathlib.Omega.{arith}
use mathlib.Core.Path.{◌≡◌, ◌∙◌, ap, sym, subst}
use lib.ListN.{length, length-set}
use Rattle.std.specs.Prelude.{Option, Some}
use Rattle.der.specs.Length.{bytes_of}
use Rattle.der.proofs.Lengths.Written.{written_some}
use Rattle.der.specs.declared.Form.{Form}
use Rattle.grammar.specs.Legal.{ValueSize}
use Rattle.grammar.specs.Publish.{length_of}
use Rattle.writer.specs.Put.{put_one, put_two, put_three}
use Rattle.write_size.specs.SealSize.Laws.{length_plain, length_der}
use Rattle.writer.proofs.put.put_length.Goals as goal
use Rattle.writer.proofs.put.put_length.Goals.{After-length_form}

form : (c : After-length_form) (f : Option Form) → c.length_form.result ≡ f →
    length_of c.args.version c.args.size ≡ bytes_of f
form c f e =
    sym (length_der c.args.version c.args.size c.in_default.is c.requires.0.0)
    ∙ ap bytes_of (sym c.length_form.ensures ∙ e)

-- a form that is there is one of the three
there : {r : Option Form} {f g : Form} → r ≡ Some f → f ≡ g → r ≡ Some g
there e same = e ∙ ap (λ f. Some f) same

pub overflow_cast-out : goal.overflow_cast-out
overflow_cast-out c =
    omega (arith, subst (λ v. ValueSize v c.args.size) c.in-Three.is c.requires.0.1)

pub bounds-out-at : goal.bounds-out-at
bounds-out-at c =
    omega (arith, ap length (length_plain c.args.version c.args.size c.in-Three.is), c.requires.1)

pub returns-in-Three : goal.returns-in-Three
returns-in-Three c =
    let a = c.args in
    let p = put_one a.out.now a.at a.size _ (length_plain a.version a.size c.in-Three.is) c.requires.1 in
    record { place = p.0; buffer = p.1 }

pub bounds-out-at-in-Some-One : goal.bounds-out-at-in-Some-One
bounds-out-at-in-Some-One c =
    let e = form (goal.at.bounds-out-at-in-Some-One c).After-length_form _ (there c.in-Some-One.is c.in-Some-One.field-0-is) in
    omega (arith, ap length e, c.requires.1)

pub bounds-out-at-in-Some-Two : goal.bounds-out-at-in-Some-Two
bounds-out-at-in-Some-Two c =
    let e = form (goal.at.bounds-out-at-in-Some-Two c).After-length_form _ (there c.in-Some-Two.is c.in-Some-Two.field-0-is) in
    omega (arith, ap length e, c.requires.1)

pub bounds-out-at-in-Some-Two-2 : goal.bounds-out-at-in-Some-Two-2
bounds-out-at-in-Some-Two-2 c =
    let e = form (goal.at.bounds-out-at-in-Some-Two-2 c).After-length_form _ (there c.in-Some-Two.is c.in-Some-Two.field-0-is) in
    simp length-set (omega (arith, ap length e, c.requires.1))

pub bounds-out-at-in-Some-Three : goal.bounds-out-at-in-Some-Three
bounds-out-at-in-Some-Three c =
    let e = form (goal.at.bounds-out-at-in-Some-Three c).After-length_form _ (there c.in-Some-Three.is c.in-Some-Three.field-0-is) in
    omega (arith, ap length e, c.requires.1)

pub bounds-out-at-in-Some-Three-2 : goal.bounds-out-at-in-Some-Three-2
bounds-out-at-in-Some-Three-2 c =
    let e = form (goal.at.bounds-out-at-in-Some-Three-2 c).After-length_form _ (there c.in-Some-Three.is c.in-Some-Three.field-0-is) in
    simp length-set (omega (arith, ap length e, c.requires.1))

pub bounds-out-at-in-Some-Three-3 : goal.bounds-out-at-in-Some-Three-3
bounds-out-at-in-Some-Three-3 c =
    let e = form (goal.at.bounds-out-at-in-Some-Three-3 c).After-length_form _ (there c.in-Some-Three.is c.in-Some-Three.field-0-is) in
    simp length-set (omega (arith, ap length e, c.requires.1))

pub returns-in-Some-One : goal.returns-in-Some-One
returns-in-Some-One c =
    let e = form (goal.at.returns-in-Some-One c).After-length_form _ (there c.in-Some-One.is c.in-Some-One.field-0-is) in
    let p = put_one c.args.out.now c.args.at _ _ e c.requires.1 in
    record { place = p.0; buffer = p.1 }

pub returns-in-Some-Two : goal.returns-in-Some-Two
returns-in-Some-Two c =
    let e = form (goal.at.returns-in-Some-Two c).After-length_form _ (there c.in-Some-Two.is c.in-Some-Two.field-0-is) in
    let p = put_two c.args.out.now c.args.at _ _ _ e c.requires.1 in
    record { place = p.0; buffer = p.1 }

pub returns-in-Some-Three : goal.returns-in-Some-Three
returns-in-Some-Three c =
    let e = form (goal.at.returns-in-Some-Three c).After-length_form _ (there c.in-Some-Three.is c.in-Some-Three.field-0-is) in
    let p = put_three c.args.out.now c.args.at _ _ _ _ e c.requires.1 in
    record { place = p.0; buffer = p.1 }

pub returns-in-None : goal.returns-in-None
returns-in-None c =
    let none = form (goal.at.returns-in-None c).After-length_form _ c.in-None.is in
    let same = length_der c.args.version c.args.size c.in_default.is c.requires.0.0 in
    absurd (omega (arith, ap length none, ap length same, (written_some c.args.size (omega (arith, c.requires.0.0))).0))
