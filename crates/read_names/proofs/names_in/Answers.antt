-- `read_names::names_in` meets its contract: version 3 is one field, version 4 is two, the second as long as the first says.
-- Assumes nothing.
use native.Mathlib.Omega.{arith}
use mathlib.Core.Path.{◌≡◌, ap, sym, subst, ◌∙◌}
use mathlib.Core.List.{List, ◌++◌}
use Prim.Native.Nat.{ℕ, ◌+◌, ◌*◌, ◌-◌, ◌≤◌}
use lib.ListN.{length, take, drop, get_or, length-append, length-drop}
use lib.Seq.{length-take-le}
use Rattle.format.proofs.Hex.Laws.{value_most}
use Rattle.causes.specs.declared.Item.TheVariants as item
use Rattle.verdict.specs.Items.{names, field, in_nine, in_six}
use Rattle.read_items.specs.Meaning.{step_of, refusal_of, through}
use Rattle.read_names.specs.Meaning.{measured}
use Rattle.read_names.specs.Meaning.Named.{names_three, names_three_not, names_six_not, Six, six_there, length_part, names_four}
use Rattle.read_names.specs.Meaning.Named.{names_four_not}
use Rattle.read_names.proofs.names_in.Goals as goal
use Rattle.read_names.proofs.names_in.Goals.{After-field-nine, After-field-six, After-hex_value-2, In-Three, In_default}

abbrev nine : After-field-nine → List ℕ
nine c = c.field-nine.new.text

abbrev six : After-field-six → List ℕ
six c = c.field-six.new.text

abbrev after : After-hex_value-2 → ℕ
after c = c.in-Ok-six.after.place

abbrev size : After-hex_value-2 → ℕ
size c = c.hex_value.result * 16 + c.hex_value-2.result

-- nine characters, and six, are asked for
length_nine : (on : In-Three) → length (take 9 on.args.text.now) ≡ 9
length_nine c = length-take-le 9 c.args.text.now (omega arith)

length_six : (on : In_default) → length (take 6 on.args.text.now) ≡ 6
length_six c = length-take-le 6 c.args.text.now (omega arith)

nine-read : (on : After-field-nine) →
    let args = on.args in
    step_of (nine on) on.field-nine.result ≡ field 9 in_nine args.at.place args.seal.now
nine-read c =
    let args = c.args in
    c.field-nine.ensures ∙ ap (λ k. field k in_nine args.at.place args.seal.now) (length_nine (goal.at.After-field-nine c).In-Three)

six-read-as : (on : After-field-six) →
    let args = on.args in
    step_of (six on) on.field-six.result ≡ field 6 in_six args.at.place args.seal.now
six-read-as c =
    let args = c.args in
    c.field-six.ensures ∙ ap (λ k. field k in_six args.at.place args.seal.now) (length_six (goal.at.After-field-six c).In_default)

pub overflow_mul-size : goal.overflow_mul-size
overflow_mul-size c =
    let t = six (goal.at.overflow_mul-size c).After-field-six ++ drop 6 c.args.text.now in
    let high : c.hex_value.result ≤ 16 = subst (λ k. k ≤ 16) (sym c.hex_value.ensures) (value_most (get_or t 4 0)) in
    omega arith

-- the six characters that were read, and the length that they give
six-read : (c : After-hex_value-2) →
    let args = c.args in
    Six args.at.place args.seal.now (six (goal.at.After-hex_value-2 c).After-field-six) (after c) (size c)
six-read c =
    let args = c.args in
    let long : length (six (goal.at.After-hex_value-2 c).After-field-six) ≡ 6 = omega (arith, length_six (goal.at.After-hex_value-2 c).In_default) in
    six_there args.at.place args.seal.now (six (goal.at.After-hex_value-2 c).After-field-six) (drop 6 args.text.now) (after c)
    c.hex_value.result c.hex_value-2.result long
    (sym (ap (step_of (six (goal.at.After-hex_value-2 c).After-field-six)) c.in-Ok-six.is) ∙ six-read-as (goal.at.After-hex_value-2 c).After-field-six) c.hex_value.ensures
    c.hex_value-2.ensures

-- the text after the first field has room for the longest reference, and the part that it is put into has its length
held : After-hex_value-2 → List ℕ
held c =
    six (goal.at.After-hex_value-2 c).After-field-six ++ drop 6 c.args.text.now

room : (c : After-hex_value-2) → 4 + size c ≤ length (held c)
unfolding held
room c =
    let read = six-read c in
    let text = c.args.text.now in
    let long : length (drop 6 text) ≡ 253 = length-drop 6 text ∙ omega arith in
    omega (arith, length-append (six (goal.at.After-hex_value-2 c).After-field-six) (drop 6 text))

part_size : (c : After-hex_value-2) → length (take (4 + size c - 4) (drop 4 (held c))) ≡ size c
part_size c = length_part (held c) (size c) (room c)

pub field-reference-requires : goal.field-reference-requires
unfolding held
field-reference-requires c =
    let read = six-read (goal.at.field-reference-requires c).After-hex_value-2 in
    let e = part_size (goal.at.field-reference-requires c).After-hex_value-2 in
    (omega arith, omega arith)

pub overflow_add-size-in_default-reference : goal.overflow_add-size-in_default-reference
overflow_add-size-in_default-reference c =
    let read = six-read (goal.at.overflow_add-size-in_default-reference c).After-hex_value-2 in
    omega (arith, read.most)

pub overflow_mul-width : goal.overflow_mul-width
overflow_mul-width c =
    let read = six-read (goal.at.overflow_mul-width c).After-hex_value-2 in
    omega (arith, read.most, c.threes-width.ensures)

pub slice_bounds-field-end-in-Three : goal.slice_bounds-field-end-in-Three
slice_bounds-field-end-in-Three c = sym (length_nine (goal.at.slice_bounds-field-end-in-Three c).In-Three)

pub returns-in_default-nine : goal.returns-in_default-nine
returns-in_default-nine c =
    let args = c.args in
    names_three_not args.at.place args.seal.now _ _ c.unread.result
    (sym (ap (step_of (nine (goal.at.returns-in_default-nine c).After-field-nine)) c.in_default-nine.is) ∙ nine-read (goal.at.returns-in_default-nine c).After-field-nine)
    (c.unread.ensures ∙ ap (λ r. refusal_of item.Names r) c.in_default-nine.is)
    ∙ ap (λ v. through measured (names v args.at.place args.seal.now)) (sym c.in-Three.is)

pub slice_bounds-field-end-3 : goal.slice_bounds-field-end-3
slice_bounds-field-end-3 c = sym (length_six (goal.at.slice_bounds-field-end-3 c).In_default)

pub returns-in_default-six : goal.returns-in_default-six
returns-in_default-six c =
    let args = c.args in
    names_six_not args.at.place args.seal.now _ _ c.unread-in_default-six.result
    (sym (ap (step_of (six (goal.at.returns-in_default-six c).After-field-six)) c.in_default-six.is) ∙ six-read-as (goal.at.returns-in_default-six c).After-field-six)
    (c.unread-in_default-six.ensures ∙ ap (λ r. refusal_of item.SignerAndLength r) c.in_default-six.is)
    ∙ ap (λ v. through measured (names v args.at.place args.seal.now)) (sym c.in_default.is)

pub overflow_add-size : goal.overflow_add-size
overflow_add-size c = let read = six-read (goal.at.overflow_add-size c).After-hex_value-2 in omega arith

pub returns-in_default-reference : goal.returns-in_default-reference
unfolding held
returns-in_default-reference c =
    let wide = c.threes-width.result in
    let reference = c.field-reference in
    let args = c.args in
    let out = reference.new.text in
    names_four_not args.at.place args.seal.now (six (goal.at.returns-in_default-reference c).After-field-six) (after (goal.at.returns-in_default-reference c).After-hex_value-2) (size (goal.at.returns-in_default-reference c).After-hex_value-2) (six-read (goal.at.returns-in_default-reference c).After-hex_value-2)
    (length (take (4 + size (goal.at.returns-in_default-reference c).After-hex_value-2 - 4) (drop 4 (held (goal.at.returns-in_default-reference c).After-hex_value-2)))) (part_size (goal.at.returns-in_default-reference c).After-hex_value-2) _ _ (wide * 2) c.unread-in_default-reference.result
    (sym (ap (step_of out) c.in_default-reference.is) ∙ reference.ensures)
    (omega (arith, c.threes-width.ensures))
    (c.unread-in_default-reference.ensures ∙ ap (λ r. refusal_of (item.Reference (wide * 2)) r) c.in_default-reference.is)
    ∙ ap (λ v. through measured (names v args.at.place args.seal.now)) (sym c.in_default.is)

pub returns : goal.returns
unfolding held
returns c =
    let reference = c.field-reference in
    let args = c.args in
    let out = reference.new.text in
    let e = part_size (goal.at.returns c).After-hex_value-2 in
    let long : length out ≡ size (goal.at.returns c).After-hex_value-2 = omega arith in
    names_four args.at.place args.seal.now (six (goal.at.returns c).After-field-six) (after (goal.at.returns c).After-hex_value-2) (size (goal.at.returns c).After-hex_value-2) (six-read (goal.at.returns c).After-hex_value-2)
    (length (take (4 + size (goal.at.returns c).After-hex_value-2 - 4) (drop 4 (held (goal.at.returns c).After-hex_value-2)))) (part_size (goal.at.returns c).After-hex_value-2)
    out (drop 6 args.text.now) (drop (4 + size (goal.at.returns c).After-hex_value-2 - 4) (drop 4 (held (goal.at.returns c).After-hex_value-2))) c.in-Ok-reference.next.place long
    (sym (ap (step_of out) c.in-Ok-reference.is) ∙ reference.ensures)
    ∙ ap (λ v. through measured (names v args.at.place args.seal.now)) (sym c.in_default.is)

pub field-nine-requires : goal.field-nine-requires
field-nine-requires c = length_nine (goal.at.field-nine-requires c).In-Three

pub field-six-requires : goal.field-six-requires
field-six-requires c = length_six (goal.at.field-six-requires c).In_default

pub overflow_add-end : goal.overflow_add-end
overflow_add-end c = let read = six-read (goal.at.overflow_add-end c).After-hex_value-2 in omega arith

pub returns-in-Three : goal.returns-in-Three
returns-in-Three c =
    let args = c.args in
    let n = c.in-Ok.next in
    let long : length (nine (goal.at.returns-in-Three c).After-field-nine) ≡ 9 = omega (arith, length_nine (goal.at.returns-in-Three c).In-Three) in
    names_three args.at.place n.place args.seal.now (nine (goal.at.returns-in-Three c).After-field-nine) (drop 9 args.text.now) long
    (sym (ap (step_of (nine (goal.at.returns-in-Three c).After-field-nine)) c.in-Ok.is) ∙ nine-read (goal.at.returns-in-Three c).After-field-nine)
    ∙ ap (λ v. through measured (names v args.at.place args.seal.now)) (sym c.in-Three.is)

pub slice_bounds-field-end-4 : goal.slice_bounds-field-end-4
unfolding held
slice_bounds-field-end-4 c = room (goal.at.slice_bounds-field-end-4 c).After-hex_value-2
