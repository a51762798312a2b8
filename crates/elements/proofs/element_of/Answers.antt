-- `elements::element_of` meets its contract: each answer is one case of the definition. A length that was read is whole, so
-- the body starts inside.
-- Assumes nothing.
use native.Mathlib.Omega.{arith}
use mathlib.Core.Path.{◌≡◌, ◌∙◌, ap, sym}
use Prim.Native.Nat.{ℕ, ◌-◌}
use mathlib.Core.List.{List}
use lib.ListN.{length, drop, length-drop}
use Rattle.format.specs.Places.{to_end}
use Rattle.format.specs.Bytes.Laws.{bytes_drop}
use Rattle.der.specs.Length.{read_length}
use Rattle.der.proofs.Lengths.Exact.{read_is_form}
use Rattle.der.specs.Element.{body_in}
use Rattle.der.specs.Element.Laws.{element_none, element_other, element_read}
use Rattle.elements.proofs.element_of.Goals as goal
use Rattle.elements.proofs.element_of.Goals.{After-read_length}

abbrev whole : After-read_length → List ℕ
whole c = c.args.s.now

-- the length is read after the tag
rest : (c : After-read_length) → c.read_length.result ≡ read_length (drop 1 (whole c))
rest c =
    let s = whole c in
    c.read_length.ensures ∙ ap read_length (to_end s 1)

pub returns-then-n-eq0 : goal.returns-then-n-eq0
returns-then-n-eq0 c = element_none _ _ (omega arith)

pub returns-then-s-tag : goal.returns-then-s-tag
returns-then-s-tag c = element_other _ _ (omega arith) c.if-s-tag.true

pub body_in-requires : goal.body_in-requires
body_in-requires c =
    let s = whole (goal.at.body_in-requires c).After-read_length in
    let bytes = bytes_drop 1 s (λ i. (c.shared_slice_known-1.given i).fits) in
    let l = c.in-Ok.read in
    let taken = read_is_form (drop 1 s) bytes l.size l.width (sym (rest (goal.at.body_in-requires c).After-read_length) ∙ c.in-Ok.is) in
    (omega (arith, taken.there, length-drop 1 s), omega arith)

pub returns : goal.returns
returns c =
    let s = whole (goal.at.returns c).After-read_length in
    c.body_in.ensures
    ∙ ap (body_in (length s - 1)) (sym c.in-Ok.is ∙ rest (goal.at.returns c).After-read_length)
    ∙ element_read _ s (omega arith) c.if-s-tag.false

pub returns-in_default : goal.returns-in_default
returns-in_default c =
    let s = whole (goal.at.returns-in_default c).After-read_length in
    ap (body_in (length s - 1)) (sym c.in_default.is ∙ rest (goal.at.returns-in_default c).After-read_length) ∙ element_read _ s (omega arith) c.if-s-tag.false
