-- `read_names::signer_and_reference` meets its contract: what was found is put down, and a refusal leaves what was there.
-- Assumes nothing.
use native.Mathlib.Omega.{arith}
use mathlib.Core.Path.{◌≡◌, ◌∙◌, ap, sym}
use Prim.Native.Nat.{ℕ}
use mathlib.Core.List.{List}
use lib.ListN.{length}
use lib.Seq.{length-take-le}
use Rattle.verdict.specs.Items.{names}
use Rattle.read_names.specs.Meaning.{names_of}
use Rattle.read_names.specs.Meaning.Lent.{Found, found_names, found_room, names_given}
use Rattle.read_names.proofs.signer_and_reference.Goals as goal
use Rattle.read_names.proofs.signer_and_reference.Goals.{After-names_in, In_ok-size}

abbrev found : After-names_in → List ℕ
found c = c.names_in.new.text

whole : (c : In_ok-size) → length (found (goal.at.In_ok-size c).After-names_in) ≡ 259
whole c = omega arith

found_in : (c : In_ok-size) →
    let a = c.args in
    Found (found (goal.at.In_ok-size c).After-names_in) c.in_ok-size.size c.in_ok-size.next.place
    (names a.version a.at.place a.seal.now)
found_in c =
    found_names (found (goal.at.In_ok-size c).After-names_in) _ _ _ (sym (ap (names_of (found (goal.at.In_ok-size c).After-names_in)) c.in_ok-size.was) ∙ c.names_in.ensures)

pub overflow_add-end : goal.overflow_add-end
overflow_add-end c = omega (arith, found_room _ _ _ _ (found_in (goal.at.overflow_add-end c).In_ok-size) (whole (goal.at.overflow_add-end c).In_ok-size))

pub slice_bounds-found-end : goal.slice_bounds-found-end
slice_bounds-found-end c = omega (arith, found_room _ _ _ _ (found_in (goal.at.slice_bounds-found-end c).In_ok-size) (whole (goal.at.slice_bounds-found-end c).In_ok-size), whole (goal.at.slice_bounds-found-end c).In_ok-size)

pub slice_bounds-copy-end : goal.slice_bounds-copy-end
slice_bounds-copy-end c =
    sym (length-take-le _ _ (omega (arith, found_room _ _ _ _ (found_in (goal.at.slice_bounds-copy-end c).In_ok-size) (whole (goal.at.slice_bounds-copy-end c).In_ok-size), whole (goal.at.slice_bounds-copy-end c).In_ok-size)))

pub returns : goal.returns
returns c =
    let a = c.args in
    let room : length a.text.now ≡ 259 = omega arith in
    let k = names_given _ _ _ _ (found_in (goal.at.returns c).In_ok-size) (whole (goal.at.returns c).In_ok-size) a.text.now _ room c.copy.ensures.buffer in
    record { item = k.0; buffer = k.1 }
