-- `c40_write_long::write` meets its contract: what `c40_write` answers is the definition's, and so is each other `return`, with the tests
-- that led there.
-- Assumes nothing.
use native.Mathlib.Omega.{arith}
use mathlib.Core.Path.{◌≡◌, ◌∙◌, sym, ap}
use Prim.Native.Nat.{ℕ, ◌*◌, ◌≤◌}
use mathlib.Core.List.{List}
use lib.ListN.{length, replicate, length-replicate}
use Rattle.format.specs.Buffer.{over}
use Rattle.format.proofs.Answers.Laws.{refuses, gives}
use Rattle.octets.specs.Copy.{copied}
use Rattle.octets.specs.Copy.Laws.{copied_all}
use Rattle.c40.specs.Text.{publish, width}
use Rattle.c40.specs.Text.Laws.{length_publish}
use Rattle.c40.specs.Calls.{known}
use Rattle.c40.proofs.Calls.Laws.{text_known, writing_long, writing_no_room, writing_done}
use Rattle.c40_write_long.specs.Passed.{whole_kept, whole_form}
use Rattle.c40_write_long.proofs.write.Goals as goal
use Rattle.c40_write_long.proofs.write.Goals.{After-put_text, Else-not-put_text}

abbrev text : After-put_text → List ℕ
text c = c.args.text.now

abbrev out : After-put_text → List ℕ
out c = c.args.out.now

-- the memory, as it was and as it is
abbrev blank : List ℕ
blank = replicate 4096 0

abbrev bytes : After-put_text → List ℕ
bytes c = c.put_text.new.bytes

-- all is known, and its form stands in the memory
good : (c : Else-not-put_text) → length c.args.text.now ≤ known c.args.text.now
good c = omega (arith, text_known (text (goal.at.Else-not-put_text c).After-put_text) (c.put_text.ensures.good c.if-not-put_text.false))

put : (c : Else-not-put_text) → c.put_text.new.bytes ≡ over blank 0 (publish c.args.text.now)
put c = c.put_text.ensures.put c.if-not-put_text.false

fits : (c : Else-not-put_text) → width (length c.args.text.now) ≤ length blank
fits c = omega (arith, length-replicate {A = ℕ} 4096 0)

kept : (c : Else-not-put_text) → length c.put_text.new.bytes ≡ 4096
kept c = whole_kept (text (goal.at.Else-not-put_text c).After-put_text) blank (bytes (goal.at.Else-not-put_text c).After-put_text) (fits c) (put c) ∙ length-replicate {A = ℕ} 4096 0

pub returns-then-n-gt6144 : goal.returns-then-n-gt6144
returns-then-n-gt6144 c =
    let room = c.args.out.now in
    let e = refuses _ 45 0 room (writing_long c.args.text.now (length room) (omega arith)) in
    record { answer = e.0; buffer = e.1 }

pub returns-then-out-size : goal.returns-then-out-size
returns-then-out-size c =
    let room = c.args.out.now in
    let h = good (goal.at.returns-then-out-size c).Else-not-put_text in
    let e = refuses _ 44 0 room (writing_no_room c.args.text.now (length room) (omega arith) h (omega arith)) in
    record { answer = e.0; buffer = e.1 }

pub slice_bounds-bytes-end : goal.slice_bounds-bytes-end
slice_bounds-bytes-end c = omega (arith, kept (goal.at.slice_bounds-bytes-end c).Else-not-put_text)

pub slice_bounds-copy-end : goal.slice_bounds-copy-end
slice_bounds-copy-end c =
    let size = c.threes-size.result * 2 in
    let form = whole_form (text (goal.at.slice_bounds-copy-end c).After-put_text) blank (bytes (goal.at.slice_bounds-copy-end c).After-put_text) (fits (goal.at.slice_bounds-copy-end c).Else-not-put_text) (put (goal.at.slice_bounds-copy-end c).Else-not-put_text) size (omega arith) in
    omega (arith, ap length form, length_publish (text (goal.at.slice_bounds-copy-end c).After-put_text))

pub returns : goal.returns
returns c =
    let t = text (goal.at.returns c).After-put_text in
    let size = c.threes-size.result * 2 in
    let form = whole_form t blank (bytes (goal.at.returns c).After-put_text) (fits (goal.at.returns c).Else-not-put_text) (put (goal.at.returns c).Else-not-put_text) size (omega arith) in
    let to = c.args.out.now in
    let h = good (goal.at.returns c).Else-not-put_text in
    let many = length_publish t in
    let put =
    c.copy.ensures.buffer ∙ ap (λ s. copied s to 0) form ∙ sym (copied_all (publish t) to 0 (omega (arith, many))) in
    let e =
    gives _ (publish t) size to c.copy.new.out (writing_done t (length to) (omega arith) h (omega arith)) (omega (arith, many)) put in
    record { answer = e.0; buffer = e.1 }
