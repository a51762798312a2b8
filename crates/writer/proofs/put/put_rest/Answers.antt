-- `put_rest` meets its contract: two dates, then two bytes.
-- Assumes nothing.
use native.Mathlib.Omega.{arith}
use mathlib.Core.Path.{◌≡◌, ap, ◌∙◌}
use Prim.Native.Nat.{◌+◌, ◌≤◌, ◌<◌}
use mathlib.Core.List.{◌∷◌, [], ◌++◌}
use lib.ListN.{length, set, length-set}
use Rattle.format.specs.Buffer.{over}
use Rattle.format.proofs.Buffer.Laws.{length_over}
use Rattle.dates.specs.Days.{publish as date}
use Rattle.fields.specs.declared.Header.{Header}
use Rattle.write_judge.specs.Needs.{rest}
use Rattle.writer.specs.Together.{dated_days, dated_last, front_part, rest_second, rest_last, put_rest}
use Rattle.writer.proofs.put.put_rest.Goals as goal
use Rattle.writer.proofs.put.put_rest.Goals.{After-put_date-last}

abbrev header : After-put_date-last → Header
header c = c.args.header

-- past both dates there is room for two bytes
room : (c : After-put_date-last) → c.put_date-last.result + 2 ≤ length c.put_date-last.new.out
room c =
    let p = c.put_date-signed in
    rest_last (header c) c.args.out.now c.args.at c.requires.1 p.new.out p.result p.ensures.place p.ensures.buffer
    c.put_date-last.new.out c.put_date-last.result c.put_date-last.ensures.place c.put_date-last.ensures.buffer

-- what was put down, with these two bytes
put :
    (c : After-put_date-last) →
    (c.put_date-last.result + 2 ≡ c.args.at + 8)
    × (set (set c.put_date-last.new.out c.put_date-last.result (header c).definition) (c.put_date-last.result + 1) (header c).category
    ≡ over c.args.out.now c.args.at (rest (header c)))
put c =
    let p = c.put_date-signed in
    put_rest (header c) c.args.out.now c.args.at c.requires.1 p.new.out p.result p.ensures.place p.ensures.buffer
    c.put_date-last.new.out c.put_date-last.result c.put_date-last.ensures.place c.put_date-last.ensures.buffer

pub put_date-signed-requires : goal.put_date-signed-requires
put_date-signed-requires c =
    let h = c.args.header in (
      (dated_days h c.requires.0).0,
      front_part c.args.out.now c.args.at (date h.issued) (date h.signed ++ (h.definition ∷ h.category ∷ [])) c.requires.1,
    )

pub put_date-last-requires : goal.put_date-last-requires
put_date-last-requires c =
    let s = (c) in
    let p = c.put_date-signed in (
      (dated_days s.args.header s.requires.0).1,
      rest_second s.args.header s.args.out.now s.args.at s.requires.1 p.new.out p.result p.ensures.place
          p.ensures.buffer,
    )

pub overflow_cast-out : goal.overflow_cast-out
overflow_cast-out c = omega (arith, (dated_last (header (goal.at.overflow_cast-out c).After-put_date-last) c.requires.0).0)

pub bounds-out-last : goal.bounds-out-last
bounds-out-last c =
    let q = c.put_date-last in
    let l : q.result < length q.new.out = omega (arith, room (goal.at.bounds-out-last c).After-put_date-last) in
    l

pub overflow_cast-out-2 : goal.overflow_cast-out-2
overflow_cast-out-2 c = omega (arith, (dated_last (header (goal.at.overflow_cast-out-2 c).After-put_date-last) c.requires.0).1)

pub overflow_add-out : goal.overflow_add-out
overflow_add-out c = omega (arith, room (goal.at.overflow_add-out c).After-put_date-last)

pub bounds-out-last-2 : goal.bounds-out-last-2
bounds-out-last-2 c =
    let l : c.put_date-last.result + 1 < length (set c.put_date-last.new.out c.put_date-last.result (header (goal.at.bounds-out-last-2 c).After-put_date-last).definition) = simp length-set (omega (arith, room (goal.at.bounds-out-last-2 c).After-put_date-last)) in
    l

pub overflow_add-result : goal.overflow_add-result
overflow_add-result c = omega (arith, room (goal.at.overflow_add-result c).After-put_date-last)

pub shape_of-out : goal.shape_of-out
shape_of-out c =
    ap length (put (goal.at.shape_of-out c).After-put_date-last).1 ∙ length_over c.args.out.now c.args.at (rest (header (goal.at.shape_of-out c).After-put_date-last)) c.requires.1

pub returns : goal.returns
returns c =
    let p = put (goal.at.returns c).After-put_date-last in
    record { place = p.0; buffer = p.1 }
