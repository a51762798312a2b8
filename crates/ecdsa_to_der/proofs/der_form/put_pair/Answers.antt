-- `der_form::put_pair` meets its contract: head, r and s are put down one after another, and are the whole.
-- Assumes nothing.
use native.Mathlib.Omega.{arith}
use mathlib.Core.Path.{◌∙◌, refl, ap, sym}
use Prim.Native.Nat.{ℕ, ◌+◌, ◌<◌, ◌≤◌}
use native.Mathlib.Nat.{zero-add}
use mathlib.Core.List.{List, [], ◌∷◌, ◌++◌}
use lib.ListN.{length}
use Rattle.format.proofs.Answers.Laws.{refuses, gives}
use Rattle.format.specs.Order.Laws.{in_no_room, in_room_lem}
use Rattle.format.specs.Buffer.{over}
use Rattle.format.proofs.Buffer.Laws.{Held, held_start, held_more, held_length}
use Rattle.der.specs.Length.{form}
use Rattle.der.specs.Content.{integer}
use Rattle.ecdsa.specs.Signature.{content_from}
use Rattle.ecdsa.specs.Signature.Laws.{head_most, size_bounds}
use Rattle.ecdsa.specs.FormSize.{never_64}
use Rattle.ecdsa_to_der.specs.Places.Laws.{Measured, below, content_size, whole_size, whole_is, length_r, length_s}
use Rattle.ecdsa_to_der.proofs.der_form.put_pair.Goals as goal
use Rattle.ecdsa_to_der.proofs.der_form.put_pair.Goals.{After-put_head, After-put_integer-at, After-size_from-2, Else-out-head}

-- the size of the content, the head before it, and r as an INTEGER
abbrev size : After-size_from-2 → ℕ
size c = c.size_from.result + c.size_from-2.result + 4

abbrev head : After-size_from-2 → List ℕ
head c = 0x30 ∷ form (size c)

abbrev r-integer : After-size_from-2 → List ℕ
r-integer c = integer (content_from c.args.r.now c.start_of-r_start.result)

-- both numbers, measured
measured :
    (on : After-size_from-2) →
    Measured on.args.r.now on.args.s.now on.start_of-r_start.result on.start_of-s_start.result
    on.size_from.result on.size_from-2.result
measured on =
    let n = on.requires in
    let b = size_bounds _ n.size in
    record {
      r_inside = on.start_of-r_start.ensures.0;
      s_inside = on.start_of-s_start.ensures.0;
      r_small = omega arith;
      s_small = omega (arith, n.alike);
      r_form = on.start_of-r_start.ensures.1;
      s_form = on.start_of-s_start.ensures.1;
      r_is = on.size_from.ensures;
      s_is = on.size_from-2.ensures;
    }

-- the content of two numbers of one of the five sizes has fewer than 256 bytes
short : (on : After-size_from-2) → size on < 256
short c =
    let a = c.args in
    let n = c.requires in
    let most = never_64 (length a.r.now) a.r.now a.s.now n.size refl n.alike in
    omega (arith, content_size _ _ _ _ _ _ (measured c), most.1)

-- how long the whole is, and that it fits
fits : (c : Else-out-head) → c.head_of-head.result + size (goal.at.Else-out-head c).After-size_from-2 ≤ length c.args.out.now
fits c = c.if-out-head.false

-- the head stands in the buffer
head_held :
    (c : After-put_head) →
    Held c.args.out.now c.put_head.new.out c.head_of-head.result (head (goal.at.After-put_head c).After-size_from-2)
head_held c =
    let out = c.args.out.now in
    held_more out out 0 [] (held_start out) _ _ _ c.put_head.ensures (zero-add _ ∙ sym c.head_of-head.ensures)
    (omega (arith, fits (goal.at.After-put_head c).Else-out-head))

-- and r behind it
r_held :
    (c : After-put_integer-at) →
    let on = (goal.at.After-put_integer-at c).After-size_from-2 in
    Held c.args.out.now c.put_integer-at.new.out c.put_integer-at.result (head on ++ r-integer on)
r_held c =
    held_more _ _ _ _ (head_held (goal.at.After-put_integer-at c).After-put_head) _ _ _ c.put_integer-at.ensures.buffer (sym c.put_integer-at.ensures.place)
    (omega (arith, c.put_integer-at.ensures.place, length_r _ _ _ _ _ _ (measured (goal.at.After-put_integer-at c).After-size_from-2), fits (goal.at.After-put_integer-at c).Else-out-head))

-- there is room for s behind r
s-fits : (c : After-put_integer-at) → c.put_integer-at.result + (c.size_from-2.result + 2) ≤ length c.args.out.now
s-fits c = omega (arith, c.put_integer-at.ensures.place, length_r _ _ _ _ _ _ (measured (goal.at.After-put_integer-at c).After-size_from-2), fits (goal.at.After-put_integer-at c).Else-out-head)

pub start_of-r_start-requires : goal.start_of-r_start-requires
start_of-r_start-requires c = omega (arith, size_bounds _ c.requires.size)

pub start_of-s_start-requires : goal.start_of-s_start-requires
start_of-s_start-requires c = let n = c.requires in omega (arith, size_bounds _ n.size, n.alike)

pub overflow_add-size : goal.overflow_add-size
overflow_add-size c = omega (arith, below _ _ _ _ _ _ (measured (goal.at.overflow_add-size c).After-size_from-2))

pub overflow_add-size-2 : goal.overflow_add-size-2
overflow_add-size-2 c = omega (arith, below _ _ _ _ _ _ (measured (goal.at.overflow_add-size-2 c).After-size_from-2))

pub head_of-head-requires : goal.head_of-head-requires
head_of-head-requires c = short (goal.at.head_of-head-requires c).After-size_from-2

pub overflow_add-head : goal.overflow_add-head
overflow_add-head c = omega (arith, c.head_of-head.ensures, head_most (size (goal.at.overflow_add-head c).After-size_from-2) (short (goal.at.overflow_add-head c).After-size_from-2), short (goal.at.overflow_add-head c).After-size_from-2)

pub returns-then-out-head : goal.returns-then-out-head
returns-then-out-head c =
    let w = refuses _ 63 0 _ (in_no_room 63 _ _ (omega (arith, whole_size _ _ _ _ _ _ (measured (goal.at.returns-then-out-head c).After-size_from-2), c.head_of-head.ensures))) in
    record { answer = w.0; buffer = w.1 }

pub put_head-requires : goal.put_head-requires
put_head-requires c = (short (goal.at.put_head-requires c).After-size_from-2, omega (arith, c.head_of-head.ensures, fits (goal.at.put_head-requires c).Else-out-head))

pub put_integer-at-requires : goal.put_integer-at-requires
put_integer-at-requires c =
    let m = measured (goal.at.put_integer-at-requires c).After-size_from-2 in
    let long = held_length _ _ _ _ (head_held (goal.at.put_integer-at-requires c).After-put_head) (omega (arith, fits (goal.at.put_integer-at-requires c).Else-out-head)) in
    record { inside = m.r_inside; small = m.r_small; room = omega (arith, m.r_is, fits (goal.at.put_integer-at-requires c).Else-out-head) }

pub put_integer-requires : goal.put_integer-requires
put_integer-requires c =
    let m = measured (goal.at.put_integer-requires c).After-size_from-2 in
    let room = s-fits (goal.at.put_integer-requires c).After-put_integer-at in
    let long = held_length _ _ _ _ (r_held (goal.at.put_integer-requires c).After-put_integer-at) (omega arith) in
    record { inside = m.s_inside; small = m.s_small; room = omega (arith, m.s_is) }

pub returns : goal.returns
returns c =
    let m = measured (goal.at.returns c).After-size_from-2 in
    let whole = held_more _ _ _ _ (r_held (goal.at.returns c).After-put_integer-at) _ _ _ c.put_integer.ensures.buffer refl (omega (arith, s-fits (goal.at.returns c).After-put_integer-at, length_s _ _ _ _ _ _ m)) in
    let w = gives _ _ _ _ _
    (in_room_lem 63 _ _ (omega (arith, whole_size _ _ _ _ _ _ m, c.head_of-head.ensures, fits (goal.at.returns c).Else-out-head)))
    (ap (λ h. h + size (goal.at.returns c).After-size_from-2) c.head_of-head.ensures ∙ whole_size _ _ _ _ _ _ m)
    (whole.is ∙ ap (over _ 0) (whole_is _ _ _ _ _ _ m)) in
    record { answer = w.0; buffer = w.1 }
