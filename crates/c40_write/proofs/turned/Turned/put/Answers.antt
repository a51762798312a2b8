-- `Turned::put` meets its contract. The loop's invariant: these bytes stand in `out`, and what is left of the text
-- is still to be published.
-- Assumes nothing.
use native.Mathlib.Omega.{arith}
use mathlib.Core.Path.{◌≡◌, ◌∙◌, refl, ap, sym}
use Prim.Native.Nat.{ℕ, ◌+◌, ◌*◌, ◌<◌, ◌≤◌}
use mathlib.Core.List.{List, [], ◌++◌, append_assoc, append-nil}
use lib.ListN.{length, get_or, drop}
use Rattle.format.specs.BigEndian.{be}
use Rattle.format.specs.BigEndian.Laws.{length_be}
use Rattle.format.specs.Bytes.Laws.{all_at}
use Rattle.format.specs.Buffer.{over}
use Rattle.format.proofs.Buffer.Laws.{Held, held_start, held_more, held_length}
use Rattle.pairs.specs.Chart.{InChart, value_of}
use Rattle.pairs.specs.Chart.Laws.{char_below}
use Rattle.c40.specs.Text.{publish}
use Rattle.c40.specs.Text.Laws.{left_three, left_two, left_one, left_none}
use Rattle.pairs.specs.Pairs.{packed_of}
use Rattle.c40_write.specs.Turned.{turned}
use Rattle.c40_write.specs.Turned.Laws.{text_value}
use Rattle.c40_write.proofs.turned.Turned.put.Goals as goal
use Rattle.c40_write.proofs.turned.Turned.put.Goals.{After-value, After-value-in-loop-i, After-value-in-loop-i-2, After-value-then-i-n, After-value-then-i-n-2, At-loop-i}

abbrev text : At-loop-i → List ℕ
text c = c.args.text.now

abbrev out : At-loop-i → List ℕ
out c = c.args.out.now

-- a number is the value of the character at a place, as what is looked up there is
abbrev Value : At-loop-i → ℕ → ℕ → Type 0
Value c i x = (x ≡ value_of (get_or (text c) i 0)) × (x < 40)

value_at : (c : At-loop-i) (i x : ℕ) → i < length (text c) → x ≡ get_or turned (get_or (text c) i 0) 0 → Value c i x
value_at c = text_value (text c) c.requires.0

first : (c : After-value) → let on = (goal.at.After-value c).At-loop-i in Value on on.loop-i.i c.value.result
first c = value_at (goal.at.After-value c).At-loop-i _ _ (omega arith) c.value.ensures

second : (c : After-value-in-loop-i) → let on = (goal.at.After-value-in-loop-i c).At-loop-i in Value on (on.loop-i.i + 1) c.value-in-loop-i.result
second c = value_at (goal.at.After-value-in-loop-i c).At-loop-i _ _ (omega arith) c.value-in-loop-i.ensures

third : (c : After-value-in-loop-i-2) → let on = (goal.at.After-value-in-loop-i-2 c).At-loop-i in Value on (on.loop-i.i + 2) c.value-in-loop-i-2.result
third c = value_at (goal.at.After-value-in-loop-i-2 c).At-loop-i _ _ (omega arith) c.value-in-loop-i-2.ensures

fourth : (c : After-value-then-i-n) → let on = (goal.at.After-value-then-i-n c).At-loop-i in Value on on.loop-i.i c.value-then-i-n.result
fourth c = value_at (goal.at.After-value-then-i-n c).At-loop-i _ _ (omega arith) c.value-then-i-n.ensures

fifth : (c : After-value-then-i-n-2) → let on = (goal.at.After-value-then-i-n-2 c).At-loop-i in Value on (on.loop-i.i + 1) c.value-then-i-n-2.result
fifth c = value_at (goal.at.After-value-then-i-n-2 c).At-loop-i _ _ (omega arith) c.value-then-i-n-2.ensures

-- the number that is put down for three characters, and for two
abbrev number-three : After-value-in-loop-i-2 → ℕ
number-three c = packed_of c.value.result c.value-in-loop-i.result c.value-in-loop-i-2.result

packs_three :
    (c : After-value-in-loop-i-2) →
    let on = (goal.at.After-value-in-loop-i-2 c).At-loop-i in
    packed_of
    (value_of (get_or (text on) on.loop-i.i 0))
    (value_of (get_or (text on) (on.loop-i.i + 1) 0))
    (value_of (get_or (text on) (on.loop-i.i + 2) 0))
    ≡ number-three c
packs_three c = omega (arith, first (goal.at.After-value-in-loop-i-2 c).After-value, second (goal.at.After-value-in-loop-i-2 c).After-value-in-loop-i, third c)

abbrev number_two : After-value-then-i-n-2 → ℕ
number_two c = 1600 * c.value-then-i-n.result + 40 * c.value-then-i-n-2.result + 1

packs_two :
    (c : After-value-then-i-n-2) →
    let on = (goal.at.After-value-then-i-n-2 c).At-loop-i in
    packed_of (value_of (get_or (text on) on.loop-i.i 0)) (value_of (get_or (text on) (on.loop-i.i + 1) 0)) 0 ≡ number_two c
packs_two c = omega (arith, fourth (goal.at.After-value-then-i-n-2 c).After-value-then-i-n, fifth c)

-- where a character is left there is room for two bytes
room :
    (c : At-loop-i) →
    c.loop-i.i < length (text c) →
    (c.loop-i.at + 2 ≤ length (out c)) × (length c.loop-i.out ≡ length (out c))
room c h =
    let fits : c.loop-i.at + 2 ≤ length (out c) = omega (arith, c.requires.1) in
    (fits, held_length _ _ _ _ c.loop-i.invariant.5 (omega arith))

-- two bytes more, which are the form of what stands at the place
module _ (c : At-loop-i) (h : c.loop-i.i < length (text c)) (number : ℕ) (after : List ℕ)
    (put : after ≡ over c.loop-i.out c.loop-i.at (be 2 number)) where
  more : Held (out c) after (c.loop-i.at + 2) (c.loop-i.invariant.3 ++ be 2 number)
  more = held_more _ _ _ _ c.loop-i.invariant.5 (be 2 number) after _ put (ap (λ k. c.loop-i.at + k) (length_be 2 number)) (room c h).0

  ends : publish (drop c.loop-i.i (text c)) ≡ be 2 number → after ≡ over (out c) 0 (publish (text c))
  ends e = more.is ∙ ap (over (out c) 0) (ap (λ p. c.loop-i.invariant.3 ++ p) (sym e) ∙ sym c.loop-i.invariant.4)

-- a character that is left is at most 90
low : (c : At-loop-i) → c.loop-i.i < length (text c) → get_or (text c) c.loop-i.i 0 < 91
low c h = char_below _ (all_at InChart 0 (text c) c.requires.0 c.loop-i.i h)

pub loop-i-init : goal.loop-i-init
loop-i-init c = (omega arith, omega arith, omega arith, [], refl, held_start _)

pub overflow_mul-pair : goal.overflow_mul-pair
overflow_mul-pair c = omega (arith, first c)

pub overflow_mul-pair-in-loop-i : goal.overflow_mul-pair-in-loop-i
overflow_mul-pair-in-loop-i c = omega (arith, second c)

pub overflow_add-pair : goal.overflow_add-pair
overflow_add-pair c = omega (arith, first (goal.at.overflow_add-pair c).After-value, second c)

pub overflow_add-pair-in-loop-i : goal.overflow_add-pair-in-loop-i
overflow_add-pair-in-loop-i c = omega (arith, first (goal.at.overflow_add-pair-in-loop-i c).After-value, second (goal.at.overflow_add-pair-in-loop-i c).After-value-in-loop-i, third c)

pub overflow_add-pair-in-loop-i-2 : goal.overflow_add-pair-in-loop-i-2
overflow_add-pair-in-loop-i-2 c = omega (arith, first (goal.at.overflow_add-pair-in-loop-i-2 c).After-value, second (goal.at.overflow_add-pair-in-loop-i-2 c).After-value-in-loop-i, third c)

pub put_two-requires : goal.put_two-requires
put_two-requires c = omega (arith, room (goal.at.put_two-requires c).At-loop-i (omega arith))

pub loop-i-preserved : goal.loop-i-preserved
loop-i-preserved c =
    let on = (goal.at.loop-i-preserved c).At-loop-i in
    let whole = left_three (text (goal.at.loop-i-preserved c).At-loop-i) on.loop-i.i (omega arith) in
    let rest = publish (drop (on.loop-i.i + 3) (text (goal.at.loop-i-preserved c).At-loop-i)) in
    let number = number-three (goal.at.loop-i-preserved c).After-value-in-loop-i-2 in (
      omega arith,
      omega arith,
      omega arith,
      on.loop-i.invariant.3 ++ be 2 number,
      on.loop-i.invariant.4
          ∙ ap (λ p. on.loop-i.invariant.3 ++ p) (whole ∙ ap (λ p. be 2 p ++ rest) (packs_three (goal.at.loop-i-preserved c).After-value-in-loop-i-2))
          ∙ sym (append_assoc on.loop-i.invariant.3 (be 2 number) rest),
      more on (omega arith) number _ c.put_two.ensures,
    )

pub overflow_mul-pair-then-i-n : goal.overflow_mul-pair-then-i-n
overflow_mul-pair-then-i-n c = omega (arith, fourth c)

pub overflow_mul-pair-then-i-n-2 : goal.overflow_mul-pair-then-i-n-2
overflow_mul-pair-then-i-n-2 c = omega (arith, fifth c)

pub overflow_add-pair-then-i-n : goal.overflow_add-pair-then-i-n
overflow_add-pair-then-i-n c = omega (arith, fourth (goal.at.overflow_add-pair-then-i-n c).After-value-then-i-n, fifth c)

pub overflow_add-pair-then-i-n-2 : goal.overflow_add-pair-then-i-n-2
overflow_add-pair-then-i-n-2 c = omega (arith, fourth (goal.at.overflow_add-pair-then-i-n-2 c).After-value-then-i-n, fifth c)

pub put_two-requires-then-i-n : goal.put_two-requires-then-i-n
put_two-requires-then-i-n c = omega (arith, room (goal.at.put_two-requires-then-i-n c).At-loop-i (omega arith))

pub put_two-requires-then-i-n-2 : goal.put_two-requires-then-i-n-2
put_two-requires-then-i-n-2 c = omega (arith, room (goal.at.put_two-requires-then-i-n-2 c).At-loop-i (omega arith))

pub shape_of-out-then-i-n : goal.shape_of-out-then-i-n
shape_of-out-then-i-n c = c.put_two-then-i-n.auto.out ∙ (room (goal.at.shape_of-out-then-i-n c).At-loop-i (omega arith)).1

pub returns-then-i-n : goal.returns-then-i-n
returns-then-i-n c =
    let on = (goal.at.returns-then-i-n c).At-loop-i in
    ends on (omega arith) (number_two (goal.at.returns-then-i-n c).After-value-then-i-n-2) _ c.put_two-then-i-n.ensures
    (left_two (text (goal.at.returns-then-i-n c).At-loop-i) on.loop-i.i (omega arith) ∙ ap (be 2) (packs_two (goal.at.returns-then-i-n c).After-value-then-i-n-2))

pub shape_of-out-then-i-n-2 : goal.shape_of-out-then-i-n-2
shape_of-out-then-i-n-2 c = c.put_two-then-i-n-2.auto.out ∙ (room (goal.at.shape_of-out-then-i-n-2 c).At-loop-i (omega arith)).1

pub returns-then-i-n-2 : goal.returns-then-i-n-2
returns-then-i-n-2 c =
    let packed = c.number_of_one in
    let on = (goal.at.returns-then-i-n-2 c).At-loop-i in
    let code = low (goal.at.returns-then-i-n-2 c).At-loop-i (omega arith) in
    ends on (omega arith) packed.result _ c.put_two-then-i-n-2.ensures
    (left_one (text (goal.at.returns-then-i-n-2 c).At-loop-i) on.loop-i.i (omega arith) (omega arith) ∙ ap (be 2) (sym packed.ensures))

pub shape_of-out-else-i-n-2 : goal.shape_of-out-else-i-n-2
shape_of-out-else-i-n-2 c =
    held_length _ _ _ _ c.loop-i.invariant.5 (omega (arith, c.requires.1))

pub returns-else-i-n-2 : goal.returns-else-i-n-2
returns-else-i-n-2 c =
    c.loop-i.invariant.5.is
    ∙ ap (over (out (goal.at.returns-else-i-n-2 c).At-loop-i) 0)
    (sym
    (c.loop-i.invariant.4 ∙ ap (λ p. c.loop-i.invariant.3 ++ p) (left_none (text (goal.at.returns-else-i-n-2 c).At-loop-i) c.loop-i.i (omega arith)) ∙ append-nil c.loop-i.invariant.3))
