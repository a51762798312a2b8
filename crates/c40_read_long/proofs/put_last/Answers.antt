-- `c40_read_long::put_last` meets its contract: where the last pair is text of its own, it ends the text.
-- Assumes nothing.
use native.Mathlib.Omega.{arith}
use mathlib.Core.Path.{refl, ap, sym, ◌∙◌}
use mathlib.Core.List.{List}
use Prim.Native.Nat.{ℕ, ◌-◌, ◌*◌, ◌/◌, ◌≤◌}
use lib.ListN.{length, take, drop, length-take}
use Rattle.c40.specs.Calls.{reading_of}
use Rattle.c40_read_long.specs.Laid.Laws.{Read, read_done, come_last, last_is, last_two}
use Rattle.c40_read_long.proofs.put_last.Goals as goal
use Rattle.c40_read_long.proofs.put_last.Goals.{After-read-read, In-Ok}

abbrev bytes : After-read-read → List ℕ
bytes c = c.args.bytes.now

-- the last pair, the place where it is put down, and the memory from there on
abbrev pair : After-read-read → List ℕ
pair c = take (length (bytes c) - (length (bytes c) - 2)) (drop (length (bytes c) - 2) (bytes c))

abbrev at : After-read-read → ℕ
at c = (length (bytes c) - 2) / 2 * 3

abbrev lent : After-read-read → List ℕ
lent c = let text = c.args.text.now in take (length text - at c) (drop (at c) text)

-- what was read there
is_read : (c : In-Ok) → Read (pair (goal.at.In-Ok c).After-read-read) (length (lent (goal.at.In-Ok c).After-read-read)) c.in-Ok.more
is_read c =
    let two = last_two (bytes (goal.at.In-Ok c).After-read-read) c.requires.0.some in
    read_done (pair (goal.at.In-Ok c).After-read-read) (length (lent (goal.at.In-Ok c).After-read-read)) _ (omega arith) (λ odd. omega arith)
    (sym (ap reading_of c.in-Ok.is) ∙ c.read-read.ensures.answer)

-- the place is in the text
inside : (c : After-read-read) → at c ≤ length c.args.text.now
inside c = let long = c.requires.0 in omega (arith, long.size, long.whole)

pub overflow_add-result : goal.overflow_add-result
overflow_add-result c =
    let text = c.args.text.now in
    let long = c.requires.0 in
    omega (arith, (is_read c).fits, length-take (length text - at (goal.at.overflow_add-result c).After-read-read) (drop (at (goal.at.overflow_add-result c).After-read-read) text), long.size, long.whole)

pub returns : goal.returns
returns c =
    come_last (bytes (goal.at.returns c).After-read-read) (length (bytes (goal.at.returns c).After-read-read) - 2) c.args.text.now (at (goal.at.returns c).After-read-read) (c.requires.1 refl) (inside (goal.at.returns c).After-read-read)
    (pair (goal.at.returns c).After-read-read) (lent (goal.at.returns c).After-read-read) _ _ _ (last_is (bytes (goal.at.returns c).After-read-read) c.requires.0.some) (is_read c) c.read-read.ensures.buffer
