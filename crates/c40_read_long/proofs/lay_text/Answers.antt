-- `c40_read_long::lay_text` meets its contract: all pairs before the last are put down, and then the last.
-- Assumes nothing.
use mathlib.Core.Path.{refl}
use mathlib.Core.List.{List}
use Prim.Native.Nat.{ℕ, ◌*◌, ◌-◌, ◌/◌}
use lib.ListN.{length}
use Rattle.c40_read_long.specs.Laid.{HeadAt, TailAt, Come}
use Rattle.c40_read_long.specs.Laid.Laws.{sound_blank}
use Rattle.c40_read_long.proofs.lay_text.Goals as goal
use Rattle.c40_read_long.proofs.lay_text.Goals.{Else-not-put_front}

abbrev bytes : Else-not-put_front → List ℕ
bytes c = c.args.bytes.now

-- and what is known there
come : (c : Else-not-put_front) → Come (bytes c) (length (bytes c) - 2) c.put_front.new.text ((length (bytes c) - 2) / 2 * 3)
come c = c.put_front.ensures c.if-not-put_front.false

pub invariant_of-tables : goal.invariant_of-tables
invariant_of-tables c = record { heads_are_sound = sound_blank HeadAt 41 _ refl; tails_are_sound = sound_blank TailAt 1601 _ refl }

pub put_last-requires : goal.put_last-requires
put_last-requires c =
    let long = c.requires in
    (record { some = long.some; even = long.even; size = long.size; whole = (come (goal.at.put_last-requires c).Else-not-put_front).whole }, λ e. come (goal.at.put_last-requires c).Else-not-put_front)
