-- `put_date` meets its contract: three stores in a row, each of the last byte of a quotient of the date's number.
-- Assumes nothing.
use native.Mathlib.Omega.{arith}
use mathlib.Core.Path.{refl}
use Prim.Native.Nat.{◌+◌, ◌≤◌}
use lib.ListN.{length, length-set}
use Rattle.dates.specs.Days.{number_of}
use Rattle.dates.proofs.Days.Laws.{length_publish, number_below}
use Rattle.writer.specs.Put.{put_date}
use Rattle.writer.proofs.put.put_date.Goals as goal
use Rattle.writer.proofs.put.put_date.Goals.{Start}

-- its number is small
small : (s : Start) → number_of s.args.date ≤ 12319999
small c = number_below c.args.date c.requires.0

room : (s : Start) → s.args.at + 3 ≤ length s.args.out.now
room c = omega (arith, c.requires.1, length_publish c.args.date)

pub overflow_mul-number : goal.overflow_mul-number
overflow_mul-number c = omega (arith, small (goal.at.overflow_mul-number c).Start)

pub overflow_mul-number-2 : goal.overflow_mul-number-2
overflow_mul-number-2 c = omega (arith, small (goal.at.overflow_mul-number-2 c).Start)

pub overflow_add-number : goal.overflow_add-number
overflow_add-number c = omega (arith, small (goal.at.overflow_add-number c).Start)

pub overflow_add-number-2 : goal.overflow_add-number-2
overflow_add-number-2 c = omega (arith, small (goal.at.overflow_add-number-2 c).Start)

pub bounds-out-at : goal.bounds-out-at
bounds-out-at c = omega (arith, room (goal.at.bounds-out-at c).Start)

pub bounds-out-at-2 : goal.bounds-out-at-2
bounds-out-at-2 c = let r = room (goal.at.bounds-out-at-2 c).Start in simp length-set (omega arith)

pub bounds-out-at-3 : goal.bounds-out-at-3
bounds-out-at-3 c = let r = room (goal.at.bounds-out-at-3 c).Start in simp length-set (omega arith)

pub returns : goal.returns
returns c =
    let a = c.args in record {
      place = refl;
      buffer = put_date a.date _ _ _ a.out.now a.at c.low.ensures c.low-2.ensures c.low-3.ensures
          (room (goal.at.returns c).Start);
    }
