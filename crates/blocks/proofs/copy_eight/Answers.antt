-- `blocks::copy_eight` meets its contract: the eight stores are one write.
-- Assumes nothing.
use native.Mathlib.Omega.{arith}
use lib.ListN.{length-set}
use Rattle.blocks.specs.Blocks.{eight}
use Rattle.blocks.proofs.copy_eight.Goals as goal

pub bounds-from-i : goal.bounds-from-i
bounds-from-i c = omega arith

pub overflow_add-b : goal.overflow_add-b
overflow_add-b c = omega arith

pub bounds-from-i-2 : goal.bounds-from-i-2
bounds-from-i-2 c = omega arith

pub overflow_add-c : goal.overflow_add-c
overflow_add-c c = omega arith

pub bounds-from-i-3 : goal.bounds-from-i-3
bounds-from-i-3 c = omega arith

pub overflow_add-d : goal.overflow_add-d
overflow_add-d c = omega arith

pub bounds-from-i-4 : goal.bounds-from-i-4
bounds-from-i-4 c = omega arith

pub overflow_add-e : goal.overflow_add-e
overflow_add-e c = omega arith

pub bounds-from-i-5 : goal.bounds-from-i-5
bounds-from-i-5 c = omega arith

pub overflow_add-f : goal.overflow_add-f
overflow_add-f c = omega arith

pub bounds-from-i-6 : goal.bounds-from-i-6
bounds-from-i-6 c = omega arith

pub overflow_add-g : goal.overflow_add-g
overflow_add-g c = omega arith

pub bounds-from-i-7 : goal.bounds-from-i-7
bounds-from-i-7 c = omega arith

pub overflow_add-h : goal.overflow_add-h
overflow_add-h c = omega arith

pub bounds-from-i-8 : goal.bounds-from-i-8
bounds-from-i-8 c = omega arith

pub bounds-out-at : goal.bounds-out-at
bounds-out-at c = omega arith

pub overflow_add-out : goal.overflow_add-out
overflow_add-out c = omega arith

pub bounds-out-at-2 : goal.bounds-out-at-2
bounds-out-at-2 c = simp length-set (omega arith)

pub overflow_add-out-2 : goal.overflow_add-out-2
overflow_add-out-2 c = omega arith

pub bounds-out-at-3 : goal.bounds-out-at-3
bounds-out-at-3 c = simp length-set (omega arith)

pub overflow_add-out-3 : goal.overflow_add-out-3
overflow_add-out-3 c = omega arith

pub bounds-out-at-4 : goal.bounds-out-at-4
bounds-out-at-4 c = simp length-set (omega arith)

pub overflow_add-out-4 : goal.overflow_add-out-4
overflow_add-out-4 c = omega arith

pub bounds-out-at-5 : goal.bounds-out-at-5
bounds-out-at-5 c = simp length-set (omega arith)

pub overflow_add-out-5 : goal.overflow_add-out-5
overflow_add-out-5 c = omega arith

pub bounds-out-at-6 : goal.bounds-out-at-6
bounds-out-at-6 c = simp length-set (omega arith)

pub overflow_add-out-6 : goal.overflow_add-out-6
overflow_add-out-6 c = omega arith

pub bounds-out-at-7 : goal.bounds-out-at-7
bounds-out-at-7 c = simp length-set (omega arith)

pub overflow_add-out-7 : goal.overflow_add-out-7
overflow_add-out-7 c = omega arith

pub bounds-out-at-8 : goal.bounds-out-at-8
bounds-out-at-8 c = simp length-set (omega arith)

pub shape_of-out : goal.shape_of-out
shape_of-out c = simp length-set (omega arith)

pub returns : goal.returns
returns c =
    let a = c.args in
    eight a.from.now a.out.now a.at a.i (omega arith) (omega arith)
