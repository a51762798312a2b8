-- `front_seal::text_front` meets its contract: what is passed and what is left are the whole text.
-- Assumes nothing.
use mathlib.Core.Path.{◌≡◌}
use mathlib.Core.List.{List}
use Prim.Native.Nat.{ℕ, ◌+◌, ◌-◌, ◌*◌}
use native.Mathlib.Omega.{arith}
use borrow.Author.Rules.{rules}
use Rattle.std.proofs.Common.{subst}
use Rattle.front_seal.specs.Steps.Names.{Stands, starts, pair_few, triple_ends, triple_goes, two_end, one_ends, none_ends}
use Rattle.front_seal.proofs.text_front.Goals as goal

module _ (s : List ℕ) (at size : ℕ) where
  -- before the first triple, behind one more, and behind all
  first : Stands s at size (2 * 0) (size - 3 * 0)
  first = let e : size ≡ size - 3 * 0 = omega arith in subst (λ k. Stands s at size 0 k) e (starts s at size)

  next : (i : ℕ) → Stands s at size (2 * i + 2) (size - 3 * i - 3) → Stands s at size (2 * (i + 1)) (size - 3 * (i + 1))
  next i h =
      let p : 2 * i + 2 ≡ 2 * (i + 1) = omega arith in
      let l : size - 3 * i - 3 ≡ size - 3 * (i + 1) = omega arith in
      subst (λ k. Stands s at size (2 * (i + 1)) k) l (subst (λ k. Stands s at size k (size - 3 * i - 3)) p h)

  all : (i n : ℕ) → i ≡ n → Stands s at size (2 * i) (size - 3 * i) → Stands s at size (2 * n) (size - 3 * n)
  all i n e h = subst (λ k. Stands s at size (2 * k) (size - 3 * k)) e h

pub loop-i-init : goal.loop-i-init
loop-i-init c = first c.args.seal.now c.args.at c.args.size

pub returns-then-triple-lt2 : goal.returns-then-triple-lt2
returns-then-triple-lt2 c =
    let a = c.args in
    triple_ends a.seal.now a.at a.size (2 * c.loop-i.i) (a.size - 3 * c.loop-i.i) c.loop-i.invariant (omega arith) _
    c.pair_front-triple.ensures c.if-triple-lt2.true

pub loop-i-preserved : goal.loop-i-preserved
loop-i-preserved c =
    let a = c.args in
    next a.seal.now a.at a.size c.loop-i.i
    (triple_goes a.seal.now a.at a.size (2 * c.loop-i.i) (a.size - 3 * c.loop-i.i) c.loop-i.invariant (omega arith) _
    c.pair_front-triple.ensures c.if-triple-lt2.false)

pub overflow_add-result-in-2 : goal.overflow_add-result-in-2
overflow_add-result-in-2 c = let few = pair_few _ _ _ c.pair_front.ensures in search (rules, few)

pub returns-in-2 : goal.returns-in-2
returns-in-2 c =
    let a = c.args in
    two_end a.seal.now a.at a.size (2 * c.threes-triples.result) (a.size - 3 * c.threes-triples.result)
    (all a.seal.now a.at a.size c.loop-i.i c.threes-triples.result (omega arith) c.loop-i.invariant)
    c.in-2.is _ c.pair_front.ensures

pub overflow_add-result-in-1 : goal.overflow_add-result-in-1
overflow_add-result-in-1 c = let few = pair_few _ _ _ c.pair_front-in-1.ensures in search (rules, few)

pub returns-in-1 : goal.returns-in-1
returns-in-1 c =
    let a = c.args in
    one_ends a.seal.now a.at a.size (2 * c.threes-triples.result) (a.size - 3 * c.threes-triples.result)
    (all a.seal.now a.at a.size c.loop-i.i c.threes-triples.result (omega arith) c.loop-i.invariant)
    c.in-1.is _ c.pair_front-in-1.ensures

pub returns-in_default : goal.returns-in_default
returns-in_default c =
    let a = c.args in
    none_ends a.seal.now a.at a.size (2 * c.threes-triples.result) (a.size - 3 * c.threes-triples.result)
    (all a.seal.now a.at a.size c.loop-i.i c.threes-triples.result (omega arith) c.loop-i.invariant) (omega arith)
