-- `Chart::last` meets its contract: a last pair that carries something is one character where its number is over 64,000, and else two or
-- three, by its third value.
-- Assumes nothing.
use native.Mathlib.Omega.{arith}
use mathlib.Core.Path.{◌≡◌, ◌∙◌, ap, sym}
use Prim.Native.Nat.{ℕ, ◌+◌, ◌*◌, ◌-◌, ◌≤◌}
use mathlib.Core.List.{List}
use lib.ListN.{get_or}
use Rattle.std.specs.Prelude.{Ok}
use Rattle.pairs.specs.Chart.{char}
use Rattle.pairs.specs.Pairs.{number, first, second, third}
use Rattle.pairs.proofs.Pairs.Laws.{last_one, last_some, last_two, last_three}
use Rattle.pairs.specs.declared.decode.Pair.TheVariants.{Two, Three}
use Rattle.c40_read.proofs.decode.Chart.last.Goals as goal
use Rattle.c40_read.proofs.decode.Chart.last.Goals.{After-split-v, Else-number-gt64000}

-- over 64,000
pub overflow_sub-result : goal.overflow_sub-result
overflow_sub-result c = omega (arith, (last_one _ _ c.requires (omega arith)).0)

pub returns-then-number-gt64000 : goal.returns-then-number-gt64000
returns-then-number-gt64000 c = sym (last_one _ _ c.requires (omega arith)).1

-- at most 64,000
most : (c : Else-number-gt64000) → let a = c.args in number a.x a.y ≤ 64000
most c = omega arith

-- the three values are those of the pair's number
record Values (c : After-split-v) : Type 0 where
  is_first : c.split-v.result.a ≡ first (number c.args.x c.args.y)
  is_second : c.split-v.result.b ≡ second (number c.args.x c.args.y)
  is_third : c.split-v.result.c ≡ third (number c.args.x c.args.y)

of_number : (c : After-split-v) → Values c
of_number c =
    let a = c.args in
    let s = c.split-v.ensures in
    let low = last_some _ _ c.requires (most (goal.at.After-split-v c).Else-number-gt64000) in
    let less = c.wide.result * 256 + c.wide-2.result - 1 in
    let e : less + 1 ≡ number a.x a.y = omega (arith, low) in
    record { is_first = s.0 ∙ ap first e; is_second = s.1.0 ∙ ap second e; is_third = s.1.1 ∙ ap third e }

pub returns-then-c-eq0 : goal.returns-then-c-eq0
returns-then-c-eq0 c =
    let v = c.split-v.result in
    let n = of_number (goal.at.returns-then-c-eq0 c).After-split-v in
    ap (λ (t : List ℕ). Ok (Two (get_or t v.a 0) (get_or t v.b 0))) c.args.self.now.is_chart
    ∙ (λ i. Ok (Two (char (n.is_first i)) (char (n.is_second i))))
    ∙ sym (last_two _ _ c.requires (most (goal.at.returns-then-c-eq0 c).Else-number-gt64000) (sym n.is_third ∙ c.if-c-eq0.true))

pub returns : goal.returns
returns c =
    let v = c.split-v.result in
    let n = of_number (goal.at.returns c).After-split-v in
    ap (λ (t : List ℕ). Ok (Three (get_or t v.a 0) (get_or t v.b 0) (get_or t v.c 0))) c.args.self.now.is_chart
    ∙ (λ i. Ok (Three (char (n.is_first i)) (char (n.is_second i)) (char (n.is_third i))))
    ∙ sym (last_three _ _ c.requires (most (goal.at.returns c).Else-number-gt64000) (λ z. c.if-c-eq0.false (n.is_third ∙ z)))

pub overflow_sub-number : goal.overflow_sub-number
overflow_sub-number c = omega (arith, last_some _ _ c.requires (most (goal.at.overflow_sub-number c).Else-number-gt64000))
