-- `Chart::judge` meets its contract: where the pairs before the last stop to be full, the pair that stands there decides.
-- Assumes nothing.
use native.Mathlib.Omega.{arith}
use mathlib.Core.Path.{◌≡◌, ◌∙◌, ap, sym}
use Prim.Native.Nat.{ℕ, ◌+◌, ◌*◌, ◌-◌, ◌/◌, ◌%◌, ◌<◌, ◌≤◌}
use mathlib.Core.List.{List, []}
use lib.Dec.{eqb}
use lib.ListN.{length, get_or}
use Rattle.pairs.specs.Chart.{the_chart}
use Rattle.pairs.specs.Pairs.{pair_of, chars_of}
use Rattle.pairs.proofs.Pairs.Laws.{chars_most, by_chart}
use Rattle.pairs.specs.declared.decode.Pair.{Pair}
use Rattle.pairs.specs.declared.decode.Pair.TheVariants.{Three, Two, One}
use Rattle.c40.specs.Decode.{judged_of}
use Rattle.c40.proofs.Decode.Laws.{sofar_start, sofar_end}
use Rattle.std.specs.Prelude.{Ok}
use Rattle.c40_read.specs.Full.Laws.{Whole, stopped_wrong, stopped_whole}
use Rattle.c40_read.proofs.decode.Chart.judge.Goals as goal
use Rattle.c40_read.proofs.decode.Chart.judge.Goals.{After-pair_of-pair, Else-n-eq0, In-Ok}

abbrev bytes : After-pair_of-pair → List ℕ
bytes c = c.args.bytes.now

-- where there is a byte, there is a pair, and the last one's place is even
at_least : (n : ℕ) → n % 2 ≡ 0 → (n ≡ 0 → ⊥) → 2 ≤ n
at_least n e h = omega (arith, h)

two : (c : Else-n-eq0) → 2 ≤ length c.args.bytes.now
two c = at_least _ c.requires.even c.if-n-eq0.false

last_even : (n : ℕ) → n % 2 ≡ 0 → (n - 2) % 2 ≡ 0
last_even n e = omega arith

pub returns-then-n-eq0 : goal.returns-then-n-eq0
returns-then-n-eq0 c = ap judged_of (sym (sofar_end _ 0 [] (sofar_start _) (omega arith)))

pub overflow_sub-last : goal.overflow_sub-last
overflow_sub-last c = two c

pub full-at-requires : goal.full-at-requires
full-at-requires c = (last_even _ c.requires.even, omega arith)

pub bounds-bytes-at : goal.bounds-bytes-at
bounds-bytes-at c = omega (arith, two (goal.at.bounds-bytes-at c).Else-n-eq0, c.full-at.ensures.inside)

pub bounds-bytes-at-2 : goal.bounds-bytes-at-2
bounds-bytes-at-2 c = omega (arith, two (goal.at.bounds-bytes-at-2 c).Else-n-eq0, c.full-at.ensures.inside)

-- what the pair that was found carries, by the chart
abbrev at_of : After-pair_of-pair → ℕ
at_of c = c.full-at.result

told_pair : (c : After-pair_of-pair)
    → let s = bytes c in
    c.pair_of-pair.result ≡ pair_of the_chart (eqb (at_of c) (length s - 2)) (get_or s (at_of c) 0) (get_or s (at_of c + 1) 0)
told_pair c = by_chart _ _ _ c.args.self.now.is_chart c.pair_of-pair.ensures

ends : (c : After-pair_of-pair) → length (bytes c) - 2 + 2 ≡ length (bytes c)
ends c = omega (arith, two (goal.at.After-pair_of-pair c).Else-n-eq0)

pub returns-in-Err : goal.returns-in-Err
returns-in-Err c =
    ap judged_of (sym (stopped_wrong _ _ _ (ends (goal.at.returns-in-Err c).After-pair_of-pair) c.full-at.ensures _ (told_pair (goal.at.returns-in-Err c).After-pair_of-pair) _ c.in-Err.is))

-- a pair that is not wrong carries characters; then it is the last one, and the bytes are text
carries : (p : Pair) → 0 < length (chars_of (Ok p))
carries (Three a b c) = omega arith
carries (Two a b) = omega arith
carries (One a) = omega arith

whole : (c : In-Ok) → Whole c.args.bytes.now (length c.args.bytes.now - 2) (Ok c.in-Ok.field-0)
whole c =
    stopped_whole _ _ _ (ends (goal.at.In-Ok c).After-pair_of-pair) c.full-at.ensures _ (sym c.in-Ok.is ∙ told_pair (goal.at.In-Ok c).After-pair_of-pair)
    (carries c.in-Ok.field-0)

pub overflow_add-result : goal.overflow_add-result
overflow_add-result c = omega (arith, chars_most (Ok c.in-Ok.field-0), c.carried.ensures, ap (λ p. length (chars_of p)) c.in-Ok.is)

pub returns-in-Ok : goal.returns-in-Ok
returns-in-Ok c =
    let w = whole (goal.at.returns-in-Ok c).In-Ok in
    let many = ap (λ k. (length c.args.bytes.now - 2) / 2 * 3 + k) (c.carried.ensures ∙ ap (λ p. length (chars_of p)) c.in-Ok.is) ∙ sym w.size in
    ap Ok many ∙ ap judged_of (sym w.is_text_lem)
