-- `der::long_form` meets its contract: each `return` is one case of the definition, with the tests that led there.
-- Assumes nothing.
use native.Mathlib.Omega.{arith}
use native.Mathlib.Nat.{add-sub_cancel}
use mathlib.Core.Path.{◌≡◌, ◌∙◌, ap, sym, subst}
use Prim.Native.Nat.{ℕ, ◌+◌, ◌-◌, ◌<◌, ◌≤◌}
use mathlib.Core.List.{List}
use lib.ListN.{length, drop, length-drop}
use Rattle.format.specs.BigEndian.{val}
use Rattle.format.specs.BigEndian.Laws.{val_part}
use Rattle.der.specs.Length.{is, least}
use Rattle.der.proofs.Lengths.Laws.{long_cut, long_loose, long_is}
use Rattle.der.proofs.long_form.Goals as goal
use Rattle.der.proofs.long_form.Goals.{After-number-value}

-- so many bytes stand after the first
there : (s : List ℕ) (k : ℕ) → k ≤ length s - 1 → k ≤ length (drop 1 s)
there s k h = omega (arith, length-drop 1 s)

missing : (s : List ℕ) (k : ℕ) → length s - 1 < k → length (drop 1 s) < k
missing s k h = omega (arith, length-drop 1 s)

eight : (k : ℕ) → k < 5 → k ≤ 8
eight k h = omega arith

-- the number in the bytes after the first
value :
    (c : After-number-value) →
    let a = c.args in c.number-value.result ≡ val (drop 1 a.s.now) a.k
value c =
    let s = c.args.s.now in
    let k = c.args.k in
    c.number-value.ensures
    ∙ val_part k _ (drop 1 s) (add-sub_cancel k 1) (there s k c.if-s-k.false) (eight k c.requires.1.1)

pub returns-then-s-k : goal.returns-then-s-k
returns-then-s-k c = let a = c.args in sym (long_cut a.k (drop 1 a.s.now) (missing a.s.now a.k c.if-s-k.true))

pub returns-then-value-least : goal.returns-then-value-least
returns-then-value-least c =
    let a = c.args in
    let s = a.s.now in
    sym
    (long_loose a.k (drop 1 s) (there s a.k c.if-s-k.false)
    (subst (λ n. n < least a.k) (value (goal.at.returns-then-value-least c).After-number-value) (subst (λ n. c.number-value.result < n) c.least.ensures c.if-value-least.true)))

pub returns : goal.returns
returns c =
    let a = c.args in
    let s = a.s.now in
    ap (λ n. is n (a.k + 1)) (value (goal.at.returns c).After-number-value)
    ∙ sym
    (long_is a.k (drop 1 s) (there s a.k c.if-s-k.false)
    (subst (λ n. least a.k ≤ n) (value (goal.at.returns c).After-number-value) (subst (λ n. n ≤ c.number-value.result) c.least.ensures c.if-value-least.false)))
