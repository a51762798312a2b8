-- `ecdsa_to_raw::to_raw` meets its contract: n and the sequence are judged, and what it holds goes to `put_pair`.
-- Assumes nothing.
use native.Mathlib.Omega.{arith}
use mathlib.Core.Path.{◌≡◌, refl, ap, sym, ◌∙◌}
use mathlib.Core.Bool.{true}
use Rattle.format.specs.Answers.{told, filled}
use Rattle.format.proofs.Answers.Laws.{refuses}
use Rattle.der.proofs.Elements.Exact.{Found, element_whole}
use Rattle.ecdsa.specs.Signature.{is_size}
use Rattle.ecdsa.specs.Signature.Laws.{size_bounds}
use Rattle.ecdsa.proofs.Strict.Laws.{raw_none, raw_more}
use Rattle.ecdsa.specs.Strict.ToRaw.{to_raw_no_size, to_raw_not_strict}
use Rattle.ecdsa_to_raw.specs.Rawed.{to_raw_pair}
use Rattle.ecdsa_to_raw.proofs.to_raw.Goals as goal
use Rattle.ecdsa_to_raw.proofs.to_raw.Goals.{Else-not-is_size, In-Some}

sized : (c : Else-not-is_size) → is_size c.args.n ≡ true
sized c = sym c.is_size.ensures ∙ c.if-not-is_size.false

-- the sequence is whole
framed :
    (c : In-Some) →
    Found 0x30 c.args.der.now c.in-Some.body.start c.in-Some.body.end
framed c =
    element_whole 0x30 _ (λ i. (c.type_inv.der i).fits) _ _
    (sym c.element_of.ensures ∙ c.in-Some.is)

pub returns-then-not-is_size : goal.returns-then-not-is_size
returns-then-not-is_size c =
    let w = refuses _ 60 0 _ (to_raw_no_size _ _ _ (sym c.is_size.ensures ∙ c.if-not-is_size.true)) in
    record { answer = w.0; buffer = w.1 }

pub returns-in_default : goal.returns-in_default
returns-in_default c =
    let w = refuses _ 62 0 _ (to_raw_not_strict _ _ _ (sized (goal.at.returns-in_default c).Else-not-is_size) (raw_none _ _ (sym c.element_of.ensures ∙ c.in_default.is))) in
    record { answer = w.0; buffer = w.1 }

pub returns-then-body-der : goal.returns-then-body-der
returns-then-body-der c =
    let w = refuses _ 62 0 _
    (to_raw_not_strict _ _ _ (sized (goal.at.returns-then-body-der c).Else-not-is_size)
    (raw_more _ _ _ _ (sym c.element_of.ensures ∙ c.in-Some.is) c.if-body-der.true)) in
    record { answer = w.0; buffer = w.1 }

pub put_pair-requires : goal.put_pair-requires
put_pair-requires c = omega (arith, size_bounds _ (sized (goal.at.put_pair-requires c).Else-not-is_size))

pub slice_bounds-put_pair-count : goal.slice_bounds-put_pair-count
slice_bounds-put_pair-count c = let f = framed (goal.at.slice_bounds-put_pair-count c).In-Some in omega (arith, f.order, f.inside)

pub slice_bounds-put_pair-start : goal.slice_bounds-put_pair-start
slice_bounds-put_pair-start c = let f = framed (goal.at.slice_bounds-put_pair-start c).In-Some in omega (arith, f.order, f.inside)

pub returns : goal.returns
returns c =
    let a = c.args in
    let found = sym c.element_of.ensures ∙ c.in-Some.is in
    let e = to_raw_pair _ _ _ _ _ (sized (goal.at.returns c).Else-not-is_size) found c.if-body-der.false _ refl in
    record { answer = c.put_pair.ensures.answer ∙ ap told e; buffer = c.put_pair.ensures.buffer ∙ ap (λ o. filled o a.out.now) e }
