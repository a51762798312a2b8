-- `raw_form::put_second` meets its contract: each `return` is one case of `lastly`.
-- Assumes nothing.
use mathlib.Core.Path.{ap, sym, ◌∙◌}
use lib.ListN.{length}
use Rattle.format.specs.Answers.{told, filled}
use Rattle.format.proofs.Answers.Laws.{refuses}
use Rattle.ecdsa.specs.Strict.{padded, lastly}
use Rattle.ecdsa.proofs.Strict.Laws.{Inside, number_inside}
use Rattle.ecdsa_to_raw.specs.Rawed.{rawed, rawed_none, second_left, second_is, number_fits}
use Rattle.ecdsa_to_raw.proofs.raw_form.put_second.Goals as goal
use Rattle.ecdsa_to_raw.proofs.raw_form.put_second.Goals.{In-Some}

-- the digits of s lie inside the rest
inside :
    (c : In-Some) →
    Inside c.args.n c.args.rest.now c.in-Some.s.start c.in-Some.s.end
inside c =
    number_inside _ _ (λ i. (c.type_inv.rest i).fits) _ _
    (sym c.number_in.ensures ∙ c.in-Some.is)

pub returns-in_default : goal.returns-in_default
returns-in_default c =
    let w = refuses _ 62 0 _ (rawed_none _ _ _ (ap (lastly _ _ _) (sym c.number_in.ensures ∙ c.in_default.is))) in
    record { answer = w.0; buffer = w.1 }

pub returns-then-s-rest : goal.returns-then-s-rest
returns-then-s-rest c =
    let w = refuses _ 62 0 _
    (rawed_none _ _ _
    (second_left _ _ _ _ _ (sym c.number_in.ensures ∙ c.in-Some.is) c.if-s-rest.true)) in
    record { answer = w.0; buffer = w.1 }

pub put_both-requires : goal.put_both-requires
put_both-requires c =
    let asked = c.requires in
    (asked.1, asked.2, number_fits _ _ _ _ (inside (goal.at.put_both-requires c).In-Some))

pub slice_bounds-put_both-count : goal.slice_bounds-put_both-count
slice_bounds-put_both-count c = (inside (goal.at.slice_bounds-put_both-count c).In-Some).order

pub slice_bounds-put_both-start : goal.slice_bounds-put_both-start
slice_bounds-put_both-start c = (inside (goal.at.slice_bounds-put_both-start c).In-Some).order

pub returns : goal.returns
returns c =
    let a = c.args in
    let read = sym c.number_in.ensures ∙ c.in-Some.is in
    let e = second_is _ _ _ _ (padded a.n a.r.now) read c.if-s-rest.false in
    record { answer = c.put_both.ensures.answer ∙ ap (λ r. told (rawed a.n r (length a.out.now))) e; buffer = c.put_both.ensures.buffer ∙ ap (λ r. filled (rawed a.n r (length a.out.now)) a.out.now) e }
