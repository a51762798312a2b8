-- `raw_form::put_pair` meets its contract: nothing at the head, or r there and the rest handed on.
-- Assumes nothing.
use mathlib.Core.Path.{refl, ap, sym, ◌∙◌}
use lib.ListN.{length}
use Rattle.format.specs.Answers.{told, filled}
use Rattle.format.proofs.Answers.Laws.{refuses}
use Rattle.ecdsa.specs.Strict.{pair_in}
use Rattle.ecdsa.proofs.Strict.Laws.{Inside, number_inside}
use Rattle.ecdsa_to_raw.specs.Rawed.{rawed, rawed_none, pair_second, number_fits}
use Rattle.ecdsa_to_raw.proofs.raw_form.put_pair.Goals as goal
use Rattle.ecdsa_to_raw.proofs.raw_form.put_pair.Goals.{In-Some}

-- the digits of r lie inside the sequence
inside :
    (c : In-Some) →
    Inside c.args.n c.args.pair.now c.in-Some.r.start c.in-Some.r.end
inside c =
    number_inside _ _ (λ i. (c.type_inv.pair i).fits) _ _
    (sym c.number_in.ensures ∙ c.in-Some.is)

pub returns-in_default : goal.returns-in_default
returns-in_default c =
    let w = refuses _ 62 0 _ (rawed_none _ _ _ (ap (pair_in _ _) (sym c.number_in.ensures ∙ c.in_default.is))) in
    record { answer = w.0; buffer = w.1 }

pub put_second-requires : goal.put_second-requires
put_second-requires c = (c.requires.0, c.requires.1, number_fits _ _ _ _ (inside (goal.at.put_second-requires c).In-Some))

pub slice_bounds-put_second-count : goal.slice_bounds-put_second-count
slice_bounds-put_second-count c = (inside (goal.at.slice_bounds-put_second-count c).In-Some).order

pub slice_bounds-put_second-start : goal.slice_bounds-put_second-start
slice_bounds-put_second-start c = (inside (goal.at.slice_bounds-put_second-start c).In-Some).order

pub slice_bounds-put_second-end : goal.slice_bounds-put_second-end
slice_bounds-put_second-end c = (inside (goal.at.slice_bounds-put_second-end c).In-Some).end

pub slice_bounds-put_second-count-2 : goal.slice_bounds-put_second-count-2
slice_bounds-put_second-count-2 c = (inside (goal.at.slice_bounds-put_second-count-2 c).In-Some).end

pub slice_bounds-put_second-start-2 : goal.slice_bounds-put_second-start-2
slice_bounds-put_second-start-2 c = (inside (goal.at.slice_bounds-put_second-start-2 c).In-Some).end

pub returns : goal.returns
returns c =
    let a = c.args in
    let e = pair_second _ _ _ _ (sym c.number_in.ensures ∙ c.in-Some.is) _ refl in
    record { answer = c.put_second.ensures.answer ∙ ap (λ r. told (rawed a.n r (length a.out.now))) e; buffer = c.put_second.ensures.buffer ∙ ap (λ r. filled (rawed a.n r (length a.out.now)) a.out.now) e }
