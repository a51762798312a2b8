-- What is proved of the walk, in the sentences of document 02, Ticket 2, each before its theorem.
-- Assumes nothing.
use Rattle.std.specs.Prelude.{◌≡◌, refl, Bool, true, false, ◌⊎◌, ℕ, zero, suc, ◌+◌, ◌≤◌, List, [], ◌∷◌, ◌++◌, map, eqb, length, replicate}
use Rattle.std.proofs.Common.{ap, ◌∙◌, inl, inr, ⊎_elim, arith}
use Rattle.std.specs.Borrow.{Bor}
use Rattle.format.specs.Bytes.{Bytes}
use Rattle.format.specs.Choice.{pick}
use Rattle.rows.specs.declared.Row.{Row}
use Rattle.verdict.specs.Items.{Read, is, not, byte, version, plain_in}
use Rattle.verdict.specs.Judge.{Report, Verdict, accepted, refused, judge, row}
use Rattle.verdict.specs.Judge.Listed.{FromList, from_list}
use Rattle.verdict.specs.Frames.{end_of}
use Rattle.reading.specs.Calls.{answer_of}
use Rattle.walk_steps.specs.declared.Step.{Step}
use Rattle.walk_steps.specs.Steps.{start_of, no_more, found, unless, feature_at, step_at}
use Rattle.walk_steps.specs.Rows.{Finds}
use Rattle.walk_steps.proofs.Rows.Laws.{rows_found}
use Rattle.walk.specs.declared.Walk.{Walk}
use Rattle.walk.specs.Walks.{walk_at, opened_of, next_of, asked}

-- what the walk answers for a row: 0, the row, and the place where its feature ends
abbrev pub found_row : Row → Step
found_row r = found r (end_of r)

-- no step is made at place 0
asked_closed : (times : ℕ) (s : Bor (List ℕ)) → asked times (walk_at s 0) ≡ replicate times no_more
unfolding asked step_at
asked_closed zero s = refl
asked_closed (suc times) s = let ih = asked_closed times s in ap (λ l. no_more ∷ l) ih

-- where no feature is found it says 51, as often as it is asked
asked_none : (times at : ℕ) (s : Bor (List ℕ)) → step_at s.now at ≡ no_more → asked times (walk_at s at) ≡ replicate times no_more
unfolding asked
asked_none zero at s f = refl
asked_none (suc times) at s f =
    ap (λ q. q ∷ asked times (walk_at s q.at)) f ∙ ap (λ l. no_more ∷ l) (asked_closed times s)

-- the rows that are found from a place on, and then 51
asked_rows : (rows : List Row) (more at : ℕ) (s : Bor (List ℕ)) → Finds s.now at rows
    → asked (length rows + more) (walk_at s at) ≡ map found_row rows ++ replicate more no_more
unfolding asked
asked_rows [] more at s f = let k : 0 + more ≡ more = omega arith in ap (λ k. asked k (walk_at s at)) k ∙ asked_none more at s f
asked_rows (r ∷ rows) more at s f =
    let ih = asked_rows rows more (end_of r) s f.1 in
    let k : suc (length rows) + more ≡ suc (length rows + more) = omega arith in
    ap (λ k. asked k (walk_at s at)) k
    ∙ ap (λ q. q ∷ asked (length rows + more) (walk_at s q.at)) f.0
    ∙ ap (λ l. found_row r ∷ l) ih

-- "It gives exactly the rows of the full reading, in order": opened on an accepted seal and asked again and again, a walk answers with the
-- rows that the judging reports, one after another, and from then on 51 for ever. "With tag and value": what these rows say of a published
-- form is its features, `features_reported` in crates/verdict/proofs/Report/Laws.antt.
pub same_rows : (s : Bor (List ℕ)) → Bytes s.now → (r : Report) → judge s.now ≡ accepted r → (more : ℕ)
    → asked (length r.rows + more) (opened_of s).walk ≡ map found_row r.rows ++ replicate more no_more
same_rows s bytes r e more =
    ap (λ v. asked (length r.rows + more) (walk_at s (start_of v).at)) e
    ∙ asked_rows r.rows more r.header_end s (rows_found s.now bytes r e)

-- "A refused seal gives its number and place ... opens no walk": however often it is asked it says 51
pub no_walk : (s : Bor (List ℕ)) (number place : ℕ) → judge s.now ≡ refused number place
    → ((opened_of s).start ≡ record { number = number; place = place; at = 0 })
    × ((times : ℕ) → asked times (opened_of s).walk ≡ replicate times no_more)
no_walk s number place e =
    (ap start_of e, λ times. ap (λ v. asked times (walk_at s (start_of v).at)) e ∙ asked_closed times s)

-- number and place of an opening are the judge's, for every byte string; "12 is not given here"
started : (v : Verdict) → ((start_of v).number ≡ (answer_of v).number) × ((start_of v).place ≡ (answer_of v).place)
started (accepted r) = (refl, refl)
started (refused number place) = (refl, refl)

few : (v : Verdict) → FromList v → (start_of v).number ≤ 11
few (accepted r) l = omega arith
few (refused number place) l = l.1

pub as_judged : (s : Bor (List ℕ)) → ((opened_of s).start.number ≡ (answer_of (judge s.now)).number)
    × ((opened_of s).start.place ≡ (answer_of (judge s.now)).place)
as_judged s = started (judge s.now)

pub opened_listed : (s : Bor (List ℕ)) → (opened_of s).start.number ≤ 11
opened_listed s = few (judge s.now) (from_list s.now)

-- "51 no further feature": a step is 0 at place 0, or it is 51 with every other field 0, from whatever place it is made
abbrev Told : Step → Type 0
Told q = ((q.number ≡ 0) × (q.place ≡ 0)) ⊎ (q ≡ no_more)

read_told : {R A : Type 0} (i : Read R A) (rest : A → ℕ → Step) → ((a : A) (at : ℕ) → Told (rest a at)) → Told (unless i rest)
read_told (is a at) rest f = f a at
read_told (not why place) rest f = inr refl

choice_told : (b : Bool) (q : Step) → Told q → Told (pick b no_more q)
choice_told true q t = inr refl
choice_told false q t = t

pub step_listed : (s : List ℕ) (at : ℕ) → (((step_at s at).number ≡ 0) × ((step_at s at).place ≡ 0)) ⊎ (step_at s at ≡ no_more)
unfolding step_at feature_at
step_listed s at =
    choice_told (eqb at 0) _
    (read_told (version 1 s) _
    (λ v second. read_told (byte at s (plain_in at)) _
    (λ x mid. choice_told (eqb x 0xFF) _ (read_told (row v x at mid s) found (λ r after. inl (refl, refl))))))

-- a walk that has said 51 says it again and again, wherever it was
pub stays_ended : (w : Walk) → (next_of w).step.number ≡ 51 → (times : ℕ) → asked times (next_of w).walk ≡ replicate times no_more
stays_ended w e times =
    let s = w.seal in
    ⊎_elim (λ z. absurd (omega (arith, e, z.0)))
    (λ z. ap (λ q. asked times (walk_at s q.at)) z ∙ asked_closed times s)
    (step_listed s.now w.at)
