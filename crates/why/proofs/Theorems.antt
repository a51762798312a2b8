-- "The reason must be the true one" (document 02, Ticket 11): what `why` tells of a refused byte string is its reason by the rules of
-- crates/rules, it has no other, and an accepted one has none.
-- Assumes nothing.
use Rattle.std.specs.Prelude.{◌≡◌, refl, ℕ, ◌+◌, ◌≤◌, List, length, take, drop}
use Rattle.std.proofs.Common.{ap, sym, subst, ◌∙◌, arith}
use Rattle.format.specs.Bytes.{Bytes}
use Rattle.causes.specs.Causes.{rule_number, item_code, rule_code}
use Rattle.rules.specs.Rules.{called, number_of, size_of}
use Rattle.rules.specs.Layout.{Item, At, named}
use Rattle.rules.specs.Reason.{Reason, number, judged}
use Rattle.rules.specs.Reason.One.{one_reason as one, OneReason, Kept, not_kept, Whole, whole_none, all_kept}
use Rattle.rules.proofs.Reason.Inside.{judged_inside}
use Rattle.verdict.specs.Items.{Way, is, not}
use Rattle.verdict.specs.Judge.{Report, Verdict, accepted, refused, verdict, judging, judge}
use Rattle.reading.specs.Calls.{answer_of}
use Rattle.reason.proofs.Goes.{Goes, own}
use Rattle.reason.proofs.Reading.{judging_goes}
use Rattle.why.specs.declared.Reason.{Reason as Answer}
use Rattle.why.specs.Told.{nothing, telling, told}

-- an answer tells of a reason: its number and place, the codes of its item and rule, and the bytes judged
pub record Tells {s : List ℕ} (r : Reason s) (a : Answer) : Type 0 where
  pub number : number r ≡ a.number
  pub place : r.place ≡ a.place
  pub item : item_code (named r.item) ≡ a.item
  pub rule : rule_code (called r.rule) ≡ a.rule
  pub judged_place : r.place ≡ a.judged.place
  pub judged_length : judged r ≡ a.judged.length

-- what a judging came to: all items kept and nothing told, or a reason that is told
pub record TrueReason (s : List ℕ) (a : Answer) : Type 0 where
  pub reason : Reason s
  pub tells : Tells reason a

abbrev Settled : List ℕ → Way Report → Type 0
Settled s (is r at) = Whole s
Settled s (not y place) = TrueReason s (telling s (not y place))

settled : (s : List ℕ) (i : Way Report) → Goes s own (λ (r : Report) end. Whole s) i → Settled s i
settled s (is r at) g = g
settled s (not y place) t = record {
  reason = t.reason;
  tells = record {
    number = ap rule_number t.rule_is;
    place = t.place_is;
    item = ap item_code t.item_is;
    rule = ap rule_code t.rule_is;
    judged_place = t.place_is;
    judged_length = t.judged_is;
  };
}

told_settled : (s : List ℕ) → Bytes s → Settled s (judging s)
told_settled s bytes = settled s (judging s) (judging_goes s bytes)

-- a refusal by its judging, and an acceptance
refused_way : (s : List ℕ) (i : Way Report) → Settled s i → (n p : ℕ) → verdict i ≡ refused n p
    → TrueReason s (telling s i) × ((telling s i).number ≡ n) × ((telling s i).place ≡ p)
refused_way s (is r at) w n p e = let z : ◌≡◌ {A = ℕ} 0 1 = cc in absurd (omega arith)
refused_way s (not y place) t n p e = (t, (cc), (cc))

accepted_way : (s : List ℕ) (i : Way Report) → Settled s i → (r : Report) → verdict i ≡ accepted r → (telling s i ≡ nothing) × Whole s
accepted_way s (is q at) w r e = (refl, w)
accepted_way s (not y place) t r e = let z : ◌≡◌ {A = ℕ} 0 1 = cc in absurd (omega arith)

-- number and place are those of the judge, for every byte string
way_judged : (s : List ℕ) (i : Way Report)
    → ((telling s i).number ≡ (answer_of (verdict i)).number) × ((telling s i).place ≡ (answer_of (verdict i)).place)
way_judged s (is r at) = (refl, refl)
way_judged s (not y place) = (refl, refl)

pub as_judged : (s : List ℕ) → ((told s).number ≡ (answer_of (judge s)).number) × ((told s).place ≡ (answer_of (judge s)).place)
unfolding judge told
as_judged s = way_judged s (judging s)

-- Of every refused byte string: what is told is its reason, so every item before the one named keeps every rule of its own, and that one
-- keeps each rule that comes before the one named, and breaks it; number and place are the reader's.
pub true_reason : (s : List ℕ) → Bytes s → (n p : ℕ) → judge s ≡ refused n p
    → TrueReason s (told s) × ((told s).number ≡ n) × ((told s).place ≡ p)
unfolding judge told
true_reason s bytes n p e = refused_way s (judging s) (told_settled s bytes) n p e

-- An accepted byte string has no reason, and nothing is told of it: every field is 0.
pub no_reason : (s : List ℕ) → Bytes s → (r : Report) → judge s ≡ accepted r → (told s ≡ nothing) × (Reason s → ⊥)
unfolding judge told
no_reason s bytes r e =
    let w = accepted_way s (judging s) (told_settled s bytes) r e in
    (w.0, whole_none w.1)

-- one whose every item keeps its rules, so that it has no reason, is accepted
pub record Accepted (s : List ℕ) : Type 0 where
  pub report : Report
  pub is_accepted : judge s ≡ accepted report

pub accepted_without : (s : List ℕ) → Bytes s → (Reason s → ⊥) → Accepted s
accepted_without s bytes none = by (judge s) refl
  where
    by : (v : Verdict) → judge s ≡ v → Accepted s
    by (accepted r) e = record { report = r; is_accepted = e }
    by (refused n p) e = absurd (none (true_reason s bytes n p e).0.reason)

-- "Exactly when no item on its way breaks a rule": every item that stands in an accepted byte string keeps all its rules, and where every
-- item that stands keeps all its rules the byte string is accepted.
pub accepted_keeps : (s : List ℕ) → Bytes s → (r : Report) → judge s ≡ accepted r → {i : Item} {p : ℕ} → At s i p → Kept s i p
unfolding judge
accepted_keeps s bytes r e a = all_kept (accepted_way s (judging s) (told_settled s bytes) r e).1 a

pub keeps_accepted : (s : List ℕ) → Bytes s → ((i : Item) (p : ℕ) → At s i p → Kept s i p) → Accepted s
keeps_accepted s bytes all = accepted_without s bytes (λ r. not_kept r (all r.item r.at r.way))

-- No byte string has two reasons: the one that it has, however it was found, is the one told, and the reader's number and place are its
-- own.
same_tells : {s : List ℕ} (r q : Reason s) (a : Answer) → OneReason r q → Tells q a → Tells r a
same_tells {s} r q a o t =
    record {
      number = ap number_of o.rule ∙ t.number;
      place = o.place ∙ t.place;
      item = ap (λ i. item_code (named i)) o.item ∙ t.item;
      rule = ap (λ i. rule_code (called i)) o.rule ∙ t.rule;
      judged_place = o.place ∙ t.judged_place;
      judged_length = (λ i. length (take (size_of s (o.at i) (o.rule i)) (drop (o.place i) s))) ∙ t.judged_length;
    }

pub reason_told : (s : List ℕ) → Bytes s → (r : Reason s) → Tells r (told s) × (judge s ≡ refused (number r) r.place)
reason_told s bytes r = by (judge s) refl
  where
    by : (v : Verdict) → judge s ≡ v → Tells r (told s) × (judge s ≡ refused (number r) r.place)
    by (accepted q) e = absurd ((no_reason s bytes q e).1 r)
    by (refused n p) e =
        let t = true_reason s bytes n p e in
        let tells = same_tells r t.0.reason (told s) (one r t.0.reason) t.0.tells in (
          tells,
          e ∙ ap (λ k. refused k p) (sym (tells.number ∙ t.1)) ∙ ap (refused (number r)) (sym (tells.place ∙ t.2)),
        )

-- The bytes judged are a part of the lent bytes.
pub part_judged : (s : List ℕ) → Bytes s → (told s).judged.place + (told s).judged.length ≤ length s
part_judged s bytes = by (judge s) refl
  where
    by : (v : Verdict) → judge s ≡ v → (told s).judged.place + (told s).judged.length ≤ length s
    by (accepted q) e =
        subst (λ (a : Answer). a.judged.place + a.judged.length ≤ length s) (sym (no_reason s bytes q e).0) (omega arith)
    by (refused n p) e =
        let t = (true_reason s bytes n p e).0 in
        omega (arith, judged_inside t.reason, t.tells.judged_place, t.tells.judged_length)
