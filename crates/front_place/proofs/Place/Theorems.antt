-- What holds between the longest front part and a refusal's place, proved: of a reason, of the reader's verdict, and of
-- `front`.
-- Assumes nothing.
use Rattle.std.specs.Prelude.{◌≡◌, refl, List, ℕ, suc, ◌+◌, ◌≤◌, ◌<◌, ltb, length, take, drop}
use Rattle.std.proofs.Common.{sym, ap, ◌∙◌, subst, arith, ltb-true, ltb-false, length-drop, length-take-le, take-take}
use Rattle.format.specs.Bytes.{Bytes}
use Rattle.format.specs.Choice.Laws.{by_test}
use Rattle.causes.specs.declared.Why.{Why}
use Rattle.rules.specs.Rules.{Rule, Keeps, Placed, called, size_of}
use Rattle.rules.specs.Layout.{Item, rules_of, At}
use Rattle.rules.specs.Reason.{Reason, judged}
use Rattle.rules.proofs.Reason.Inside.{at_inside, judged_inside}
use Rattle.rules.specs.Reason.One.{Whole}
use Rattle.verdict.specs.Items.{not}
use Rattle.verdict.specs.Judge.{Report, judging}
use Rattle.reason.proofs.Goes.{Told, Goes, own}
use Rattle.reason.proofs.Reading.{judging_goes}
use Rattle.front.specs.Front.{Sealed, Begins, Longest}
use Rattle.front.proofs.Front.Laws.{begins_take}
use Rattle.front.proofs.Front.Crew.{no_help, at_most}
use Rattle.front_header.specs.Header.{front}
use Rattle.front_header.proofs.Exact.{front_is}
use Rattle.front_place.specs.Place.{least, OfBytes, AtFirst, Between, Tells}
use Rattle.front_place.specs.Place.Steps.{known_at, leaves_at}
use Rattle.front_place.specs.Place.Room.{some_state, state_room}
use Rattle.front_place.specs.Place.Upper.{each_at, Right, right_of}

-- the place told is the item's first byte
placed_first : (s : List ℕ) (at : ℕ) (r : Rule) (p : ℕ) → Placed s at r p → AtFirst (called r) → p ≡ at
placed_first s at Rule.not_too_long p e f = absurd (f.1 refl)
placed_first s at (Rule.there k) p e f = e
placed_first s at Rule.is_mark p e f = e
placed_first s at Rule.is_version p e f = e
placed_first s at (Rule.well_coded k) p e f = absurd (f.0 refl)
placed_first s at Rule.country_code p e f = e
placed_first s at (Rule.signer_characters k) p e f = e
placed_first s at (Rule.reference_characters k from) p e f = e
placed_first s at Rule.hexadecimal_digits p e f = e
placed_first s at Rule.not_zero p e f = e
placed_first s at Rule.is_day p e f = e
placed_first s at Rule.one_to254 p e f = e
placed_first s at (Rule.not_used_before tags) p e f = e
placed_first s at Rule.begins_length p e f = e
placed_first s at Rule.rest_there p e f = e
placed_first s at Rule.shortest p e f = e
placed_first s at Rule.signature_size p e f = e
placed_first s at Rule.nothing_after p e f = e

-- or lies behind it
placed_from : (s : List ℕ) (at : ℕ) (r : Rule) (p : ℕ) → Placed s at r p → OfBytes (called r) → at ≤ p
placed_from s at Rule.not_too_long p e f = absurd (f.2 refl)
placed_from s at (Rule.there k) p e f = omega arith
placed_from s at Rule.is_mark p e f = omega arith
placed_from s at Rule.is_version p e f = omega arith
placed_from s at (Rule.well_coded k) p e f = omega (arith, e.1)
placed_from s at Rule.country_code p e f = omega arith
placed_from s at (Rule.signer_characters k) p e f = omega arith
placed_from s at (Rule.reference_characters k from) p e f = omega arith
placed_from s at Rule.hexadecimal_digits p e f = omega arith
placed_from s at Rule.not_zero p e f = omega arith
placed_from s at Rule.is_day p e f = omega arith
placed_from s at Rule.one_to254 p e f = omega arith
placed_from s at (Rule.not_used_before tags) p e f = omega arith
placed_from s at Rule.begins_length p e f = omega arith
placed_from s at Rule.rest_there p e f = omega arith
placed_from s at Rule.shortest p e f = omega arith
placed_from s at Rule.signature_size p e f = omega arith
placed_from s at Rule.nothing_after p e f = omega arith

module _ (s : List ℕ) (b : Bytes s) where
  -- the bytes before an item can stay, if there is room
  pub before_stay : {i : Item} {p : ℕ} → At s i p → p + least i ≤ 4096 → Begins Sealed (take p s)
  before_stay {i} {p} w r =
      let t = some_state i p (known_at w) r in
      (t.0, (leaves_at s b w).from t.0 t.1)

  -- and without that room they cannot
  pub before_not : {i : Item} {p : ℕ} → At s i p → 4096 < p + least i → Begins Sealed (take p s) → ⊥
  before_not {i} {p} w r g = omega (arith, state_room i p (known_at w) g.0 ((leaves_at s b w).to g.0 g.1))

  module _ (k : ℕ) (l : Longest Sealed s k) where
    -- a front part that a seal begins with is no longer
    begun_within : (p : ℕ) → p ≤ length s → Begins Sealed (take p s) → p ≤ k
    begun_within p h g =
        by_test (ltb k p)
        (λ e.
        let less = ltb-true k p e in
        absurd (l.no_more (omega arith) (begins_take Sealed (suc k) p s (omega arith) g)))
        (λ e. ltb-false k p e)

    -- and one that no seal begins with is longer
    not_begun : (p : ℕ) → (Begins Sealed (take p s) → ⊥) → k < p
    not_begun p never =
        by_test (ltb k p)
        (λ e. ltb-true k p e)
        (λ e. absurd (never (begins_take Sealed p k s (ltb-false k p e) l.begun)))

    -- the rule that is broken is told rightly
    rule_right : (r : Reason s) → Right s k r.at r.rule
    rule_right r =
        each_at (Keeps s r.at) (Right s k r.at) r.earlier r.rule r.later (rules_of r.item) r.own r.kept
        (right_of s b k l r.item r.at r.way)

    -- and all the bytes that it judges are there
    judged_all : (r : Reason s) → OfBytes (called r.rule) → judged r ≡ size_of s r.at r.rule
    judged_all r of =
        let h = rule_right r r.place r.placed r.broken of in
        length-take-le (size_of s r.at r.rule) (drop r.place s) (omega (arith, length-drop r.place s))

    -- What holds between the longest front part and the place of a reason.
    pub between : (r : Reason s) → Between s k r
    between r = record {
      from_item = λ h. begun_within r.at (at_inside r.way) (before_stay r.way h);
      before_item = λ h. not_begun r.at (before_not r.way h);
      place_is = placed_first s r.at r.rule r.place r.placed;
      place_from = placed_from s r.at r.rule r.place r.placed;
      in_judged = λ of.
          let h = rule_right r r.place r.placed r.broken of in
          omega (arith, judged_all r of);
      all_there = judged_all r;
      within = l.within;
      most = at_most s k l;
    }

    -- No seal has the bytes in front up to the last one judged.
    pub judged_hopeless :
        (r : Reason s) →
        OfBytes (called r.rule) →
        (t : List ℕ) →
        take (r.place + judged r) t ≡ take (r.place + judged r) s →
        Sealed t →
        ⊥
    judged_hopeless r of t e =
        let m = r.place + judged r in
        let h = (between r).in_judged of in
        let inside = judged_inside r in
        no_help s k l (omega arith) t
        (sym (take-take (suc k) m t (omega arith)) ∙ ap (take (suc k)) e ∙ take-take (suc k) m s (omega arith))

    -- The same of the reader's verdict.
    pub refused_tells : (y : Why) (place : ℕ) → judging s ≡ not y place → Tells s k y place
    refused_tells y place e =
        let told : Told s y place = subst (Goes s own (λ (x : Report) end. Whole s)) e (judging_goes s b) in
        let r = told.reason in
        let x = between r in
        record {
          told = told;
          between = x;
          from_place = λ f h.
              let first = x.place_is (subst AtFirst (sym told.rule_is) f) in
              let same = told.place_is in
              omega (arith, x.from_item (omega arith));
          before_place = λ f h.
              let first = x.place_is (subst AtFirst (sym told.rule_is) f) in
              let same = told.place_is in
              omega (arith, x.before_item (omega arith));
          in_judged = λ of.
              let h = x.in_judged (subst OfBytes (sym told.rule_is) of) in
              omega (arith, told.place_is, told.judged_is);
        }

-- And so of every refused input, with the length that `front` computes.
pub refused_front : (s : List ℕ) → Bytes s → (y : Why) (place : ℕ) → judging s ≡ not y place → Tells s (front s) y place
refused_front s b = refused_tells s b (front s) (front_is s b)
