-- How the definitions of Days.antt are told by tests, one law for each answer: the last of a month's run, a number's
-- place in it, and the bytes from a place on.
-- Assumes nothing.
use Rattle.std.specs.Prelude.{◌≡◌, refl, true, false, List, [], ◌∷◌, ℕ, ◌+◌, ◌-◌, ◌*◌, ◌/◌, ◌%◌, ◌<◌, ◌≤◌, leb, length, drop}
use Rattle.std.proofs.Math.Path.{ap}
use Rattle.std.proofs.Common.{sym, ◌∙◌, inl, inr, arith, ne_eqb}
use types.Run.{OneOf}
use Rattle.std.proofs.Math.ListN.{get_or}
use Rattle.format.specs.Choice.{pick, both, within}
use Rattle.format.specs.Choice.Laws.{by_test, within_below, within_above, within_true, within_last}
use Rattle.format.specs.BigEndian.{val}
use Rattle.format.specs.Places.{at_place, past_end}
use Rattle.format.specs.Quotient.{quotient}
use Rattle.format.specs.Answers.{result, refusal}
use Rattle.dates.specs.declared.Date.{Date}
use Rattle.dates.specs.Days.{is_day, date_of}
use Rattle.dates.specs.Calls.{no_date, from_number}
use Rattle.dates.proofs.Exact.{from_given, from_day}
use Rattle.front_days.specs.Days.{last_of, in_month, one_front, two_front, day_front}

-- April, June, September and November
pub last_thirty : (month : ℕ) → OneOf (4 ∷ 6 ∷ 9 ∷ 11 ∷ []) month → 309999 ≡ last_of month
last_thirty month (inl e) = ap last_of (sym e)
last_thirty month (inr (inl e)) = ap last_of (sym e)
last_thirty month (inr (inr (inl e))) = ap last_of (sym e)
last_thirty month (inr (inr (inr e))) = ap last_of (sym e)

-- neither these nor February
pub last_other : (month : ℕ) → (OneOf (4 ∷ 6 ∷ 9 ∷ 11 ∷ []) month → ⊥) → (month ≡ 2 → ⊥) → 319999 ≡ last_of month
last_other month other no-february =
    rw (
      ne_eqb month 4 (λ e. other (inl e)),
      ne_eqb month 6 (λ e. other (inr (inl e))),
      ne_eqb month 9 (λ e. other (inr (inr (inl e)))),
      ne_eqb month 11 (λ e. other (inr (inr (inr e)))),
      ne_eqb month 2 no-february,
    )
    refl

-- the month of a number of three bytes without a division, and what it leaves
pub month_of : (n : ℕ) → n < 16777216 → n * 17592187 / 17592186044416 ≡ n / 1000000
month_of n h = quotient 1000000 17592187 17592186044416 955584 (omega arith) refl n (omega arith)

pub rest_of : (n : ℕ) → n - n / 1000000 * 1000000 ≡ n % 1000000
rest_of n = omega arith

-- a number's place in its month's run
module _ (n : ℕ) where
  pub month_low : n / 1000000 ≡ 0 → false ≡ in_month n
  month_low h = ap (λ b. both b (within 10001 (last_of (n / 1000000)) (n % 1000000))) (sym (within_below 1 12 (n / 1000000) (omega arith)))

  pub month_high : 12 < n / 1000000 → false ≡ in_month n
  month_high h =
      ap (λ b. both b (within 10001 (last_of (n / 1000000)) (n % 1000000))) (sym (within_above 1 12 (n / 1000000) (omega arith) h))

  module _ (low : 1 ≤ n / 1000000) (high : n / 1000000 ≤ 12) where
    by_days : within 10001 (last_of (n / 1000000)) (n % 1000000) ≡ in_month n
    by_days = ap (λ b. both b (within 10001 (last_of (n / 1000000)) (n % 1000000))) (sym (within_true 1 12 (n / 1000000) low high))

    pub days_low : n % 1000000 < 10001 → false ≡ in_month n
    days_low h = sym (within_below 10001 (last_of (n / 1000000)) (n % 1000000) h) ∙ by_days

    pub days_last : 10001 ≤ n % 1000000 → leb (n % 1000000) (last_of (n / 1000000)) ≡ in_month n
    days_last h = within_last 10001 (last_of (n / 1000000)) (n % 1000000) h ∙ by_days

-- the bytes from a place on: none, one, two, and three or more
module _ (s : List ℕ) (at : ℕ) where
  pub front_none : length s ≤ at → 0 ≡ day_front (drop at s)
  unfolding day_front
  front_none h = ap day_front (sym (past_end s at h))

  pub front_one : length s ≡ at + 1 → one_front (get_or s at 0) ≡ day_front (drop at s)
  unfolding day_front
  front_one h = ap day_front (sym (at_place s at 0 (omega arith) ∙ ap (◌∷◌ (get_or s at 0)) (past_end s (at + 1) (omega arith))))

  -- the first two
  two_at : at + 2 ≤ length s → drop at s ≡ get_or s at 0 ∷ get_or s (at + 1) 0 ∷ drop (at + 2) s
  two_at h =
      let next : at + 1 + 1 ≡ at + 2 = omega arith in
      at_place s at 0 (omega arith)
      ∙ ap (◌∷◌ (get_or s at 0)) (at_place s (at + 1) 0 (omega arith) ∙ ap (λ k. get_or s (at + 1) 0 ∷ drop k s) next)

  pub front_two : length s ≡ at + 2 → two_front (get_or s at 0) (get_or s (at + 1) 0) ≡ day_front (drop at s)
  unfolding day_front
  front_two h =
      ap day_front
      (sym (two_at (omega arith) ∙ ap (λ t. get_or s at 0 ∷ get_or s (at + 1) 0 ∷ t) (past_end s (at + 2) (omega arith))))

  module _ (h : at + 3 ≤ length s) where
    three_at : drop at s ≡ get_or s at 0 ∷ get_or s (at + 1) 0 ∷ get_or s (at + 2) 0 ∷ drop (at + 2 + 1) s
    three_at =
        two_at (omega arith)
        ∙ ap (λ t. get_or s at 0 ∷ get_or s (at + 1) 0 ∷ t) (at_place s (at + 2) 0 (omega arith))

    by_three :
        pick (is_day (date_of (val (get_or s at 0 ∷ get_or s (at + 1) 0 ∷ get_or s (at + 2) 0 ∷ []) 3))) 3
        (two_front (get_or s at 0) (get_or s (at + 1) 0)) ≡
        day_front (drop at s)
    unfolding day_front
    by_three = ap day_front (sym three_at)

    pub front_day : is_day (date_of (val (get_or s at 0 ∷ get_or s (at + 1) 0 ∷ get_or s (at + 2) 0 ∷ []) 3)) ≡ true → 3 ≡ day_front (drop at s)
    front_day e = ap (λ b. pick b 3 (two_front (get_or s at 0) (get_or s (at + 1) 0))) (sym e) ∙ by_three

    pub front_no_day :
        is_day (date_of (val (get_or s at 0 ∷ get_or s (at + 1) 0 ∷ get_or s (at + 2) 0 ∷ []) 3)) ≡ false →
        two_front (get_or s at 0) (get_or s (at + 1) 0) ≡ day_front (drop at s)
    front_no_day e = ap (λ b. pick b 3 (two_front (get_or s at 0) (get_or s (at + 1) 0))) (sym e) ∙ by_three

-- what the date that was read says of its number
pub taken_day : (n : ℕ) (d : Date) → result d ≡ from_number n → is_day (date_of n) ≡ true
taken_day n d e = (from_given n d (sym e)).0

pub taken_none : (n : ℕ) → refusal no_date 6 ≡ from_number n → is_day (date_of n) ≡ false
taken_none n e =
    by_test (is_day (date_of n))
    (λ h. let z : ◌≡◌ {A = ℕ} 6 0 = ap (λ g. g.number) (e ∙ from_day n h) in absurd (omega arith))
    (λ h. h)
