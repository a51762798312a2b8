-- What a call answers (document 01, "The numbers a call answers"): a number, a place, and for a call that fills a
-- buffer the bytes it writes from
-- the buffer's start. A refusal writes nothing.
-- Assumes nothing.
use Rattle.std.specs.Prelude.{ℕ, List, [], ◌++◌, length, drop}

pub record Outcome : Type 0 where
  pub number : ℕ
  pub place : ℕ
  pub written : List ℕ

abbrev pub done : List ℕ → Outcome
done bytes = record { number = 0; place = 0; written = bytes }

abbrev pub refused : ℕ → ℕ → Outcome
refused number place = record { number = number; place = place; written = [] }

-- What the call's own answer says of an outcome: number, place and the count written.
pub record Answer : Type 0 where
  pub number : ℕ
  pub place : ℕ
  pub count : ℕ

abbrev pub told : Outcome → Answer
told o = record { number = o.number; place = o.place; count = length o.written }

-- What a lent buffer holds afterwards: the bytes written, and past them what was there.
abbrev pub filled : Outcome → List ℕ → List ℕ
filled o out = o.written ++ drop (length o.written) out

-- What a call answers that gives a value by itself: a number, a place and the value, which is a zero on a refusal.
pub record Valued (A : Type 0) : Type 0 where
  pub number : ℕ
  pub place : ℕ
  pub value : A

abbrev pub result : {A : Type 0} → A → Valued A
result v = record { number = 0; place = 0; value = v }

-- a refusal at place 0, with the zero of the value's type
abbrev pub refusal : {A : Type 0} → A → ℕ → Valued A
refusal nothing number = record { number = number; place = 0; value = nothing }
