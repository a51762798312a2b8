-- Tests in order (document 01, "The numbers a call answers"): a call is refused by the first test that is not passed, with its number and
-- place.
-- Assumes nothing.
pub mod Laws
use Rattle.std.specs.Prelude.{◌≡◌, Bool, true, ℕ, List, [], ◌∷◌, leb, length}
use Rattle.format.specs.Choice.{pick}
use Rattle.format.specs.Answers.{Outcome, Valued, done, refused, refusal}

pub record Test : Type 0 where
  pub number : ℕ
  pub place : ℕ
  pub passed : Bool

abbrev pub test : ℕ → ℕ → Bool → Test
test number place passed = record { number = number; place = place; passed = passed }

-- what is answered: where all tests are passed the answer given, else what is made of the first one's number and place
abbrev pub first_failed : {A : Type 0} → (ℕ → ℕ → A) → List Test → A → A
first_failed refuse [] a = a
first_failed refuse (t ∷ tests) a = pick t.passed (first_failed refuse tests a) (refuse t.number t.place)

-- of a call that fills a buffer
abbrev pub in_order : List Test → Outcome → Outcome
in_order tests o = first_failed refused tests o

-- all of these bytes where there is room for them, else this number
unfoldable pub in_room : ℕ → List ℕ → ℕ → Outcome
in_room number bytes room = in_order (test number 0 (leb (length bytes) room) ∷ []) (done bytes)

-- of a call that gives a value, with the zero of the value's type
abbrev pub value_in_order : {A : Type 0} → A → List Test → Valued A → Valued A
value_in_order zero tests g = first_failed (λ number place. refusal zero number) tests g

-- the number of the first test that is not passed, and 0 where all are
abbrev pub first_number : List Test → ℕ
first_number tests = first_failed (λ number place. number) tests 0

-- all tests are passed
abbrev pub Passed : List Test → Type 0
Passed [] = Unit
Passed (t ∷ tests) = (t.passed ≡ true) × Passed tests

-- the numbers that the tests can answer, in their order
abbrev pub numbers : List Test → List ℕ
numbers [] = []
numbers (t ∷ tests) = t.number ∷ numbers tests
