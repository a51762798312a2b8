-- Laws of tests in order: all passed, the first that is not, back from what was answered, and what holds each way.
-- Assumes nothing.
use Rattle.std.specs.Prelude.{◌≡◌, refl, Bool, true, false, ℕ, ◌<◌, ◌≤◌, List, [], ◌∷◌, ◌++◌, length}
use Rattle.std.proofs.Common.{ap, sym, ◌∙◌, arith, le-leb}
use Rattle.std.proofs.lemmas.Bool.{lt-leb}
use Rattle.format.specs.Choice.{pick}
use Rattle.format.specs.Choice.Laws.{by_test}
use Rattle.format.specs.Answers.{Outcome, done, refused}
use Rattle.format.specs.Bytes.{All}
use Rattle.format.specs.Order.{Test, first_failed, in_order, in_room, first_number, Passed}

module _ {A : Type 0} (refuse : ℕ → ℕ → A) where
  pub all_passed : (tests : List Test) (a : A) → Passed tests → first_failed refuse tests a ≡ a
  all_passed [] a p = refl
  all_passed (t ∷ tests) a p =
      ap (λ b. pick b (first_failed refuse tests a) (refuse t.number t.place)) p.0 ∙ all_passed tests a p.1

  pub first_failed_lem :
      (before : List Test) (t : Test) (after : List Test) (a : A) →
      Passed before →
      t.passed ≡ false →
      first_failed refuse (before ++ (t ∷ after)) a ≡ refuse t.number t.place
  first_failed_lem [] t after a p e = ap (λ b. pick b (first_failed refuse after a) (refuse t.number t.place)) e
  first_failed_lem (x ∷ before) t after a p e =
      ap (λ b. pick b (first_failed refuse (before ++ (t ∷ after)) a) (refuse x.number x.place)) p.0
      ∙ first_failed_lem before t after a p.1 e

  by_pick : (P : A → Type 0) (b : Bool) (x y : A) → P x → P y → P (pick b x y)
  by_pick P true x y p q = p
  by_pick P false x y p q = q

  -- what holds of each test's refusal, and of the answer where all are passed, holds of what is answered
  pub each_way :
      (P : A → Type 0) (tests : List Test) (a : A) →
      All (λ t. P (refuse t.number t.place)) tests →
      P a →
      P (first_failed refuse tests a)
  each_way P [] a h p = p
  each_way P (t ∷ tests) a h p =
      by_pick P t.passed (first_failed refuse tests a) (refuse t.number t.place) (each_way P tests a h.1 p) h.0

chosen : (b : Bool) (x y : Outcome) (n : ℕ) → x.number ≡ n → (pick b x y).number ≡ pick b n y.number
chosen true x y n e = e
chosen false x y n e = refl

-- what is done passed every test
pub done_passed :
    (tests : List Test) (o : Outcome) (s : List ℕ) →
    All (λ t. 0 < t.number) tests →
    in_order tests o ≡ done s →
    Passed tests × (o ≡ done s)
done_passed [] o s n e = (tt, e)
done_passed (t ∷ tests) o s n e =
    by_test t.passed
    (λ h.
    let r = done_passed tests o s n.1 (ap (λ b. pick b (in_order tests o) (refused t.number t.place)) (sym h) ∙ e) in
    ((h, r.0), r.1))
    (λ h.
    let z : t.number ≡ 0 = ap (λ x. x.number) (ap (λ b. pick b (in_order tests o) (refused t.number t.place)) (sym h) ∙ e) in
    absurd (omega (arith, n.0)))

-- the number answered is that of the first test that is not passed
pub first_number_lem : (tests : List Test) (s : List ℕ) → (in_order tests (done s)).number ≡ first_number tests
first_number_lem [] s = refl
first_number_lem (t ∷ tests) s =
    chosen t.passed (in_order tests (done s)) (refused t.number t.place) (first_number tests) (first_number_lem tests s)

-- bytes in a room, by the room
module _ (number : ℕ) (bytes : List ℕ) (room : ℕ) where
  pub in_no_room : room < length bytes → in_room number bytes room ≡ refused number 0
  unfolding in_room
  in_no_room h = simp (lt-leb (length bytes) room h)

  pub in_room_lem : length bytes ≤ room → in_room number bytes room ≡ done bytes
  unfolding in_room
  in_room_lem h = simp (le-leb (length bytes) room h)
