-- What is proved of the writer's answers, named after the tender's sentences (condition 1).
-- Assumes nothing.
use Rattle.std.specs.Prelude.{◌≡◌, refl, ◌⊎◌, true, false, ℕ, ◌≤◌, List, [], ◌∷◌, length, take}
use Rattle.std.proofs.Common.{ap, ◌∙◌, inl, inr, ⊎_elim, arith, take_at}
use Rattle.std.proofs.Math.Option.{Option, none, some}
use Rattle.format.specs.Answers.{Outcome, done, refused, told, filled}
use Rattle.format.specs.Order.{Test, test, first_number}
use Rattle.format.specs.Order.Laws.{each_way, first_number_lem}
use Rattle.versions.specs.declared.Version.{Version}
use Rattle.versions.specs.Versions.{version_of}
use Rattle.grammar.specs.Publish.{publish}
use Rattle.write_given.specs.Given.{Given, content_as}
use Rattle.write_judge.specs.Calls.{in_version, tests_as, writing_as, writing}

-- done, or one of 20 to 28 with place 0 and nothing written
abbrev pub FromList : Outcome → Type 0
FromList o = (o ≡ done o.written) ⊎ (((20 ≤ o.number) × (o.number ≤ 28)) × (o ≡ refused o.number 0))

refusal : (n : ℕ) → 20 ≤ n → n ≤ 28 → FromList (refused n 0)
refusal n low high = inr ((low, high), refl)

listed_as : (g : Given) (room : ℕ) (v : Version) → FromList (writing_as g room v)
unfolding writing_as
listed_as g room v =
    let from : (n : ℕ) → 20 ≤ n → n ≤ 28 → FromList (refused n 0) = refusal in
    each_way refused FromList (tests_as g room v) (done (publish (content_as g v))) (
      from 21 (omega arith) (omega arith),
      (
        from 22 (omega arith) (omega arith),
        (
          from 23 (omega arith) (omega arith),
          (
            from 24 (omega arith) (omega arith),
            (
              from 25 (omega arith) (omega arith),
              (
                from 26 (omega arith) (omega arith),
                (
                  from 27 (omega arith) (omega arith),
                  (from 28 (omega arith) (omega arith), tt),
                ),
              ),
            ),
          ),
        ),
      ),
    )
    (inl refl)

listed_in : (g : Given) (room : ℕ) (o : Option Version) → FromList (in_version o (writing_as g room))
listed_in g room none = refusal 20 (omega arith) (omega arith)
listed_in g room (some v) = listed_as g room v

-- "answers from the numbered list": every call is done, or refused with 20 to 28 and place 0
pub listed : (g : Given) (room : ℕ) → FromList (writing g room)
unfolding writing
listed g room = listed_in g room (version_of g.header.version)

-- "Writer: 20 to 28 in order": the number is that of the first test that is not passed, and 0 where all are; without a
-- version there is nothing
-- to test the others by
abbrev pub tests_of : Given → ℕ → Option Version → List Test
tests_of g room none = test 20 0 false ∷ []
tests_of g room (some v) = test 20 0 true ∷ tests_as g room v

abbrev pub tests : Given → ℕ → List Test
tests g room = tests_of g room (version_of g.header.version)

in_order_in : (g : Given) (room : ℕ) (o : Option Version) → (in_version o (writing_as g room)).number ≡ first_number (tests_of g room o)
unfolding writing_as
in_order_in g room none = refl
in_order_in g room (some v) = first_number_lem (tests_as g room v) (publish (content_as g v))

pub in_order_lem : (g : Given) (room : ℕ) → (writing g room).number ≡ first_number (tests g room)
unfolding writing
in_order_lem g room = in_order_in g room (version_of g.header.version)

-- "A refusal ... changes nothing in the buffers we lent"
pub refusal_keeps : (g : Given) (out : List ℕ) → ((writing g (length out)).number ≡ 0 → ⊥) → filled (writing g (length out)) out ≡ out
refusal_keeps g out not_zero_lem =
    ⊎_elim (λ e. absurd (not_zero_lem (ap (λ o. o.number) e))) (λ e. ap (λ o. filled o out) e.1) (listed g (length out))

-- number 0 is a seal written
pub zero_done : (g : Given) (room : ℕ) → (writing g room).number ≡ 0 → writing g room ≡ done (writing g room).written
zero_done g room z = ⊎_elim (λ e. e) (λ e. absurd (omega (arith, e.0.0, z))) (listed g room)

-- the seal stands at the buffer's start, as long as the count
pub stands :
    (g : Given) (out s : List ℕ) →
    writing g (length out) ≡ done s →
    take (told (writing g (length out))).count (filled (writing g (length out)) out) ≡ s
stands g out s e = ap (λ o. take (told o).count (filled o out)) e ∙ take_at s _ (length s) refl
