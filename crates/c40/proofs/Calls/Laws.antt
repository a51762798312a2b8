-- Laws of the two calls: the outcome by the tests that lead there, and which characters are known.
-- Assumes nothing.
use Rattle.std.specs.Prelude.{◌≡◌, refl, ℕ, suc, ◌+◌, ◌%◌, ◌<◌, ◌≤◌, List, [], ◌∷◌, leb, eqb, length, get_or, drop}
use Rattle.std.proofs.Math.Path.{ap}
use Rattle.std.proofs.Common.{◌∙◌}
use native.Mathlib.Omega.{arith}
use borrow.Author.Tests.{eq-eqb, ne_eqb, eqb-true, eqb-false, lt-leb, le-leb}
use Rattle.format.specs.Choice.{pick}
use Rattle.format.specs.Choice.Laws.{by_test}
use Rattle.format.specs.Places.{at_place, past_end}
use Rattle.pairs.specs.Chart.{char, value_of, InChart}
use Rattle.format.specs.Answers.{done, refused}
use Rattle.c40.specs.Text.{Text, publish, width}
use Rattle.c40.specs.Decode.{Decoded, decode, text, wrong, text_of, is_text, wrong_at}
use Rattle.pairs.specs.declared.decode.Fault.{Fault}
use Rattle.pairs.specs.declared.decode.Fault.TheVariants.{OutOfRange, Shift, Single}
use Rattle.c40.specs.Calls.{fault_number, wrong_number, known, reading, writing}

known_in : (c : ℕ) (t : List ℕ) → InChart c → known (c ∷ t) ≡ suc (known t)
unfolding known
known_in c t i = simp (eq-eqb (char (value_of c)) c i)

known_out : (c : ℕ) (t : List ℕ) → (InChart c → ⊥) → known (c ∷ t) ≡ 0
unfolding known
known_out c t i = simp (ne_eqb (char (value_of c)) c i)

-- one character more, at a place
module _ (t : List ℕ) (i : ℕ) where
  pub known_more : i < length t → InChart (get_or t i 0) → known t ≡ i + known (drop i t) → known t ≡ i + 1 + known (drop (i + 1) t)
  known_more h k e =
      let step : known (drop i t) ≡ suc (known (drop (i + 1) t)) = ap known (at_place t i 0 h) ∙ known_in (get_or t i 0) (drop (i + 1) t) k in
      omega arith

  pub known_here : i < length t → (InChart (get_or t i 0) → ⊥) → known t ≡ i + known (drop i t) → i ≡ known t
  known_here h k e =
      let step : known (drop i t) ≡ 0 = ap known (at_place t i 0 h) ∙ known_out (get_or t i 0) (drop (i + 1) t) k in
      omega arith

  pub known_end : length t ≤ i → known t ≡ i + known (drop i t) → i ≡ known t
  unfolding known
  known_end h e =
      let step : known (drop i t) ≡ 0 = ap known (past_end t i h) in
      omega arith

-- all characters are known exactly where the text is text
pub known_text : (t : List ℕ) → length t ≤ known t → Text t
unfolding known
known_text [] h = tt
known_text (c ∷ t) h =
    by_test (eqb (char (value_of c)) c)
    (λ e. (eqb-true (char (value_of c)) c e, known_text t (omega (arith, known_in c t (eqb-true (char (value_of c)) c e)))))
    (λ e. absurd (omega (arith, known_out c t (eqb-false (char (value_of c)) c e))))

pub text_known : (t : List ℕ) → Text t → known t ≡ length t
unfolding known
text_known [] h = refl
text_known (c ∷ t) h = known_in c t h.0 ∙ ap suc (text_known t h.1)

-- a fault's number is no 0
pub fault_some : (fault : Fault) → 0 < fault_number fault
fault_some OutOfRange = omega arith
fault_some Shift = omega arith
fault_some Single = omega arith

-- reading, by the tests that lead there
module _ (s : List ℕ) (room : ℕ) where
  pub reading_long : 4096 < length s → reading s room ≡ refused 45 0
  unfolding reading
  reading_long h = simp (lt-leb (length s) 4096 h)

  module _ (size : length s ≤ 4096) where
    pub reading_odd : length s % 2 ≡ 1 → reading s room ≡ refused 40 (length s)
    unfolding reading
    reading_odd h = simp (le-leb (length s) 4096 size, ne_eqb (length s % 2) 0 (λ e. omega arith))

    module _ (even : length s % 2 ≡ 1 → ⊥) where
      -- what is decoded, and whether there is room for it
      pairs :
          (d : Decoded) →
          decode 0 s ≡ d →
          reading s room
          ≡ pick (is_text d) (pick (leb (length (text_of d)) room) (done (text_of d)) (refused 42 0)) (refused (wrong_number d) (wrong_at d))
      unfolding reading
      pairs d e = simp (le-leb (length s) 4096 size, eq-eqb (length s % 2) 0 (omega arith), e)

      pub reading_wrong : (fault : Fault) (at : ℕ) → decode 0 s ≡ wrong fault at → reading s room ≡ refused (fault_number fault) at
      reading_wrong fault at e = pairs (wrong fault at) e

      pub reading_no_room : (t : List ℕ) → decode 0 s ≡ text t → room < length t → reading s room ≡ refused 42 0
      reading_no_room t e h = pairs (text t) e ∙ simp (lt-leb (length t) room h)

      pub reading_done : (t : List ℕ) → decode 0 s ≡ text t → length t ≤ room → reading s room ≡ done t
      reading_done t e h = pairs (text t) e ∙ simp (le-leb (length t) room h)

-- writing, by the tests that lead there
module _ (t : List ℕ) (room : ℕ) where
  pub writing_long : 6144 < length t → writing t room ≡ refused 45 0
  unfolding writing
  writing_long h = simp (lt-leb (length t) 6144 h)

  module _ (size : length t ≤ 6144) where
    pub writing_stranger : known t < length t → writing t room ≡ refused 43 (known t)
    unfolding writing
    writing_stranger h = simp (le-leb (length t) 6144 size, lt-leb (length t) (known t) h)

    module _ (good : length t ≤ known t) where
      pub writing_no_room : room < width (length t) → writing t room ≡ refused 44 0
      unfolding writing
      writing_no_room h = simp (le-leb (length t) 6144 size, le-leb (length t) (known t) good, lt-leb (width (length t)) room h)

      pub writing_done : width (length t) ≤ room → writing t room ≡ done (publish t)
      unfolding writing
      writing_done h = simp (le-leb (length t) 6144 size, le-leb (length t) (known t) good, le-leb (width (length t)) room h)
