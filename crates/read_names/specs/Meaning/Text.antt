-- What a reading of C40 into a text says of the bytes: text of exactly its size, or the place of the first pair that is wrong.
-- Assumes nothing.
use Rattle.std.specs.Prelude.{◌≡◌, refl, ℕ, ◌-◌, ◌%◌, ◌≤◌, ◌<◌, List, ◌++◌, ltb, length, drop, Result, Ok, Err}
use Rattle.std.proofs.Common.{ap, sym, ◌∙◌, arith, eq-eqb, ne_eqb, ltb-true, ltb-false, append-nil, length-append, length-drop}
use Rattle.format.specs.Choice.{pick}
use Rattle.format.specs.Choice.Laws.{by_test}
use Rattle.format.specs.Answers.{told, filled}
use Rattle.format.specs.Places.{past_end}
use Rattle.c40.specs.Decode.{Decoded, text, wrong, decode}
use Rattle.c40.specs.Calls.{reading, reading_of}
use Rattle.c40.proofs.Calls.Laws.{reading_wrong, reading_no_room, reading_done}
use Rattle.c40.specs.OneToOne.{reading_one}
use Rattle.pairs.specs.declared.decode.Fault.{Fault}
use Rattle.c40.specs.declared.WrongPair.{WrongPair as Wrong}
use Rattle.c40.specs.declared.ReadError.{ReadError}
use Rattle.c40.specs.declared.ReadError.TheVariants.{TooLong, Odd, WrongPair, NoRoom}
use Rattle.c40.specs.Text.{width}
use Rattle.verdict.specs.Items.{exact, wrong_at, exactly}
use Rattle.read_names.specs.Meaning.{Sized}

-- text of exactly k characters, and text of another length
exactly_text : (k : ℕ) (t : List ℕ) → length t ≡ k → exactly k (text t) ≡ exact t
exactly_text k t h = ap (λ b. pick b (exact t) (wrong_at (width k - 2))) (eq-eqb (length t) k h)

exactly_other : (k : ℕ) (t : List ℕ) → (length t ≡ k → ⊥) → exactly k (text t) ≡ wrong_at (width k - 2)
exactly_other k t h = ap (λ b. pick b (exact t) (wrong_at (width k - 2))) (ne_eqb (length t) k h)

-- two cases that one reading has are the same, with the same count or place
abbrev case_of : Result ℕ ReadError → ℕ
case_of (Ok count) = 0
case_of (Err (WrongPair pair)) = 1
case_of (Err TooLong) = 2
case_of (Err (Odd at)) = 2
case_of (Err NoRoom) = 2

apart : {r a b : Result ℕ ReadError} → r ≡ a → r ≡ b → case_of a ≡ case_of b
apart e f = ap case_of (sym e ∙ f)

counted : {r : Result ℕ ReadError} {n m : ℕ} → r ≡ Ok n → r ≡ Ok m → n ≡ m
counted e f = ap (λ q. (reading_of q).count) (sym e ∙ f)

placed : {r : Result ℕ ReadError} {v w : Wrong} → r ≡ Err (WrongPair v) → r ≡ Err (WrongPair w) → v.place ≡ w.place
placed e f = ap (λ q. (reading_of q).place) (sym e ∙ f)

module _ (bytes room out : List ℕ) (sized : Sized bytes room) (r : Result ℕ ReadError) (answer : reading_of r ≡ told (reading bytes (length room)))
    (buffer : out ≡ filled (reading bytes (length room)) room) where
  few : length bytes ≤ 4096
  few = omega (arith, sized.0, sized.1.1)

  even : length bytes % 2 ≡ 1 → ⊥
  even h = omega (arith, sized.0)

  -- what the answer is, by what is decoded: its case is settled by its number and place
  answered : {C : Type 0}
      → ((fault : Fault) (at : ℕ) → decode 0 bytes ≡ wrong fault at → r ≡ Err (WrongPair (record { fault = fault; place = at })) → C)
      → ((t : List ℕ) → decode 0 bytes ≡ text t → length room < length t → r ≡ Err NoRoom → C)
      → ((t : List ℕ) → decode 0 bytes ≡ text t → length t ≤ length room
      → r ≡ Ok (length t) → out ≡ t ++ drop (length t) room → C)
      → C
  answered {C} bad long good = by (decode 0 bytes) refl
    where
      by : (d : Decoded) → decode 0 bytes ≡ d → C
      by (wrong fault at) e =
          bad fault at e (reading_one r (Err (WrongPair (record { fault = fault; place = at }))) (answer ∙ ap told (reading_wrong bytes (length room) few even fault at e)))
      by (text t) e =
          by_test (ltb (length room) (length t))
          (λ b. let more = ltb-true (length room) (length t) b in
          long t e more (reading_one r (Err NoRoom) (answer ∙ ap told (reading_no_room bytes (length room) few even t e more))))
          (λ b. let fits = ltb-false (length room) (length t) b in
          let is_done = reading_done bytes (length room) few even t e fits in
          good t e fits (reading_one r (Ok (length t)) (answer ∙ ap told is_done)) (buffer ∙ ap (λ o. filled o room) is_done))

  -- done, and the text fills the room
  pub filled_exactly : (count : ℕ) → r ≡ Ok count → count ≡ length out → exact out ≡ exactly (length room) (decode 0 bytes)
  filled_exactly count is_done full =
      answered
      (λ fault at e a. absurd (omega (arith, apart is_done a)))
      (λ t e more a. absurd (omega (arith, apart is_done a)))
      (λ t e fits a o.
      let same : count ≡ length t = counted is_done a in
      let long : length out ≡ length room =
      ap length o ∙ omega (arith, length-append t (drop (length t) room), length-drop (length t) room) in
      let is_out : out ≡ t = o ∙ ap (λ u. t ++ u) (past_end room (length t) (omega arith)) ∙ append-nil t in
      ap exact is_out ∙ sym (exactly_text (length room) t (omega arith)) ∙ ap (exactly (length room)) (sym e))

  -- done, and it does not
  pub filled_less : (count : ℕ) → r ≡ Ok count → (count ≡ length out → ⊥)
      → wrong_at (width (length room) - 2) ≡ exactly (length room) (decode 0 bytes)
  filled_less count is_done less =
      answered
      (λ fault at e a. absurd (omega (arith, apart is_done a)))
      (λ t e more a. absurd (omega (arith, apart is_done a)))
      (λ t e fits a o.
      let same : count ≡ length t = counted is_done a in
      let long : length out ≡ length room =
      ap length o ∙ omega (arith, length-append t (drop (length t) room), length-drop (length t) room) in
      sym (exactly_other (length room) t (λ h. less (same ∙ h ∙ sym long))) ∙ ap (exactly (length room)) (sym e))

  -- a pair that is wrongly coded
  pub filled_wrong : (w : Wrong) → r ≡ Err (WrongPair w) → wrong_at w.place ≡ exactly (length room) (decode 0 bytes)
  filled_wrong w is-wrong =
      answered
      (λ f p e a. ap wrong_at (placed is-wrong a) ∙ ap (exactly (length room)) (sym e))
      (λ t e more a. absurd (omega (arith, apart is-wrong a)))
      (λ t e fits a o. absurd (omega (arith, apart is-wrong a)))

  -- any other answer: the text is longer than the room
  pub filled_more : ((count : ℕ) → r ≡ Ok count → ⊥) → ((w : Wrong) → r ≡ Err (WrongPair w) → ⊥)
      → wrong_at (width (length room) - 2) ≡ exactly (length room) (decode 0 bytes)
  filled_more not_done not_wrong =
      answered
      (λ fault at e a. absurd (not_wrong (record { fault = fault; place = at }) a))
      (λ t e more a. sym (exactly_other (length room) t (λ h. omega arith)) ∙ ap (exactly (length room)) (sym e))
      (λ t e fits a o. absurd (not_done (length t) a))
