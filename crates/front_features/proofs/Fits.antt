-- What is known of a feature's length that is one, and of one that the code told.
-- Assumes nothing.
use mathlib.Core.Path.{◌≡◌, refl, ap, sym, ◌∙◌}
use mathlib.Core.Bool.{Bool, true, false}
use Prim.Native.Nat.{ℕ, suc, ◌+◌, ◌*◌, ◌≤◌}
use native.Mathlib.Omega.{arith}
use borrow.Author.Tests.{ltb-false}
use mathlib.Core.List.{List, [], ◌∷◌}
use lib.Dec.{eqb, ltb}
use lib.ListN.{length}
use Rattle.format.specs.Choice.{pick}
use Rattle.format.specs.Choice.Laws.{by_test}
use Rattle.grammar.specs.Content.{Version, three, four}
use Rattle.front_message.specs.Message.{Length, is, ends, last_of, after_one, after_high, after_two, length_front}
use Rattle.front_features.specs.declared.Counted.{Counted}
use Rattle.front_features.specs.declared.Ends.{Ends}
use Rattle.front_features.specs.Meaning.{counted, ended, counted_of}

-- a length that is one: its bytes are there, and it has room with its value and 58
pub record Fits (room n w : ℕ) (t : List ℕ) : Type 0 where
  pub there : w ≤ length t
  pub fits : w + n + 58 ≤ room

-- a length that ends is none
ends_not : (k n w : ℕ) → ends k ≡ is n w → ⊥
ends_not k n w e = let z : ◌≡◌ {A = ℕ} 0 1 = cc in omega arith

-- the last byte of a length
last_fits : (room m k n w : ℕ) (t : List ℕ) → suc k ≤ length t → last_of room m k ≡ is n w → Fits room n w t
last_fits room m k n w t h e =
    by_test (ltb room (1 + k + m + 58))
    (λ b. absurd (ends_not k n w (sym (ap (λ z. pick z (ends k) (is m (1 + k))) b) ∙ e)))
    (λ b.
    let f : is m (1 + k) ≡ is n w = sym (ap (λ z. pick z (ends k) (is m (1 + k))) b) ∙ e in
    let size : m ≡ n = cc in
    let width : 1 + k ≡ w = cc in
    let less = ltb-false room (1 + k + m + 58) b in
    record { there = omega arith; fits = omega arith })

-- what holds of a choice by its two answers
choice : (b : Bool) (l m : Length) (n w : ℕ) {C : Type 0} → (l ≡ is n w → C) → (m ≡ is n w → C) → pick b l m ≡ is n w → C
choice true l m n w f g e = f e
choice false l m n w f g e = g e

-- a choice between an end and another length
unless : (b : Bool) (k : ℕ) (m : Length) (n w : ℕ) {C : Type 0} → (m ≡ is n w → C) → pick b (ends k) m ≡ is n w → C
unless b k m n w g e = choice b (ends k) m n w (λ z. absurd (ends_not k n w z)) g e

-- behind 81
one_fits : (room n w b : ℕ) (t : List ℕ) → after_one room t ≡ is n w → Fits room n w (b ∷ t)
unfolding after_one
one_fits room n w b [] e = absurd (ends_not 1 n w e)
one_fits room n w b (x ∷ t) e =
    unless (ltb x 0x80) 1 (last_of room x 1) n w (last_fits room x 1 n w (b ∷ x ∷ t) (omega arith)) e

-- behind 82 and another byte
high_fits : (room n w a b : ℕ) (t : List ℕ) → after_high room b t ≡ is n w → Fits room n w (a ∷ b ∷ t)
unfolding after_high
high_fits room n w a b [] e = absurd (ends_not 2 n w e)
high_fits room n w a b (x ∷ t) e = last_fits room (b * 256 + x) 2 n w (a ∷ b ∷ x ∷ t) (omega arith) e

-- behind 82
two_fits : (room n w b : ℕ) (t : List ℕ) → after_two room t ≡ is n w → Fits room n w (b ∷ t)
unfolding after_two
two_fits room n w b [] e = absurd (ends_not 1 n w e)
two_fits room n w b (x ∷ t) e =
    unless (eqb x 0) 1 (pick (ltb room (3 + x * 256 + 58)) (ends 1) (after_high room x t)) n w
    (unless (ltb room (3 + x * 256 + 58)) 1 (after_high room x t) n w (high_fits room n w b x t)) e

-- of a feature
pub length_fits : (v : Version) (room n w : ℕ) (t : List ℕ) → length_front v room t ≡ is n w → Fits room n w t
unfolding length_front
length_fits three room n w [] e = absurd (ends_not 0 n w e)
length_fits four room n w [] e = absurd (ends_not 0 n w e)
length_fits three room n w (b ∷ t) e = last_fits room b 0 n w (b ∷ t) (omega arith) e
length_fits four room n w (b ∷ t) e =
    choice (ltb b 0x80) (last_of room b 0) _ n w (last_fits room b 0 n w (b ∷ t) (omega arith))
    (choice (eqb b 0x81) (pick (ltb room 188) (ends 0) (after_one room t)) _ n w
    (unless (ltb room 188) 0 (after_one room t) n w (one_fits room n w b t))
    (choice (eqb b 0x82) (pick (ltb room 317) (ends 0) (after_two room t)) (ends 0) n w
    (unless (ltb room 317) 0 (after_two room t) n w (two_fits room n w b t)) (λ z. absurd (ends_not 0 n w z)))) e

-- a length that the code told as one that ends
pub told_ends : (at place : ℕ) (l : Length) → ended place ≡ counted_of at l → (k : ℕ) × ((l ≡ ends k) × (place ≡ at + k))
told_ends at place (ends k) e =
    let f : ◌≡◌ {A = Ends} (record { place = place }) (record { place = at + k }) = cc in
    (k, (refl, ap (λ q. q.place) f))
told_ends at place (is n w) e = let z : ◌≡◌ {A = ℕ} 0 1 = cc in absurd (omega arith)

-- a length that the code told as one
pub told_is : (at size value : ℕ) (l : Length) → counted size value ≡ counted_of at l → (w : ℕ) × ((l ≡ is size w) × (value ≡ at + w))
told_is at size value (is n w) e =
    let f : ◌≡◌ {A = Counted} (record { size = size; next = value }) (record { size = n; next = at + w }) = cc in
    (w, (ap (λ q. is q.size w) (sym f), ap (λ q. q.next) f))
told_is at size value (ends k) e = let z : ◌≡◌ {A = ℕ} 0 1 = cc in absurd (omega arith)
