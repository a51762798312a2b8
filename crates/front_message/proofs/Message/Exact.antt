-- The computed front of features and signature is the longest front part of the message and signature zones.
-- Assumes nothing.
use Rattle.std.specs.Prelude.{◌≡◌, refl, false, ℕ, zero, suc, ◌+◌, ◌-◌, ◌*◌, ◌≤◌, ◌<◌, ltb, eqb}
use Rattle.std.proofs.Common.{sym, arith}
use Rattle.std.proofs.Math.Path.{subst}
use Rattle.std.proofs.Math.Bool.{true}
use mathlib.Core.List.{List, [], ◌∷◌}
use Rattle.std.proofs.Math.Logic.{⊎_elim}
use borrow.Author.Tests.{eqb-true, eqb-false, ltb-true, ltb-false}
use Rattle.std.proofs.Math.ListN.{length}
use Rattle.format.specs.Bytes.{Bytes}
use Rattle.format.specs.Choice.{either}
use Rattle.format.specs.Choice.Laws.{by_test, either_true}
use Rattle.der.proofs.Lengths.Exact.{form_short}
use Rattle.grammar.specs.Content.{Version, three, four}
use Rattle.grammar.proofs.Sizes.{has}
use Rattle.front.specs.Front.{Longest}
use Rattle.front.proofs.Room.{Within, after, step, stop, end}
use Rattle.front_message.specs.Message.{Length, signature_front, after_one, after_high, after_two, length_front, tagged}
use Rattle.front_message.specs.Message.{turn, message_front}
use Rattle.front_message.specs.Message.Laws.{not_both, neither, form_one, form_bytes}
use Rattle.front_message.specs.Message.Languages.{Sig, Msg, Tagged}
use Rattle.front_message.specs.Message.Steps.{msg_mark, mark_msg, msg_tag, tag_msg, value_tagged, tagged_three}
use Rattle.front_message.specs.Message.Least.{msg_cheapest, tagged_cheapest}
use Rattle.front_message.specs.Message.Signature.{signature_is}
use Rattle.front_message.specs.Message.Lengths.{LongOne, LongTwo, LongLast, one_cheapest, two_cheapest, last_cheapest}
use Rattle.front_message.specs.Message.Lengths.{four_from, four_plain, four_one, four_high, four_last, four_else}
use Rattle.front_message.specs.Message.Values.{Later, last_is}

module _ (used : List ℕ) (most : ℕ) (more : ℕ → List ℕ → ℕ) where
  -- a length and what stands behind it, by what `told` says of the length
  abbrev Told : Version → ℕ → List ℕ → Length → Type 0
  Told v room s told = Longest (Within room (Tagged v used)) s (tagged told room more s)

  module _ (later : Later three used most more) where
    -- version 3: one byte
    three_is : (room : ℕ) (s : List ℕ) → Bytes s → 59 ≤ room → room ≤ 4096 → length s ≤ most → Told three room s (length_front three room s)
    unfolding length_front
    three_is room [] b h g f = end room (Tagged three used) 59 (tagged_cheapest three used) h
    three_is room (x ∷ s) b h g f =
        let small : x ≤ 255 = omega (arith, b 0) in
        last_is three used most more later [] 59 (tagged_cheapest three used) x x (tagged_three used x)
        (value_tagged three used x small (x ∷ []) refl) room s (λ i. b (suc i)) h g (omega arith)

  module _ (later : Later four used most more) where
    -- behind 81
    one_is : (room : ℕ) (s : List ℕ) → Bytes s → 188 ≤ room → room ≤ 4096 → length s ≤ most → Told four room (0x81 ∷ s) (after_one room s)
    unfolding after_one
    one_is room [] b h g f =
        step room (Tagged four used) 0x81 (LongOne used) (λ t w. w) (λ t w. w) (omega arith) [] 0
        (end (room - 1) (LongOne used) 187 (one_cheapest used) (omega arith))
    one_is room (x ∷ s) b h g f =
        by_test (ltb x 0x80)
        (λ l. simp l (step room (Tagged four used) 0x81 (LongOne used) (λ t w. w) (λ t w. w) (omega arith) (x ∷ s) 0
        (stop (room - 1) (LongOne used) 187 (one_cheapest used) (omega arith) x s
        (λ t w. absurd (omega (arith, ltb-true x 0x80 l, (four_one used x t w).0))))))
        (λ l. simp l (last_is four used most more later (0x81 ∷ []) 187 (one_cheapest used) x x (λ t w. (four_one used x t w).1)
        (four_from used x (0x81 ∷ x ∷ []) (form_one x (ltb-false x 0x80 l) (b 0))) room s (λ i. b (suc i)) (omega arith) g (omega arith)))

    -- behind 82 and its first byte
    high_is : (high room : ℕ) (s : List ℕ) → 1 ≤ high → high < 256 → Bytes s → 3 + high * 256 + 58 ≤ room → room ≤ 4096 → length s ≤ most →
        Told four room (0x82 ∷ high ∷ s) (after_high room high s)
    unfolding after_high
    high_is high room [] p q b h g f =
        after room (Tagged four used) (0x82 ∷ high ∷ []) (LongLast used high) (λ t w. w) (λ t w. w) (omega arith) [] 0
        (end (room - 2) (LongLast used high) (1 + high * 256 + 58) (last_cheapest used high p q) (omega arith))
    high_is high room (x ∷ s) p q b h g f =
        last_is four used most more later (0x82 ∷ high ∷ []) (1 + high * 256 + 58) (last_cheapest used high p q) x (high * 256 + x)
        (four_last used high x) (four_from used (high * 256 + x) (0x82 ∷ high ∷ x ∷ []) (form_bytes high x p q (b 0)))
        room s (λ i. b (suc i)) (omega arith) g (omega arith)

    -- behind 82
    two_is : (room : ℕ) (s : List ℕ) → Bytes s → 317 ≤ room → room ≤ 4096 → length s ≤ most → Told four room (0x82 ∷ s) (after_two room s)
    unfolding after_two
    two_is room [] b h g f =
        step room (Tagged four used) 0x82 (LongTwo used) (λ t w. w) (λ t w. w) (omega arith) [] 0
        (end (room - 1) (LongTwo used) 316 (two_cheapest used) (omega arith))
    two_is room (x ∷ s) b h g f =
        by_test (eqb x 0) (λ l. simp l (none (λ t w. absurd (omega (arith, eqb-true x 0 l, four_high used x t w)))))
        (λ l.
        let some : 1 ≤ x = omega (arith, eqb-false x 0 l) in
        by_test (ltb room (3 + x * 256 + 58))
        (λ m. simp (l, m) (none (λ t w. omega (arith, ltb-true room (3 + x * 256 + 58) m, (last_cheapest used x some (b 0)).all t w))))
        (λ m. simp (l, m) (high_is x room s some (b 0) (λ i. b (suc i)) (ltb-false room (3 + x * 256 + 58) m) g (omega arith))))
      where
        -- no byte behind 82
        none : ((t : List ℕ) → LongLast used x t → room - 1 ≤ length t) → Longest (Within room (Tagged four used)) (0x82 ∷ x ∷ s) 1
        none n =
            step room (Tagged four used) 0x82 (LongTwo used) (λ t w. w) (λ t w. w) (omega arith) (x ∷ s) 0
            (stop (room - 1) (LongTwo used) 316 (two_cheapest used) (omega arith) x s n)

    -- version 4: a DER length
    four_is : (room : ℕ) (s : List ℕ) → Bytes s → 59 ≤ room → room ≤ 4096 → length s ≤ most → Told four room s (length_front four room s)
    unfolding length_front
    four_is room [] b h g f = end room (Tagged four used) 59 (tagged_cheapest four used) h
    four_is room (x ∷ s) b h g f =
        by_test (ltb x 0x80)
        (λ l.
        let small = ltb-true x 0x80 l in
        simp l (last_is four used most more later [] 59 (tagged_cheapest four used) x x (four_plain used x small)
        (four_from used x (x ∷ []) (form_short x small)) room s (λ i. b (suc i)) h g (omega arith)))
        (λ l. by_test (eqb x 0x81)
        (λ m.
        let e = eqb-true x 0x81 m in
        by_test (ltb room 188)
        (λ n. simp (l, m, n) (none (λ t w. omega (arith, ltb-true room 188 n, (one_cheapest used).all t (told e t w)))))
        (λ n. simp (l, m, n) (subst (λ y. Told four room (y ∷ s) (after_one room s)) (sym e)
        (one_is room s (λ i. b (suc i)) (ltb-false room 188 n) g (omega arith)))))
        (λ m. by_test (eqb x 0x82)
        (λ o.
        let e = eqb-true x 0x82 o in
        by_test (ltb room 317)
        (λ n. simp (l, m, o, n) (none (λ t w. omega (arith, ltb-true room 317 n, (two_cheapest used).all t (told e t w)))))
        (λ n. simp (l, m, o, n) (subst (λ y. Told four room (y ∷ s) (after_two room s)) (sym e)
        (two_is room s (λ i. b (suc i)) (ltb-false room 317 n) g (omega arith)))))
        (λ o. simp (l, m, o) (none (λ t w.
        omega (arith, four_else used x t (ltb-false x 0x80 l) (eqb-false x 0x81 m) (eqb-false x 0x82 o) w))))))
      where
        -- the first byte, as a test told it
        told : {y : ℕ} → x ≡ y → (t : List ℕ) → Tagged four used (x ∷ t) → Tagged four used (y ∷ t)
        told e t w = subst (λ z. Tagged four used (z ∷ t)) e w

        -- not even that
        none : ((t : List ℕ) → Tagged four used (x ∷ t) → room ≤ length t) → Longest (Within room (Tagged four used)) (x ∷ s) 0
        none n = stop room (Tagged four used) 59 (tagged_cheapest four used) h x s n

  -- either version
  tagged_is : (v : Version) → Later v used most more → (room : ℕ) (s : List ℕ) → Bytes s → 59 ≤ room → room ≤ 4096 → length s ≤ most →
      Told v room s (length_front v room s)
  tagged_is three later = three_is later
  tagged_is four later = four_is later

-- the answers of `more` are right, of fewer than `fuel` bytes
abbrev Right : Version → ℕ → (List ℕ → ℕ → List ℕ → ℕ) → Type 0
Right v fuel more =
    (used : List ℕ) (room : ℕ) (s : List ℕ) → Bytes s → 58 ≤ room → room ≤ 4096 → length s < fuel →
    Longest (Within room (Msg v used)) s (more used room s)

module _ (v : Version) (fuel : ℕ) (more : List ℕ → ℕ → List ℕ → ℕ) (right : Right v fuel more) where
  -- a tag or FF, and what stands behind it
  turn_is : Right v (suc fuel) (turn v more)
  unfolding turn
  turn_is used room [] b h g f = end room (Msg v used) 58 (msg_cheapest v used) h
  turn_is used room (x ∷ s) b h g f =
      by_test (eqb x 0xFF)
      (λ l.
      let e = eqb-true x 0xFF l in
      simp l (step room (Msg v used) x Sig (λ t w. msg_mark v used t (subst (λ y. Msg v used (y ∷ t)) e w))
      (λ t w. subst (λ y. Msg v used (y ∷ t)) (sym e) (mark_msg v used t w)) (omega arith) s (signature_front (room - 1) s)
      (signature_is (room - 1) s (λ i. b (suc i)) (omega arith))))
      (λ l.
      let d = eqb-false x 0xFF l in
      by_test (either (ltb room 60) (has x used))
      (λ m. simp (l, m) (stop room (Msg v used) 58 (msg_cheapest v used) h x s (λ t w. hopeless d m t w)))
      (λ m. simp (l, m) (tag d (neither (ltb room 60) (has x used) m))))
    where
      -- no room for a feature, or a tag that stands before
      hopeless : (x ≡ 0xFF → ⊥) → either (ltb room 60) (has x used) ≡ true → (t : List ℕ) → Msg v used (x ∷ t) → room ≤ length t
      hopeless d m t w =
          let n = msg_tag v used x d t w in
          ⊎_elim (λ l. omega (arith, ltb-true room 60 l, (tagged_cheapest v (x ∷ used)).all t n.1)) (λ l. absurd (not_both l n.0))
          (either_true (ltb room 60) (has x used) m)

      -- a feature
      tag : (x ≡ 0xFF → ⊥) → (ltb room 60 ≡ false) × (has x used ≡ false) →
          Longest (Within room (Msg v used)) (x ∷ s) (1 + tagged (length_front v (room - 1) s) (room - 1) (more (x ∷ used)) s)
      tag d m =
          let enough = ltb-false room 60 m.0 in
          let later : Later v (x ∷ used) (length s) (more (x ∷ used)) = λ r t b' h' g' f'. right (x ∷ used) r t b' h' g' (omega arith) in
          let low : x ≤ 254 = omega (arith, b 0, d) in
          let behind = tagged_is (x ∷ used) (length s) (more (x ∷ used)) v later (room - 1) s (λ i. b (suc i)) (omega arith) (omega arith)
          (omega arith) in
          step room (Msg v used) x (Tagged v (x ∷ used)) (λ t w. (msg_tag v used x d t w).1) (tag_msg v used x low m.1) (omega arith) s
          (tagged (length_front v (room - 1) s) (room - 1) (more (x ∷ used)) s) behind

-- so the answers are right, with fuel for all the bytes
right_is : (v : Version) (fuel : ℕ) → Right v fuel (message_front v fuel)
unfolding message_front
right_is v zero used room s b h g f = absurd (omega arith)
right_is v (suc fuel) used room s b h g f = turn_is v fuel (message_front v fuel) (right_is v fuel) used room s b h g f

-- features and signature, where the tags `used` stand before and `room` bytes are left
pub message_is : (v : Version) (used : List ℕ) (room : ℕ) (s : List ℕ) → Bytes s → 58 ≤ room → room ≤ 4096 →
    Longest (Within room (Msg v used)) s (message_front v (suc (length s)) used room s)
message_is v used room s b h g = right_is v (suc (length s)) used room s b h g (omega arith)
