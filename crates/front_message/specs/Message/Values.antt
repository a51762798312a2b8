-- A value and what stands behind it; and the last byte of a length, which leaves a value.
-- Assumes nothing.
use Rattle.std.specs.Prelude.{◌≡◌, List, [], ◌∷◌, ◌++◌, ℕ, ◌+◌, ◌-◌, ◌≤◌, ◌<◌, ltb, length, take, drop}
use Rattle.std.proofs.Common.{sym, ap, ◌∙◌, subst, append_assoc, arith, ltb-true, ltb-false, length-append, length-drop, take-append-drop, take_all, length-take-le, drop_at}
use Rattle.format.specs.Bytes.{Bytes}
use Rattle.format.specs.Bytes.Laws.{bytes_append, bytes_take, bytes_drop}
use Rattle.format.specs.Choice.Laws.{by_test}
use Rattle.grammar.specs.Content.{Version}
use Rattle.front.specs.Front.{Longest}
use Rattle.front.proofs.Room.{Within, Cheapest, after, stop}
use Rattle.front_message.specs.Message.{is, last_of, value_front, tagged}
use Rattle.front_message.specs.Message.Languages.{Msg, Value, Tagged}
use Rattle.front_message.specs.Message.Steps.{value_msg, msg_value}
use Rattle.front_message.specs.Message.Least.{zeros, zeros_length, zeros_bytes, msg_cheapest, value_cheapest}

-- what goes on behind a value is the longest front part, of strings of at most `most` bytes
abbrev pub Later : Version → List ℕ → ℕ → (ℕ → List ℕ → ℕ) → Type 0
Later v used most more =
    (room : ℕ) (s : List ℕ) → Bytes s → 58 ≤ room → room ≤ 4096 → length s ≤ most → Longest (Within room (Msg v used)) s (more room s)

module _ (v : Version) (used : List ℕ) (most : ℕ) (more : ℕ → List ℕ → ℕ) (later : Later v used most more) where
  -- a value that is not whole
  value_part : (n room : ℕ) (s : List ℕ) → Bytes s → n + 58 ≤ room → length s ≤ n → Longest (Within room (Value v used n)) s (length s)
  value_part n room s b h l =
      let whole = take_all (length s) s (omega arith) in
      let z = zeros (n - length s) in
      let c = msg_cheapest v used in
      let size : length (s ++ z) ≡ n = length-append s z ∙ omega (arith, zeros_length (n - length s)) in
      let w = msg_value v used n (s ++ z) size (bytes_append s z b (zeros_bytes (n - length s))) c.one c.is in
      let fits : length ((s ++ z) ++ c.one) ≤ room = omega (arith, length-append (s ++ z) c.one, c.size) in
      let same : (s ++ z) ++ c.one ≡ take (length s) s ++ (z ++ c.one) =
      append_assoc s z c.one ∙ ap (λ x. x ++ (z ++ c.one)) (sym whole) in
      record {
        within = omega arith;
        begun = (z ++ c.one, subst (Within room (Value v used n)) same (w, fits));
        no_more = λ g. absurd (omega arith);
      }

  -- a whole value, and more
  value_whole : (n room : ℕ) (s : List ℕ) → Bytes s → n + 58 ≤ room → room ≤ 4096 → length s ≤ most → n ≤ length s →
      Longest (Within room (Value v used n)) s (n + more (room - n) (drop n s))
  value_whole n room s b h g f l =
      let x = take n s in
      let k = more (room - n) (drop n s) in
      let size : length x ≡ n = length-take-le n s l in
      let bytes = bytes_take n s b in
      let behind = later (room - n) (drop n s) (bytes_drop n s b) (omega arith) (omega arith) (omega (arith, length-drop n s)) in
      let front = after room (Value v used n) x (Msg v used) (value_msg v used n x size bytes) (msg_value v used n x size bytes)
      (omega arith) (drop n s) k (subst (λ m. Longest (Within (room - m) (Msg v used)) (drop n s) k) (sym size) behind) in
      subst (λ m. Longest (Within room (Value v used n)) s (m + k)) size
      (subst (λ y. Longest (Within room (Value v used n)) y (length x + k)) (take-append-drop n s) front)

  -- `value_front` is the longest front part behind a length n
  pub value_is : (n room : ℕ) (s : List ℕ) → Bytes s → n + 58 ≤ room → room ≤ 4096 → length s ≤ most →
      Longest (Within room (Value v used n)) s (value_front n room more s)
  value_is n room s b h g f =
      by_test (ltb (length s) n)
      (λ l. let less = ltb-true (length s) n l in simp l (value_part n room s b h (omega arith)))
      (λ l. simp l (value_whole n room s b h g f (ltb-false (length s) n l)))

  -- the last byte y of a length n, behind its others x
  module _ (x : List ℕ) (m : ℕ) (c : Cheapest (λ t. Tagged v used (x ++ t)) m) (y n : ℕ)
      (to : (t : List ℕ) → Tagged v used (x ++ (y ∷ t)) → Value v used n t)
      (from : (t : List ℕ) → Value v used n t → Tagged v used (x ++ (y ∷ t))) where
    -- there is no room for so long a value
    last_not : (room : ℕ) (s : List ℕ) → length x + m ≤ room → room < 1 + length x + n + 58 →
        Longest (Within room (Tagged v used)) (x ++ (y ∷ s)) (length x)
    last_not room s h l =
        let L = Tagged v used in
        let Q : List ℕ → Type 0 = λ t. L (x ++ t) in
        let behind = stop (room - length x) Q m c (omega arith) y s (λ t w. omega (arith, (value_cheapest v used n).all t (to t w))) in
        let none : length x + 0 ≡ length x = omega arith in
        subst (Longest (Within room L) (x ++ (y ∷ s))) none (after room L x Q (λ t w. w) (λ t w. w) (omega arith) (y ∷ s) 0 behind)

    -- there is
    last_all : (room : ℕ) (s : List ℕ) → Bytes s → 1 + length x + n + 58 ≤ room → room ≤ 4096 → length s ≤ most →
        Longest (Within room (Tagged v used)) (x ++ (y ∷ s)) (tagged (is n (1 + length x)) room more (x ++ (y ∷ s)))
    last_all room s b h g f =
        let L = Tagged v used in
        let Q = Value v used n in
        let w = 1 + length x in
        let p = x ++ (y ∷ []) in
        let size : length p ≡ w = length-append x (y ∷ []) ∙ omega arith in
        let same : (t : List ℕ) → p ++ t ≡ x ++ (y ∷ t) = λ t. append_assoc x (y ∷ []) t in
        let rest : s ≡ drop w (x ++ (y ∷ s)) = sym (ap (drop w) (sym (same s)) ∙ drop_at p s w size) in
        let k = value_front n (room - w) more s in
        let behind = value_is n (room - w) s b (omega arith) (omega arith) f in
        let front = after room L p Q (λ t i. to t (subst L (same t) i)) (λ t i. subst L (sym (same t)) (from t i)) (omega arith) s k
        (subst (λ j. Longest (Within (room - j) Q) s k) (sym size) behind) in
        subst (λ t. Longest (Within room L) (x ++ (y ∷ s)) (w + value_front n (room - w) more t)) rest
        (subst (λ j. Longest (Within room L) (x ++ (y ∷ s)) (j + k)) size
        (subst (λ t. Longest (Within room L) t (length p + k)) (same s) front))

    -- by `last_of`
    pub last_is : (room : ℕ) (s : List ℕ) → Bytes s → length x + m ≤ room → room ≤ 4096 → length s ≤ most →
        Longest (Within room (Tagged v used)) (x ++ (y ∷ s)) (tagged (last_of room n (length x)) room more (x ++ (y ∷ s)))
    last_is room s b h g f =
        by_test (ltb room (1 + length x + n + 58))
        (λ l. simp l (last_not room s h (ltb-true room (1 + length x + n + 58) l)))
        (λ l. simp l (last_all room s b (ltb-false room (1 + length x + n + 58) l) g f))
