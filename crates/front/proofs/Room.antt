-- A language in so many bytes at most: its shortest strings, and the longest front part as the room goes down.
-- Assumes nothing.
use Rattle.std.specs.Prelude.{◌≡◌, List, [], ◌∷◌, ◌++◌, ℕ, ◌+◌, ◌-◌, ◌≤◌, length}
use Rattle.std.proofs.Common.{arith, length-append}
use Rattle.front.specs.Front.{Begins, Longest}
use Rattle.front.proofs.Front.Laws.{longest_end, longest_stop, longest_after}

-- a string of at most `room` bytes
abbrev pub Within : ℕ → (List ℕ → Type 0) → List ℕ → Type 0
Within room L t = L t × (length t ≤ room)

-- the shortest strings have m bytes
pub record Cheapest (L : List ℕ → Type 0) (m : ℕ) : Type 0 where
  pub all : (t : List ℕ) → L t → m ≤ length t
  pub one : List ℕ
  pub is : L one
  pub size : length one ≡ m

module _ (room : ℕ) (L : List ℕ → Type 0) where
  -- with room for the shortest there is a string
  pub can : (m : ℕ) → Cheapest L m → m ≤ room → Begins (Within room L) []
  can m c h = (c.one, (c.is, omega (arith, c.size)))

  -- the bytes x leave the language Q and so much less room
  pub after :
      (x : List ℕ) (Q : List ℕ → Type 0) →
      ((t : List ℕ) → L (x ++ t) → Q t) →
      ((t : List ℕ) → Q t → L (x ++ t)) →
      length x ≤ room →
      (s : List ℕ) (k : ℕ) →
      Longest (Within (room - length x) Q) s k →
      Longest (Within room L) (x ++ s) (length x + k)
  after x Q to from h s k l =
      longest_after (Within room L) x (Within (room - length x) Q)
      (λ t p. (to t p.0, omega (arith, length-append x t, p.1)))
      (λ t q. (from t q.0, omega (arith, length-append x t, q.1)))
      s k l

  -- one byte, behind which the rest still has room
  pub step :
      (b : ℕ) (Q : List ℕ → Type 0) →
      ((t : List ℕ) → L (b ∷ t) → Q t) →
      ((t : List ℕ) → Q t → L (b ∷ t)) →
      1 ≤ room →
      (s : List ℕ) (k : ℕ) →
      Longest (Within (room - 1) Q) s k →
      Longest (Within room L) (b ∷ s) (1 + k)
  step b Q to from h s k l = after (b ∷ []) Q to from h s k l

  -- a byte behind which nothing fits any more
  pub stop :
      (m : ℕ) →
      Cheapest L m →
      m ≤ room →
      (b : ℕ) (s : List ℕ) →
      ((t : List ℕ) → L (b ∷ t) → room ≤ length t) →
      Longest (Within room L) (b ∷ s) 0
  stop m c h b s n =
      longest_stop (Within room L) b s (can m c h) (λ w. let g = n w.0 w.1.0 in let i = w.1.1 in omega arith)

  -- the input ends
  pub end : (m : ℕ) → Cheapest L m → m ≤ room → Longest (Within room L) [] 0
  end m c h = longest_end (Within room L) (can m c h)
