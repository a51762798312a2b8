-- The marks of used tags, a bit for each in four words: a tag's bit is set exactly where the tag was used.
-- Assumes nothing.
use mathlib.Core.Path.{◌≡◌, refl, ap, sym, ◌∙◌}
use mathlib.Core.Bool.{true, false}
use Prim.Native.Nat.{ℕ, zero, suc, ◌+◌, ◌-◌, ◌*◌, ◌/◌, ◌%◌, ◌^◌, ◌<◌}
use native.Mathlib.Omega.{arith}
use native.Mathlib.Nat.{pow-suc, div-eq_of_lt}
use borrow.Author.Tests.{eq-eqb, ne_eqb, ltb-true, ltb-false, eqb-true, eqb-false}
use mathlib.Core.List.{List, [], ◌∷◌}
use lib.Bits.{bit_and, bit_or, and_mask, mask_lt, or_step, or_shr}
use lib.Dec.{eqb, ltb}
use lib.Pow.{shl_exact, shl-shr, shr_le, pow-add, pow-lt}
use lib.ListN.{length, length-set, get_or, set}
use lib.Seq.{get_or-set_same, get_or-set_other}
use Rattle.format.specs.Choice.Laws.{by_test}
use Rattle.grammar.proofs.Sizes.{has}

-- the bit at a place of a number
abbrev bit_at : ℕ → ℕ → ℕ
bit_at m k = m / 2 ^ k % 2

-- a tag's bit
abbrev bit_of : List ℕ → ℕ → ℕ
bit_of marks x = bit_at (get_or marks (x / 64) 0) (x % 64)

-- what the code finds for a tag
abbrev pub found : List ℕ → ℕ → ℕ
found marks x = bit_and (get_or marks (x / 64) 0 / 2 ^ bit_and x 63) 1

-- that is its bit
found_is : (marks : List ℕ) (x : ℕ) → found marks x ≡ bit_of marks x
found_is marks x =
    and_mask (get_or marks (x / 64) 0 / 2 ^ bit_and x 63) 1 ∙ ap (λ k. bit_at (get_or marks (x / 64) 0) k) (and_mask x 6)

-- a bit of an "or", where the other number has it not
or_even : (m n : ℕ) → n % 2 ≡ 0 → bit_or m n % 2 ≡ m % 2
or_even m n e = omega (arith, or_step m n)

-- and where it has it
or_odd : (m n : ℕ) → n % 2 ≡ 1 → bit_or m n % 2 ≡ 1
or_odd m n e = omega (arith, or_step m n)

-- 1 shifted to a bit has that bit
one_same : (k : ℕ) → bit_at (1 * 2 ^ k) k ≡ 1
one_same k = ap (λ z. z % 2) (shl-shr 1 k)

-- no bit below it
one_above : (j k : ℕ) → j < k → bit_at (1 * 2 ^ k) j ≡ 0
one_above j k h =
    let d = k - suc j in
    let split : k ≡ suc d + j = omega arith in
    let e : 1 * 2 ^ k ≡ 2 ^ suc d * 2 ^ j = omega (arith, ap (λ z. 2 ^ z) split ∙ pow-add 2 (suc d) j) in
    let f : 1 * 2 ^ k / 2 ^ j ≡ 2 ^ suc d = ap (λ z. z / 2 ^ j) e ∙ shl-shr (2 ^ suc d) j in
    ap (λ z. z % 2) f ∙ omega (arith, pow-suc 2 d)

-- no bit above it
one_below : (j k : ℕ) → k < j → bit_at (1 * 2 ^ k) j ≡ 0
one_below j k h =
    let e : 1 * 2 ^ k < 2 ^ j = omega (arith, pow-lt h) in
    ap (λ z. z % 2) (div-eq_of_lt e)

-- no other bit
one_other : (j k : ℕ) → (j ≡ k → ⊥) → bit_at (1 * 2 ^ k) j ≡ 0
one_other j k n =
    by_test (ltb j k)
    (λ t. one_above j k (ltb-true j k t))
    (λ t. let h = ltb-false j k t in one_below j k (omega (arith, n)))

-- a word with a bit set has that bit, and the others as before
abbrev with_bit : ℕ → ℕ → ℕ
with_bit m k = bit_or m (1 * 2 ^ k % 2 ^ 64)

-- a bit of such a word, by the bits of both
bit_or_lem : (m k j : ℕ) → k < 64 → bit_at (with_bit m k) j ≡ bit_or (m / 2 ^ j) (1 * 2 ^ k / 2 ^ j) % 2
bit_or_lem m k j h =
    ap (λ z. bit_at (bit_or m z) j) (shl_exact 1 k 64 (omega arith) (omega arith)) ∙ ap (λ z. z % 2) (or_shr m (1 * 2 ^ k) j)

-- the bit that was set
bit_set : (m k : ℕ) → k < 64 → bit_at (with_bit m k) k ≡ 1
bit_set m k h = bit_or_lem m k k h ∙ or_odd (m / 2 ^ k) (1 * 2 ^ k / 2 ^ k) (one_same k)

-- the other bits
bit_kept : (m k j : ℕ) → k < 64 → (j ≡ k → ⊥) → bit_at (with_bit m k) j ≡ bit_at m j
bit_kept m k j h n = bit_or_lem m k j h ∙ or_even (m / 2 ^ j) (1 * 2 ^ k / 2 ^ j) (one_other j k n)

-- what the loop knows of the marks: a tag's bit is set exactly where the tag was used
pub record Marked (marks used : List ℕ) : Type 0 where
  pub places : length marks ≡ 4
  pub each : (x : ℕ) → has x used ≡ eqb (bit_of marks x) 1

-- at first none is set, and none was used
abbrev pub bare : List ℕ
bare = 0 ∷ 0 ∷ 0 ∷ 0 ∷ []

-- each of the four words is 0
zeros : (i : ℕ) → get_or bare i 0 ≡ 0
zeros zero = refl
zeros (suc zero) = refl
zeros (suc (suc zero)) = refl
zeros (suc (suc (suc zero))) = refl
zeros (suc (suc (suc (suc i)))) = refl

pub marked_start : Marked bare []
unfolding has
marked_start = record { places = refl; each = each }
  where
    each : (x : ℕ) → false ≡ eqb (bit_of bare x) 1
    each x =
        let e : bit_of bare x ≡ 0 = ap (λ m. bit_at m (x % 64)) (zeros (x / 64)) ∙ omega (arith, shr_le 0 (x % 64)) in
        sym (ap (λ b. eqb b 1) e)

-- a tag whose bit is found set was used
pub marked_used : (marks used : List ℕ) (x : ℕ) → Marked marks used → found marks x ≡ 1 → has x used ≡ true
marked_used marks used x marked e = marked.each x ∙ eq-eqb (bit_of marks x) 1 (sym (found_is marks x) ∙ e)

-- a tag whose bit is not was not
pub marked_new : (marks used : List ℕ) (x : ℕ) → Marked marks used → (found marks x ≡ 1 → ⊥) → has x used ≡ false
marked_new marks used x marked n = marked.each x ∙ ne_eqb (bit_of marks x) 1 (λ e. n (found_is marks x ∙ e))

-- the marks once a tag's bit is set
abbrev pub mark : List ℕ → ℕ → List ℕ
mark marks x = set marks (x / 64) (with_bit (get_or marks (x / 64) 0) (bit_and x 63))

module _ (marks : List ℕ) (x : ℕ) (places : length marks ≡ 4) (small : x < 256) where
  -- the word of the tag, with its bit
  abbrev word : ℕ
  word = with_bit (get_or marks (x / 64) 0) (bit_and x 63)

  -- it stands in the word of the tag
  at_word : get_or (mark marks x) (x / 64) 0 ≡ word
  at_word = get_or-set_same marks (x / 64) word 0 (omega (arith, places))

  -- its bit is set
  mark_set : bit_of (mark marks x) x ≡ 1
  mark_set =
      ap (λ m. bit_at m (x % 64)) at_word
      ∙ ap (λ k. bit_at word k) (sym (and_mask x 6))
      ∙ bit_set (get_or marks (x / 64) 0) (bit_and x 63) (mask_lt x 6)

  -- the bit of another tag stays
  mark_kept : (y : ℕ) → (y ≡ x → ⊥) → bit_of (mark marks x) y ≡ bit_of marks y
  mark_kept y n =
      by_test (eqb (y / 64) (x / 64))
      (λ t.
      let same = eqb-true (y / 64) (x / 64) t in
      let apart : y % 64 ≡ bit_and x 63 → ⊥ = λ e. n (omega (arith, same, e, and_mask x 6)) in
      ap (λ w. bit_at (get_or (mark marks x) w 0) (y % 64)) same
      ∙ ap (λ m. bit_at m (y % 64)) at_word
      ∙ bit_kept (get_or marks (x / 64) 0) (bit_and x 63) (y % 64) (mask_lt x 6) apart
      ∙ ap (λ w. bit_at (get_or marks w 0) (y % 64)) (sym same))
      (λ t. ap (λ m. bit_at m (y % 64)) (get_or-set_other marks (x / 64) (y / 64) word 0 (eqb-false (y / 64) (x / 64) t)))

-- the marks with one more are those of the tags with one more
pub marked_more : (marks used : List ℕ) (x : ℕ) → Marked marks used → x < 256 → Marked (mark marks x) (x ∷ used)
unfolding has
marked_more marks used x marked small =
    record {
      places = simp length-set marked.places;
      each = λ y.
          by_test (eqb y x)
          (λ t.
          let e = eqb-true y x t in
          rw t (sym (eq-eqb (bit_of (mark marks x) y) 1 (ap (bit_of (mark marks x)) e ∙ mark_set marks x marked.places small))))
          (λ t.
          rw t (marked.each y ∙ sym (ap (λ b. eqb b 1) (mark_kept marks x marked.places small y (eqb-false y x t)))));
    }
