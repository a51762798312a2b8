-- A signature at a place, by what stands there: each answer of the definition is an answer of the code.
-- Assumes nothing.
use Rattle.std.specs.Prelude.{◌≡◌, refl, Bool, true, false, ℕ, ◌+◌, ◌-◌, ◌<◌, ◌≤◌, List, [], ◌∷◌, eqb, ltb, length, drop, get_or}
use Rattle.std.proofs.Common.{inl, inr, arith}
use types.Run.{OneOf}
use borrow.Author.Tests.{eq-eqb, ne_eqb, lt-ltb, le-ltb}
use Rattle.format.specs.Choice.{pick}
use Rattle.format.specs.Choice.Laws.{either_right}
use Rattle.format.specs.Places.{past_end}
use Rattle.grammar.proofs.Sizes.{has}
use Rattle.front_message.specs.Message.{any_front, long_front, signature_front}
use Rattle.front_features.specs.Places.{byte_here}

-- a signature of this size, whose size is told by the byte at a place
abbrev pub sized : ℕ → ℕ → ℕ → List ℕ → ℕ
sized room size at s = pick (ltb room (1 + size)) 0 (1 + any_front size (drop (at + 1) s))

-- the sizes that one byte tells
abbrev pub short : List ℕ
short = 56 ∷ 64 ∷ 96 ∷ []

-- the sizes that stand behind 81
abbrev pub long : List ℕ
long = 128 ∷ 132 ∷ []

-- a signature whose size has no room
pub sized_cramped : (room size at : ℕ) (s : List ℕ) → room < 1 + size → at ≡ at + sized room size at s
sized_cramped room size at s h = let e : sized room size at s ≡ 0 = rw (lt-ltb room (1 + size) h) in omega arith

-- a signature whose size has room
pub sized_is : (room size at : ℕ) (s : List ℕ) → 1 + size ≤ room → at + 1 + any_front size (drop (at + 1) s) ≡ at + sized room size at s
sized_is room size at s h =
    let e : sized room size at s ≡ 1 + any_front size (drop (at + 1) s) = rw (le-ltb room (1 + size) h) in
    omega arith

module _ (room at : ℕ) (s : List ℕ) where
  -- nothing stands behind 81
  pub long_end : length s ≤ at → at ≡ at + long_front room (drop at s)
  unfolding long_front
  long_end h = rw (past_end s at h) (omega arith)

  -- nothing stands behind FF
  pub signature_end : length s ≤ at → at ≡ at + signature_front room (drop at s)
  unfolding signature_front
  signature_end h = rw (past_end s at h) (omega arith)

  module _ (x : ℕ) (h : at < length s) (e : x ≡ get_or s at 0) where
    -- a size behind 81
    pub long_size : has x long ≡ true → at + sized room x at s ≡ at + long_front room (drop at s)
    unfolding long_front
    long_size y = rw (byte_here s at x h e, y)

    -- another byte behind 81
    pub long_other : has x long ≡ false → at ≡ at + long_front room (drop at s)
    unfolding long_front
    long_other y = rw (byte_here s at x h e, y) (omega arith)

    -- a size behind FF
    pub signature_size_lem : has x short ≡ true → at + sized room x at s ≡ at + signature_front room (drop at s)
    unfolding signature_front
    signature_size_lem y = rw (byte_here s at x h e, y)

    module _ (y : has x short ≡ false) where
      -- neither a size nor 81
      pub signature_other : (x ≡ 0x81 → ⊥) → at ≡ at + signature_front room (drop at s)
      unfolding signature_front
      signature_other n = rw (byte_here s at x h e, y, ne_eqb x 0x81 n) (omega arith)

      -- 81 without room for the least signature behind it
      pub signature_cramped : x ≡ 0x81 → room < 130 → at ≡ at + signature_front room (drop at s)
      unfolding signature_front
      signature_cramped f less = rw (byte_here s at x h e, y, eq-eqb x 0x81 f, lt-ltb room 130 less) (omega arith)

      -- 81 with room
      pub signature_long : (less : ℕ) → less ≡ room - 1 → x ≡ 0x81 → 130 ≤ room
          → at + 1 + long_front less (drop (at + 1) s) ≡ at + signature_front room (drop at s)
      unfolding signature_front
      signature_long less l f more = rw (l, byte_here s at x h e, y, eq-eqb x 0x81 f, le-ltb room 130 more) (omega arith)

-- no size is none
pub has_none : (x : ℕ) → has x [] ≡ false
unfolding has
has_none x = refl

-- the first of some sizes is one of them
pub has_here : (x a : ℕ) (l : List ℕ) → x ≡ a → has x (a ∷ l) ≡ true
unfolding has
has_here x a l e = rw (eq-eqb x a e)

-- another than the first is one of them, if it is one of the others
pub has_more : (x a : ℕ) (l : List ℕ) (b : Bool) → (x ≡ a → ⊥) → has x l ≡ b → has x (a ∷ l) ≡ b
unfolding has
has_more x a l b n e = rw (ne_eqb x a n) e

-- one of two sizes, or of three, and none of them
pub has_two : (x a b : ℕ) → OneOf (a ∷ b ∷ []) x → has x (a ∷ b ∷ []) ≡ true
unfolding has
has_two x a b (inl e) = has_here x a (b ∷ []) e
has_two x a b (inr e) = either_right (eqb x a) (has x (b ∷ [])) (has_here x b [] e)

pub has_no_two : (x a b : ℕ) → (OneOf (a ∷ b ∷ []) x → ⊥) → has x (a ∷ b ∷ []) ≡ false
has_no_two x a b n = has_more x a (b ∷ []) false (λ e. n (inl e)) (has_more x b [] false (λ e. n (inr e)) (has_none x))

pub has_three : (x a b d : ℕ) → OneOf (a ∷ b ∷ d ∷ []) x → has x (a ∷ b ∷ d ∷ []) ≡ true
unfolding has
has_three x a b d (inl e) = has_here x a (b ∷ d ∷ []) e
has_three x a b d (inr o) = either_right (eqb x a) (has x (b ∷ d ∷ [])) (has_two x b d o)

pub has_no_three : (x a b d : ℕ) → (OneOf (a ∷ b ∷ d ∷ []) x → ⊥) → has x (a ∷ b ∷ d ∷ []) ≡ false
has_no_three x a b d n = has_more x a (b ∷ d ∷ []) false (λ e. n (inl e)) (has_no_two x b d (λ o. n (inr o)))

-- 81 is none of the short sizes
pub long_not_short : (x : ℕ) → x ≡ 0x81 → has x short ≡ false
unfolding has
long_not_short x e = rw e refl
