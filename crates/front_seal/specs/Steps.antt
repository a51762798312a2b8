-- The steps of the pass: an item at a place that cannot be completed ends it there, and behind a whole one it goes on.
-- Assumes nothing.
pub mod Dates
pub mod Names
pub mod Start
use Rattle.std.specs.Prelude.{◌≡◌, List, ℕ, ◌+◌, ◌≤◌, ◌<◌, length, drop, get_or}
use Rattle.std.proofs.Math.Path.{refl, ap}
use Rattle.std.proofs.Common.{sym, arith}
use Rattle.std.proofs.Math.Dec.{ltb}
use Rattle.std.proofs.Math.Seq.{drop-drop}
use Rattle.std.proofs.Math.Decide.{dec_le}
use borrow.Author.Tests.{lt-ltb, le-ltb}
use Rattle.format.specs.Choice.Laws.{within_true}
use Rattle.format.specs.Places.{at_place, past_end}
use Rattle.front_header.specs.Header.{byte_front, past, last_front}

-- nothing more
abbrev pub nothing : List ℕ → ℕ
nothing s = 0

module _ (item : List ℕ → ℕ) (w : ℕ) (more : List ℕ → ℕ) (s : List ℕ) (at n : ℕ) (e : n ≡ item (drop at s)) where
  -- not all of the item's bytes can be completed
  pub ends_in_lem : n < w → at + n ≡ at + past item w more (drop at s)
  unfolding past
  ends_in_lem h = let t : ltb (item (drop at s)) w ≡ ltb n w = ap (λ x. ltb x w) (sym e) in simp (t, lt-ltb n w h) (ap (λ x. at + x) e)

  -- the item is whole
  pub goes_on_lem : w ≤ n → at + past item w more (drop at s) ≡ at + w + more (drop (at + w) s)
  unfolding past
  goes_on_lem h =
      let t : ltb (item (drop at s)) w ≡ ltb n w = ap (λ x. ltb x w) (sym e) in
      simp (t, le-ltb n w h, drop-drop w at s) (omega arith)

module _ (s : List ℕ) (at : ℕ) where
  -- definition reference or category: no byte, 0, 255, or any other
  pub last_none : length s ≤ at → 0 ≡ last_front (drop at s)
  unfolding byte_front
  last_none h = rw (past_end s at h) refl

  pub last_zero : at < length s → get_or s at 0 ≡ 0 → 0 ≡ last_front (drop at s)
  unfolding byte_front
  last_zero h e = rw (at_place s at 0 h) (rw e refl)

  pub last_high : at < length s → get_or s at 0 ≡ 255 → 0 ≡ last_front (drop at s)
  unfolding byte_front
  last_high h e = rw (at_place s at 0 h) (rw e refl)

  pub last_good : at < length s → (get_or s at 0 ≡ 0 → ⊥) → (get_or s at 0 ≡ 255 → ⊥) → get_or s at 0 < 256 → 1 ≡ last_front (drop at s)
  unfolding byte_front
  last_good h a b c = rw (at_place s at 0 h) (rw (within_true 1 254 (get_or s at 0) (omega arith) (omega arith)) refl)

  -- a byte that can stand there is there
  pub last_there : (n : ℕ) → n ≡ last_front (drop at s) → 1 ≤ n → at + 1 ≤ length s
  last_there n e h = elim (dec_le (length s) at) [
    | yes g ↦ absurd (omega (arith, last_none g))
    | no g ↦ omega arith
  ]
