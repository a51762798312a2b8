-- The pairs before the last: each carries three characters, or is wrongly coded. How far they carry three, and those characters.
-- Assumes nothing.
pub mod Laws
use Rattle.std.specs.Prelude.{◌≡◌, false, ℕ, zero, suc, ◌+◌, ◌%◌, ◌<◌, ◌≤◌, List, [], ◌++◌, length, get_or}
use Rattle.pairs.specs.Chart.{the_chart}
use Rattle.pairs.specs.Pairs.{pair_of, chars_of}

-- what the pair at a place carries where it is not the last
abbrev pub inner : List ℕ → ℕ → List ℕ
inner s i = chars_of (pair_of the_chart false (get_or s i 0) (get_or s (i + 1) 0))

-- what the pairs before a place carry
unfoldable pub before : List ℕ → ℕ → List ℕ
before s zero = []
before s (suc zero) = []
before s (suc (suc i)) = before s i ++ inner s i

-- all pairs before a place carry three characters
pub record FullTo (s : List ℕ) (at : ℕ) : Type 0 where
  pub even : at % 2 ≡ 0
  pub three : (i : ℕ) → i < at → i % 2 ≡ 0 → length (inner s i) ≡ 3

-- this is the first of them that does not, or else the last pair's place
pub record Stopped (s : List ℕ) (last at : ℕ) : Type 0 where
  pub full : FullTo s at
  pub inside : at ≤ last
  pub not_full : at < last → length (inner s at) ≡ 3 → ⊥
