-- What the longest front part tells those who handle a seal that is refused: from where it is hopeless, how far at
-- most, and by how much of the input.
-- Assumes nothing.
use Rattle.std.specs.Prelude.{◌≡◌, List, ℕ, suc, ◌<◌, ◌≤◌, length, take}
use Rattle.std.proofs.Common.{subst}
use Rattle.front.specs.Front.{Sealed, Longest}
use Rattle.front.proofs.Front.Laws.{none_behind, whole_begun, within_limit, limit_decides}

-- an accepted seal has at most 4,096 bytes
sealed_short : (t : List ℕ) → Sealed t → length t ≤ 4096
sealed_short t s = subst (λ (x : List ℕ). length x ≤ 4096) s.is s.legal.size

-- "No byte behind the first k + 1 can help": no accepted seal has these k + 1 bytes in front.
pub no_help :
    (s : List ℕ) (k : ℕ) → Longest Sealed s k → k < length s → (t : List ℕ) → take (suc k) t ≡ take (suc k) s → Sealed t → ⊥
no_help = none_behind Sealed

-- no front part that can be completed is longer than a seal
pub at_most : (s : List ℕ) (k : ℕ) → Longest Sealed s k → k ≤ 4096
at_most = within_limit Sealed 4096 sealed_short

-- an accepted seal can be completed as a whole
pub whole_exactly : (s : List ℕ) (k : ℕ) → Longest Sealed s k → Sealed s → k ≡ length s
whole_exactly = whole_begun Sealed

-- an input is judged by its first 4,097 bytes alone
pub front_decides : (s t : List ℕ) (k : ℕ) → take 4097 s ≡ take 4097 t → Longest Sealed s k → Longest Sealed t k
front_decides = limit_decides Sealed 4096 sealed_short
