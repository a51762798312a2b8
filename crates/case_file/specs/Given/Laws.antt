-- The first such letter of a line, and a number with `~` before it or without.
-- Assumes nothing.
use Rattle.std.specs.Prelude.{ℕ, zero, suc, ◌+◌, ◌-◌, ◌≤◌, ◌<◌, ◌≡◌, refl, List, [], ◌∷◌, length, get_or}
use Rattle.std.proofs.Common.{ap, arith}
use borrow.Author.Tests.{eq-eqb, ne_eqb}
use Rattle.std.proofs.Math.Decide.{dec_le}
use Rattle.std.proofs.Math.ListN.{get_or-eq_default}
use Rattle.case_scan.specs.Scan.{number_at, number_end}
use Rattle.case_file.specs.Given.{after_first, any_number_at, any_number_end}

pub after_found :
    (letter : ℕ) (s : List ℕ) (i : ℕ) →
    i < length s →
    get_or s i 0 ≡ letter →
    ((k : ℕ) → k < i → get_or s k 0 ≡ letter → ⊥) →
    after_first letter s ≡ i + 1
unfolding after_first
after_found letter [] i h e f = absurd (omega arith)
after_found letter (b ∷ t) zero h e f = rw (eq-eqb b letter e)
after_found letter (b ∷ t) (suc i) h e f =
    let rest = after_found letter t i (omega arith) e (λ k g. f (suc k) (omega arith)) in
    rw (ne_eqb b letter (f 0 (omega arith))) (omega arith)

pub after_none : (letter : ℕ) (s : List ℕ) → ((k : ℕ) → k < length s → get_or s k 0 ≡ letter → ⊥) → after_first letter s ≡ length s
unfolding after_first
after_none letter [] f = refl
after_none letter (b ∷ t) f =
    let rest = after_none letter t (λ k g. f (suc k) (omega arith)) in
    rw (ne_eqb b letter (f 0 (omega arith))) (ap suc rest)

-- where `~` stands there is a byte
pub tilde_there : (s : List ℕ) (i : ℕ) → get_or s i 10 ≡ 126 → i < length s
tilde_there s i e = by_end (dec_le (length s) i) where
  by_end : Dec (length s ≤ i) → i < length s
  by_end (yes past) = absurd (omega (arith, e, get_or-eq_default s 10 past))
  by_end (no here) = omega arith

-- a number after `~`, and one without
module _ (s : List ℕ) (from value next : ℕ) where
  pub number_down : get_or s from 10 ≡ 126 → value ≡ number_at s (from + 1) → next ≡ number_end s (from + 1)
      → (18446744073709551615 - value ≡ any_number_at s from) × (next ≡ any_number_end s from)
  unfolding any_number_at any_number_end
  number_down e v n = (rw (eq-eqb _ _ e) (ap (λ k. 18446744073709551615 - k) v), rw (eq-eqb _ _ e) n)

  pub number_plain : (get_or s from 10 ≡ 126 → ⊥) → value ≡ number_at s from → next ≡ number_end s from
      → (value ≡ any_number_at s from) × (next ≡ any_number_end s from)
  unfolding any_number_at any_number_end
  number_plain h v n = (rw (ne_eqb _ _ h) v, rw (ne_eqb _ _ h) n)
