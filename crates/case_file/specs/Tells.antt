-- What it is that an answer tells: that it is yes exactly when a fact holds.
-- Assumes nothing.
use Rattle.std.specs.Prelude.{ℕ, ◌≡◌, refl, Bool, true, false, cond}
use Rattle.std.proofs.Common.{arith, ap}

abbrev pub Tells : Bool → Type 0 → Type 0
Tells answer fact = (answer ≡ true → fact) × (fact → answer ≡ true)

pub yes_tells : {fact : Type 0} → fact → Tells true fact
yes_tells f = (λ e. f, λ g. refl)

pub no_tells : {fact : Type 0} → (fact → ⊥) → Tells false fact
no_tells n = (
  λ e.
      let z : ◌≡◌ {A = ℕ} 1 0 = ap (λ (b : Bool). cond b 0 1) e in
      absurd (omega (arith, z)),
  λ f. absurd (n f),
)

-- by another fact
pub tells_through : {fact other : Type 0} {answer : Bool} → (fact → other) → (other → fact) → Tells answer fact → Tells answer other
tells_through f g t = (λ e. f (t.0 e), λ o. t.1 (g o))
