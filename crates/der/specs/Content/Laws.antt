-- Laws of the shortest form.
-- Assumes nothing.
use Rattle.std.specs.Prelude.{◌≡◌, refl, true, false, not, ℕ, suc, ◌<◌, ◌≤◌, List, [], ◌∷◌, ltb, length, get_or}
use Rattle.std.proofs.Common.{arith, lt-ltb, le-ltb, ne_eqb}
use Rattle.format.specs.Choice.Laws.{by_test}
use Rattle.der.specs.Content.{redundant, shortest, strict}

-- by the number of bytes, as the code has it
pub strict_none : (c : List ℕ) → length c ≡ 0 → false ≡ strict c
unfolding strict
strict_none [] h = refl
strict_none (x ∷ c) h = absurd (omega arith)

pub strict_one : (c : List ℕ) → length c ≡ 1 → true ≡ strict c
unfolding strict
strict_one [] h = absurd (omega arith)
strict_one (x ∷ []) h = refl
strict_one (x ∷ y ∷ c) h = absurd (omega arith)

pub strict_more : (c : List ℕ) → 1 < length c → not (redundant (get_or c 0 0) (get_or c 1 0)) ≡ strict c
unfolding strict
strict_more [] h = absurd (omega arith)
strict_more (x ∷ []) h = absurd (omega arith)
strict_more (x ∷ y ∷ c) h = refl

-- one byte of a form, by the test
pub shortest_drop : (x y : ℕ) (s : List ℕ) → redundant x y ≡ true → shortest (x ∷ y ∷ s) ≡ shortest (y ∷ s)
unfolding shortest
shortest_drop x y s e = simp e

pub shortest_keep : (x y : ℕ) (s : List ℕ) → redundant x y ≡ false → shortest (x ∷ y ∷ s) ≡ x ∷ y ∷ s
unfolding shortest
shortest_keep x y s e = simp e

pub shortest_one : (x : ℕ) → shortest (x ∷ []) ≡ x ∷ []
unfolding shortest
shortest_one x = refl

never : false ≡ true → ⊥
never e = let z : ◌≡◌ {A = ℕ} 0 1 = cc in omega arith

-- what is strict is the shortest already
pub strict_shortest : (c : List ℕ) → strict c ≡ true → shortest c ≡ c
unfolding strict shortest
strict_shortest [] e = refl
strict_shortest (x ∷ []) e = refl
strict_shortest (x ∷ y ∷ c) e = by_test (redundant x y) (λ r. absurd (never (simp r at e))) (λ r. simp r)

-- a zero before a byte is redundant exactly where the byte is below 80
pub zero_redundant : (y : ℕ) → y < 0x80 → redundant 0 y ≡ true
zero_redundant y h = simp (lt-ltb y 0x80 h)

pub zero_needed : (y : ℕ) → 0x80 ≤ y → redundant 0 y ≡ false
zero_needed y h = simp (le-ltb y 0x80 h)

-- a byte that is neither zero nor from 80 on is not redundant
pub byte_needed : (x y : ℕ) → 0 < x → x < 0x80 → redundant x y ≡ false
byte_needed x y h l = by_test (ltb y 0x80) (λ e. simp (e, ne_eqb x 0 (λ z. omega arith))) (λ e. simp (e, ne_eqb x 0xFF (λ z. omega arith)))

-- the shortest form has at least one byte of a form that has, and no more
pub shortest_size : (x : ℕ) (s : List ℕ) → (1 ≤ length (shortest (x ∷ s))) × (length (shortest (x ∷ s)) ≤ length (x ∷ s))
unfolding shortest
shortest_size x [] = (omega arith, omega arith)
shortest_size x (y ∷ s) =
    let ih = shortest_size y s in
    by_test (redundant x y) (λ e. simp e (ih.0, le_step ih.1)) (λ e. simp e (omega arith, omega arith))
  where
    le_step : {a b : ℕ} → a ≤ b → a ≤ suc b
    le_step h = omega arith
