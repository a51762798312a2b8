-- The shortest form of a number in bytes, after a zero: its digits are the number's without leading zeros, and the other way round.
-- Assumes nothing.
use Rattle.std.specs.Prelude.{◌≡◌, refl, true, not, ℕ, zero, suc, ◌-◌, ◌<◌, ◌≤◌, List, [], ◌∷◌, ◌++◌, ltb, eqb, length, get_or, drop, replicate}
use Rattle.std.proofs.Common.{ap, sym, subst, ◌∙◌, arith, ltb-true, ltb-false, eqb-true}
use Rattle.std.proofs.lemmas.Bool.{eqb-false}
use Rattle.format.specs.Choice.Laws.{by_test}
use Rattle.der.specs.Content.{shortest, strict}
use Rattle.der.specs.Content.Laws.{strict_none, strict_one, strict_more, shortest_drop, shortest_keep, shortest_one, strict_shortest}
use Rattle.der.specs.Content.Laws.{zero_redundant, zero_needed, byte_needed}
use Rattle.ecdsa.specs.Strict.{lead, padded}
use Rattle.ecdsa.proofs.Strict.Laws.{never, lead_one, lead_not, lead_short}

-- digits that fill the n bytes; and one zero more in front
padded_self : (d : List ℕ) → padded (length d) d ≡ d
padded_self d = let none : length d - length d ≡ 0 = omega arith in ap (λ k. replicate k 0 ++ d) none

padded_more : (n : ℕ) (d : List ℕ) → length d ≤ n → padded (suc n) d ≡ 0 ∷ padded n d
padded_more n d h = let one : suc n - length d ≡ suc (n - length d) = omega arith in ap (λ k. replicate k 0 ++ d) one

-- content whose digits, with leading zeros, are the number
pub record Carries (r c : List ℕ) : Type 0 where
  pub is_strict : strict c ≡ true
  pub low : get_or c 0 0 < 0x80
  pub fits : length (drop (lead c) c) ≤ length r
  pub back : padded (length r) (drop (lead c) c) ≡ r

-- where the first byte is no digit, and where all are digits
carries_rest : (y : ℕ) (r : List ℕ) → 0x80 ≤ y → Carries (y ∷ r) (0 ∷ y ∷ r)
carries_rest y r h =
    let one : drop (lead (0 ∷ y ∷ r)) (0 ∷ y ∷ r) ≡ y ∷ r = ap (λ k. drop k (0 ∷ y ∷ r)) (lead_one (0 ∷ y ∷ r) refl (omega arith)) in
    record {
      is_strict = sym (strict_more (0 ∷ y ∷ r) (omega arith)) ∙ ap not (zero_needed y h);
      low = omega arith;
      fits = omega (arith, ap length one);
      back = ap (padded (length (y ∷ r))) one ∙ padded_self (y ∷ r);
    }

carries_all : (y : ℕ) (r : List ℕ) → strict (y ∷ r) ≡ true → y < 0x80 → lead (y ∷ r) ≡ 0 → Carries (y ∷ r) (y ∷ r)
carries_all y r s h e =
    let all : drop (lead (y ∷ r)) (y ∷ r) ≡ y ∷ r = ap (λ k. drop k (y ∷ r)) e in
    record { is_strict = s; low = h; fits = omega (arith, ap length all); back = ap (padded (length (y ∷ r))) all ∙ padded_self (y ∷ r) }

carries_zero : (r c : List ℕ) → Carries r c → Carries (0 ∷ r) c
carries_zero r c h = record {
  is_strict = h.is_strict;
  low = h.low;
  fits = omega (arith, h.fits);
  back = padded_more (length r) (drop (lead c) c) h.fits ∙ ap (λ q. 0 ∷ q) h.back;
}

-- a byte from 1 to 7F in front is kept
kept : (y : ℕ) (r : List ℕ) → 0 < y → y < 0x80 → (strict (y ∷ r) ≡ true) × (shortest (y ∷ r) ≡ y ∷ r)
kept y [] low high = (sym (strict_one (y ∷ []) refl), shortest_one y)
kept y (z ∷ r) low high =
    let needed = byte_needed y z low high in
    (sym (strict_more (y ∷ z ∷ r) (omega arith)) ∙ ap not needed, shortest_keep y z r needed)

-- a byte in front, where what follows it is settled
front : (y : ℕ) (r : List ℕ) → Carries (0 ∷ r) (shortest (0 ∷ r)) → Carries (y ∷ r) (shortest (0 ∷ y ∷ r))
front y r rest =
    by_test (ltb y 0x80)
    (λ h. by_test (eqb y 0) (λ e. none (ltb-true y 0x80 h) (eqb-true y 0 e)) (λ e. some (ltb-true y 0x80 h) (eqb-false y 0 e)))
    (λ h.
    let high = ltb-false y 0x80 h in
    subst (λ c. Carries (y ∷ r) c) (sym (shortest_keep 0 y r (zero_needed y high))) (carries_rest y r high))
  where
    none : y < 0x80 → y ≡ 0 → Carries (y ∷ r) (shortest (0 ∷ y ∷ r))
    none h e =
        subst (λ c. Carries (y ∷ r) c) (sym (shortest_drop 0 y r (zero_redundant y h)))
        (subst (λ z. Carries (z ∷ r) (shortest (z ∷ r))) (sym e) rest)

    some : y < 0x80 → (y ≡ 0 → ⊥) → Carries (y ∷ r) (shortest (0 ∷ y ∷ r))
    some h e =
        let k = kept y r (omega (arith, e)) h in
        subst (λ c. Carries (y ∷ r) c) (sym (shortest_drop 0 y r (zero_redundant y h) ∙ k.1))
        (carries_all y r k.0 h (lead_not (y ∷ r) e))

-- what the number's shortest form carries is the number
pub shortest_carries : (y : ℕ) (r : List ℕ) → Carries (y ∷ r) (shortest (0 ∷ y ∷ r))
shortest_carries y [] =
    front y []
    (subst (λ c. Carries (0 ∷ []) c) (sym (shortest_one 0))
    (carries_all 0 [] (sym (strict_one (0 ∷ []) refl)) (omega arith) (lead_short (0 ∷ []) (omega arith))))
shortest_carries y (z ∷ r) =
    let ih = shortest_carries z r in
    front y (z ∷ r) (carries_zero (z ∷ r) (shortest (0 ∷ z ∷ r)) ih)

-- leading zeros go
zeros_go : (j : ℕ) (d : List ℕ) → shortest (0 ∷ (replicate j 0 ++ d)) ≡ shortest (0 ∷ d)
zeros_go zero d = refl
zeros_go (suc j) d =
    let ih = zeros_go j d in
    shortest_drop 0 0 (replicate j 0 ++ d) (zero_redundant 0 (omega arith)) ∙ ih

-- a zero before the digits of strict content that is not negative
zero_before : (c : List ℕ) → strict c ≡ true → get_or c 0 0 < 0x80 → shortest (0 ∷ drop (lead c) c) ≡ c
zero_before [] s h = absurd (never (strict_none [] refl ∙ s))
zero_before (x ∷ []) s h =
    ap (λ k. shortest (0 ∷ drop k (x ∷ []))) (lead_short (x ∷ []) (omega arith))
    ∙ shortest_drop 0 x [] (zero_redundant x h)
    ∙ shortest_one x
zero_before (x ∷ y ∷ c) s h =
    by_test (eqb x 0)
    (λ e.
    let is = eqb-true x 0 e in
    ap (λ k. shortest (0 ∷ drop k (x ∷ y ∷ c))) (lead_one (x ∷ y ∷ c) is (omega arith))
    ∙ ap (λ z. shortest (z ∷ y ∷ c)) (sym is)
    ∙ strict_shortest (x ∷ y ∷ c) s)
    (λ e.
    ap (λ k. shortest (0 ∷ drop k (x ∷ y ∷ c))) (lead_not (x ∷ y ∷ c) (eqb-false x 0 e))
    ∙ shortest_drop 0 x (y ∷ c) (zero_redundant x h)
    ∙ strict_shortest (x ∷ y ∷ c) s)

-- the shortest form of the digits with leading zeros is the content they were read from
pub padded_shortest : (n : ℕ) (c : List ℕ) → strict c ≡ true → get_or c 0 0 < 0x80 → shortest (0 ∷ padded n (drop (lead c) c)) ≡ c
padded_shortest n c s h = zeros_go (n - length (drop (lead c) c)) (drop (lead c) c) ∙ zero_before c s h
