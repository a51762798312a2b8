-- A quotient by a constant without a division (document 02, Ticket 5): a product and a shift, over the range that the constants leave;
-- and for every number, by its parts. What the quotient leaves is told by the low bits of the product.
-- Assumes nothing.
use Rattle.std.specs.Prelude.{◌≡◌, ℕ, ◌+◌, ◌*◌, ◌/◌, ◌%◌, ◌<◌, ◌≤◌, leb}
use Rattle.std.proofs.Common.{ap, sym, ◌∙◌, arith, add_assoc, mul-add, add-mul, mul_assoc, mul_right_comm, one-mul, mul-le-mul_right, le_of_mul-le-mul_right, lt_of_mul-lt-mul_right, div-mul-le_self, div-add-mod', mod-lt, mod-eq_of_lt, leb-true, leb-false, le-leb}
use Rattle.std.proofs.Math.Nat.{lt-div-mul-add, div-eq_of_lt-le, add-mul-div_right, add-mul-mod_self_right}
use Rattle.std.proofs.lemmas.Bool.{lt-leb}
use Rattle.format.specs.Choice.Laws.{by_test}

-- k is the quotient by p where it is once both sides are taken d times
between : (d m p n k : ℕ) → 0 < d → k * d * p ≤ n * (m * d) → n * (m * d) < k * d * p + d * p → n * m / p ≡ k
between d m p n k pos low high =
    let a = mul_right_comm k d p in
    let b = mul_assoc n m d in
    let c : (k + 1) * p * d ≡ k * p * d + p * d = ap (λ x. x * d) (add-mul k 1 p ∙ ap (λ x. k * p + x) (one-mul p)) ∙ add-mul (k * p) p d in
    let e : p * d ≡ d * p = omega arith in
    let under : k * p * d ≤ n * m * d = omega arith in
    let over : n * m * d < (k + 1) * p * d = omega arith in
    div-eq_of_lt-le {k = k} p (le_of_mul-le-mul_right {k = d} under pos) (lt_of_mul-lt-mul_right d over)

-- m * d is p and a little, e: then m / p serves as 1 / d, for each n that the little leaves below p
pub quotient : (d m p e : ℕ) → 0 < d → m * d ≡ p + e → (n : ℕ) → n * e < p → n * m / p ≡ n / d
quotient d m p e pos ex n small =
    let k = n / d in
    let all : n * (m * d) ≡ n * p + n * e = ap (λ x. n * x) ex ∙ mul-add n p e in
    let under : k * d * p ≤ n * p = mul-le-mul_right p (div-mul-le_self n d) in
    let next : n + 1 ≤ k * d + d = omega (arith, lt-div-mul-add {a = n} pos) in
    let up : (n + 1) * p ≤ (k * d + d) * p = mul-le-mul_right p next in
    let left : (n + 1) * p ≡ n * p + p = add-mul n 1 p ∙ ap (λ x. n * p + x) (one-mul p) in
    let right = add-mul (k * d) d p in
    between d m p n k pos (omega arith) (omega arith)

-- p is c times d and r over: d goes into n c times as often as p does, and into what is left, r each time and the rest of n by p
by_part : (d p c r : ℕ) → 0 < d → p ≡ c * d + r → (n : ℕ) → n / p * c + (n / p * r + n % p) / d ≡ n / d
by_part d p c r pos is n =
    let k = n / p in
    let parts : k * p ≡ k * c * d + k * r = ap (λ x. k * x) is ∙ mul-add k (c * d) r ∙ ap (λ x. x + k * r) (sym (mul_assoc k c d)) in
    let cut : k * p + n % p ≡ n = div-add-mod' n p in
    let whole : n ≡ k * r + n % p + k * c * d = omega (arith, parts, cut) in
    let sum = add-mul-div_right (k * r + n % p) (k * c) pos in
    omega (arith, ap (λ x. x / d) whole, sum)

-- so every n is divided by its part above p, its rest's part above q, and a product and a shift of what is left then
module _ (d m t e : ℕ) (pos : 0 < d) (ex : m * d ≡ t + e) (p q c b r : ℕ) (high : p ≡ c * d + r) (middle : q ≡ b * d + r) where
  pub by_parts :
      (n rest last : ℕ) →
      rest ≡ n / p * r + n % p →
      last ≡ rest / q * r + rest % q →
      last * e < t →
      n / p * c + rest / q * b + last * m / t ≡ n / d
  by_parts n rest last f g small =
      add_assoc (n / p * c) (rest / q * b) (last * m / t)
      ∙ ap (λ x. n / p * c + (rest / q * b + x)) (quotient d m t e pos ex last small ∙ ap (λ x. x / d) g)
      ∙ ap (λ x. n / p * c + x) (by_part d q b r pos middle rest ∙ ap (λ x. x / d) f)
      ∙ by_part d p c r pos high n

one_more : (k m : ℕ) → (k + 1) * m ≡ k * m + m
one_more k m = add-mul k 1 m ∙ ap (λ x. k * m + x) (one-mul m)

-- m * d is p and a little, e: then what p leaves of a product by m is what d leaves of n, so many times m, and the little once for each
-- time that d goes into n; so a test of the one is a test of the other, as long as all the little together is below m
module _ (d m p e : ℕ) (pos : 0 < d) (ex : m * d ≡ p + e) (n : ℕ) (small : n / d * e + e < m) where
  left_of : n * m % p ≡ n % d * m + n / d * e
  left_of =
      let q = n / d in
      let r = n % d in
      let wholes : q * d * m ≡ q * p + q * e = mul_right_comm q d m ∙ mul_assoc q m d ∙ ap (λ x. q * x) ex ∙ mul-add q p e in
      let parts : n * m ≡ q * d * m + r * m = ap (λ x. x * m) (sym (div-add-mod' n d)) ∙ add-mul (q * d) r m in
      let whole : n * m ≡ r * m + q * e + q * p = omega (arith, wholes, parts) in
      let most : (r + 1) * m ≤ d * m = mul-le-mul_right m (omega (arith, mod-lt n pos)) in
      let turned : d * m ≡ m * d = omega arith in
      ap (λ x. x % p) whole ∙ add-mul-mod_self_right (r * m + q * e) q p ∙ mod-eq_of_lt (omega (arith, most, one_more r m, turned, ex))

  pub left_test : (b : ℕ) → leb (b * m) (n * m % p) ≡ leb b (n % d)
  left_test b =
      by_test (leb b (n % d))
      (λ e.
      let least : b * m ≤ n % d * m = mul-le-mul_right m (leb-true b (n % d) e) in
      le-leb (b * m) (n * m % p) (omega (arith, left_of, least)) ∙ sym e)
      (λ e.
      let most : (n % d + 1) * m ≤ b * m = mul-le-mul_right m (omega (arith, leb-false b (n % d) e)) in
      lt-leb (b * m) (n * m % p) (omega (arith, left_of, most, one_more (n % d) m)) ∙ sym e)
