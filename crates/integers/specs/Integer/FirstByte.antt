-- Numbers in bytes by their first byte: below the half, and from the half on, as how far they lie below the next power.
-- Assumes nothing.
use Rattle.std.specs.Prelude.{◌≡◌, ℕ, zero, suc, ◌+◌, ◌-◌, ◌*◌, ◌/◌, ◌%◌, ◌^◌, ◌<◌, ◌≤◌, List, [], ◌∷◌, ◌++◌, length, get_or}
use Rattle.std.proofs.Common.{ap, ap₂, sym, subst, ◌∙◌, arith, pow-suc, mul-le-mul_right, mul_assoc, add-one, lit≤, length-append, get_or-append-add}
use Rattle.std.proofs.Math.Nat.{pow-le-pow_right, div-div-eq-div-mul}
use Rattle.format.specs.Bytes.{Bytes}
use Rattle.format.specs.BigEndian.{be, val}
use Rattle.format.specs.BigEndian.Laws.{val_below, val_append, val_more}

-- the first byte of a number, and the rest
pub val_cons : (x : ℕ) (s : List ℕ) (k : ℕ) → val (x ∷ s) (suc k) ≡ x * 256 ^ k + val s k
unfolding val
val_cons x s zero = omega arith
val_cons x s (suc k) =
    let ih = val_cons x s k in
    let more : x * 256 ^ suc k ≡ x * 256 ^ k * 256 = ap (λ n. x * n) (pow-suc 256 k) ∙ sym (mul_assoc x (256 ^ k) 256) in
    omega arith

-- a 00 in front changes no number, and an FF not how far the number lies below the next power
pub val_low : (s : List ℕ) → val (0 ∷ s) (length (0 ∷ s)) ≡ val s (length s)
val_low s = val_cons 0 s (length s) ∙ omega arith

pub val_high : (s : List ℕ) → 256 ^ length (0xFF ∷ s) - suc (val (0xFF ∷ s) (length (0xFF ∷ s))) ≡ 256 ^ length s - suc (val s (length s))
val_high s = omega (arith, val_cons 0xFF s (length s), pow-suc 256 (length s))

-- what 1 to 8 bytes carry, by the top bit
pub few : (k : ℕ) → k ≤ 7 → 256 ^ k ≤ 256 ^ 7
few k h = pow-le-pow_right (lit≤ tt) h

half_low : (x v p : ℕ) → x < 0x80 → v < p → p ≤ 256 ^ 7 → x * p + v < 2 ^ 63
half_low x v p h l m =
    let most : x * p ≤ 127 * p = mul-le-mul_right p (omega arith) in
    omega arith

pub low_small : (s : List ℕ) → Bytes s → length s ≤ 8 → get_or s 0 0 < 0x80 → val s (length s) < 2 ^ 63
unfolding val
low_small [] b h l = omega arith
low_small (x ∷ s) b h l =
    subst (λ n. n < 2 ^ 63) (sym (val_cons x s (length s)))
    (half_low x (val s (length s)) (256 ^ length s) l (val_below (length s) s (λ i. b (suc i))) (few (length s) (omega arith)))

half_high : (x v p : ℕ) → 0x80 ≤ x → v < p → p ≤ 256 ^ 7 → p * 256 - suc (x * p + v) < 2 ^ 63
half_high x v p h l m =
    let most : 0x80 * p ≤ x * p = mul-le-mul_right p h in
    omega arith

pub high_small : (s : List ℕ) → Bytes s → length s ≤ 8 → 0x80 ≤ get_or s 0 0 → 256 ^ length s - suc (val s (length s)) < 2 ^ 63
high_small [] b h l = absurd (omega arith)
high_small (x ∷ s) b h l =
    subst (λ n. n < 2 ^ 63) (sym (ap₂ (λ p v. p - suc v) (pow-suc 256 (length s)) (val_cons x s (length s))))
    (half_high x (val s (length s)) (256 ^ length s) l (val_below (length s) s (λ i. b (suc i))) (few (length s) (omega arith)))

-- a byte behind: the number it makes, and how far that lies below the next power
module _ (s : List ℕ) (x : ℕ) where
  pub val_end : val (s ++ (x ∷ [])) (length (s ++ (x ∷ []))) ≡ val s (length s) * 256 + x
  val_end =
      let t = s ++ (x ∷ []) in
      let last : length s ≡ length s + 0 = omega arith in
      ap (val t) (length-append s (x ∷ []))
      ∙ val_more t (length s)
      ∙ ap₂ (λ a b. a * 256 + b) (val_append (length s) s (x ∷ []) (omega arith))
      (ap (λ k. get_or t k 0) last ∙ get_or-append-add s (x ∷ []) 0 0)

  pub val_end_high :
      Bytes s →
      x < 256 →
      256 ^ length (s ++ (x ∷ [])) - suc (val (s ++ (x ∷ [])) (length (s ++ (x ∷ []))))
      ≡ (256 ^ length s - suc (val s (length s))) * 256 + (255 - x)
  val_end_high b h =
      let next : 256 ^ length (s ++ (x ∷ [])) ≡ 256 ^ length s * 256 =
      ap (λ n. 256 ^ n) (length-append s (x ∷ []) ∙ add-one (length s)) ∙ pow-suc 256 (length s) in
      omega (arith, val_end, val_below (length s) s b)

-- a number in eight bytes, one by one
pub be_eight :
    (w : ℕ) →
    (w / 72057594037927936 % 256) ∷ (w / 281474976710656 % 256) ∷ (w / 1099511627776 % 256) ∷ (w / 4294967296 % 256)
    ∷ (w / 16777216 % 256) ∷ (w / 65536 % 256) ∷ (w / 256 % 256) ∷ (w % 256) ∷ []
    ≡ be 8 w
unfolding be
be_eight w =
    let two = div-div-eq-div-mul w 256 256 in
    let three = ap (λ n. n / 256) two ∙ div-div-eq-div-mul w 65536 256 in
    let four = ap (λ n. n / 256) three ∙ div-div-eq-div-mul w 16777216 256 in
    let five = ap (λ n. n / 256) four ∙ div-div-eq-div-mul w 4294967296 256 in
    let six = ap (λ n. n / 256) five ∙ div-div-eq-div-mul w 1099511627776 256 in
    let seven = ap (λ n. n / 256) six ∙ div-div-eq-div-mul w 281474976710656 256 in
    sym
    (λ i.
    (seven i % 256) ∷ (six i % 256) ∷ (five i % 256) ∷ (four i % 256) ∷ (three i % 256) ∷ (two i % 256) ∷ (w / 256 % 256)
    ∷ (w % 256) ∷ [])
