-- The number that content carries, by its top bit: redundant bytes do not change it, and eight bytes carry every number of 64 bits.
-- Assumes nothing.
use Rattle.std.specs.Prelude.{◌≡◌, refl, true, ℕ, zero, suc, ◌+◌, ◌*◌, ◌-◌, ◌^◌, ◌<◌, ◌≤◌, List, [], ◌∷◌, ◌++◌, ltb, ℤ, pos, negsuc, neg_ℤ, ◌+ℤ◌, ◌*ℤ◌, length, get_or}
use Rattle.std.proofs.Common.{ap, sym, subst, ◌∙◌, arith, ltb-true, ltb-false, lt-ltb, le-ltb, take_all, SFits}
use Rattle.std.proofs.Math.ListN.{get_or-append}
use Rattle.std.specs.Int.{w64}
use Rattle.format.specs.Bytes.{Bytes}
use Rattle.format.specs.Choice.Laws.{by_test}
use Rattle.format.specs.BigEndian.{be, val}
use Rattle.format.specs.BigEndian.Laws.{length_be, val_be, be_val, val_below, bytes_be}
use Rattle.der.specs.Content.{shortest, strict}
use Rattle.integers.specs.Integer.{word, value_of}
use Rattle.der.specs.Content.Laws.{strict_shortest}
use Rattle.integers.specs.Integer.Laws.{sign, sign_low, sign_high, redundant_is, by_shortest, strict_some, extended, one_extended}
use Rattle.integers.specs.Integer.Laws.{length_extended, shortest_extended, bytes_extended}
use Rattle.integers.specs.Integer.FirstByte.{val_cons, val_low, val_high, low_small, high_small, val_end, val_end_high}

module _ (s : List ℕ) where
  pub value_low : get_or s 0 0 < 0x80 → value_of s ≡ pos (val s (length s))
  value_low h = simp (lt-ltb (get_or s 0 0) 0x80 h)

  pub value_high : 0x80 ≤ get_or s 0 0 → value_of s ≡ negsuc (256 ^ length s - suc (val s (length s)))
  value_high h = simp (le-ltb (get_or s 0 0) 0x80 h)

-- a byte in front that the top bit allows changes no number
pub value_sign : (s : List ℕ) → value_of (sign (get_or s 0 0) ∷ s) ≡ value_of s
value_sign s =
    by_test (ltb (get_or s 0 0) 0x80)
    (λ t. let h = ltb-true (get_or s 0 0) 0x80 t in
    ap (λ x. value_of (x ∷ s)) (sign_low (get_or s 0 0) h) ∙ value_low (0 ∷ s) (omega arith) ∙ ap pos (val_low s) ∙ sym (value_low s h))
    (λ t. let h = ltb-false (get_or s 0 0) 0x80 t in
    ap (λ x. value_of (x ∷ s)) (sign_high (get_or s 0 0) h)
    ∙ value_high (0xFF ∷ s) (omega arith)
    ∙ ap negsuc (val_high s)
    ∙ sym (value_high s h))

pub value_shortest : (s : List ℕ) → value_of (shortest s) ≡ value_of s
value_shortest =
    by_shortest (λ s t. value_of t ≡ value_of s) refl (λ s e. refl)
    (λ x y s t e ih. ih ∙ sym (ap (λ z. value_of (z ∷ y ∷ s)) (redundant_is x y e) ∙ value_sign (y ∷ s)))

-- a byte behind makes the number 256 times as large, and adds itself
neg_end : (n x : ℕ) → x < 256 → negsuc n *ℤ pos 256 +ℤ pos x ≡ negsuc (n * 256 + (255 - x))
neg_end n x h =
    let more : suc n * 256 ≡ suc (n * 256 + 255) = omega arith in
    let less : suc (n * 256 + 255) - suc x ≡ n * 256 + (255 - x) = omega arith in
    ap (λ m. neg_ℤ (pos m) +ℤ pos x) more ∙ simp (lt-ltb x (suc (n * 256 + 255)) (omega arith)) (ap negsuc less)

pub value_end :
    (s : List ℕ) →
    Bytes s →
    0 < length s →
    (x : ℕ) →
    x < 256 →
    value_of (s ++ (x ∷ [])) ≡ value_of s *ℤ pos 256 +ℤ pos x
value_end s b some x small =
    let t = s ++ (x ∷ []) in
    let first : get_or t 0 0 ≡ get_or s 0 0 = get_or-append s (x ∷ []) 0 0 some in
    by_test (ltb (get_or s 0 0) 0x80)
    (λ e. let h = ltb-true (get_or s 0 0) 0x80 e in
    value_low t (omega arith) ∙ ap pos (val_end s x) ∙ sym (ap (λ v. v *ℤ pos 256 +ℤ pos x) (value_low s h)))
    (λ e. let h = ltb-false (get_or s 0 0) 0x80 e in
    value_high t (omega arith)
    ∙ ap negsuc (val_end_high s x b small)
    ∙ sym (ap (λ v. v *ℤ pos 256 +ℤ pos x) (value_high s h) ∙ neg_end (256 ^ length s - suc (val s (length s))) x small))

-- what 1 to 8 bytes carry is of 64 bits
pub value_fits : (s : List ℕ) → Bytes s → length s ≤ 8 → SFits w64 (value_of s)
value_fits s b h =
    by_test (ltb (get_or s 0 0) 0x80)
    (λ t. let l = ltb-true (get_or s 0 0) 0x80 t in subst (SFits w64) (sym (value_low s l)) (record { sfits = low_small s b h l }))
    (λ t. let l = ltb-false (get_or s 0 0) 0x80 t in subst (SFits w64) (sym (value_high s l)) (record { sfits = high_small s b h l }))

-- the top bit of eight bytes
top_low : (s : List ℕ) → length s ≡ 8 → val s 8 < 2 ^ 63 → get_or s 0 0 < 0x80
top_low [] h l = absurd (omega arith)
top_low (x ∷ s) h l = omega (arith, val_cons x s 7)

top_high : (s : List ℕ) → Bytes s → length s ≡ 8 → 2 ^ 63 ≤ val s 8 → 0x80 ≤ get_or s 0 0
top_high [] b h l = absurd (omega arith)
top_high (x ∷ s) b h l = omega (arith, val_cons x s 7, val_below 7 s (λ i. b (suc i)))

-- eight bytes carry the number whose word they are
pub value_be : (v : ℤ) → SFits w64 v → value_of (be 8 (word v)) ≡ v
value_be v f = go v f
  where
    eight : (w : ℕ) → length (be 8 w) ≡ 8
    eight w = length_be 8 w

    go : (v : ℤ) → SFits w64 v → value_of (be 8 (word v)) ≡ v
    go (pos n) f =
        let is : val (be 8 n) 8 ≡ n = val_be 8 n (omega (arith, f.sfits)) in
        value_low (be 8 n) (top_low (be 8 n) (eight n) (omega (arith, f.sfits))) ∙ ap pos (ap (val (be 8 n)) (eight n) ∙ is)
    go (negsuc k) f =
        let w = 2 ^ 64 - suc k in
        let is : val (be 8 w) 8 ≡ w = val_be 8 w (omega arith) in
        let e : 256 ^ 8 - suc (val (be 8 w) 8) ≡ k = omega (arith, f.sfits) in
        value_high (be 8 w) (top_high (be 8 w) (bytes_be 8 w) (eight w) (omega (arith, f.sfits)))
        ∙ ap negsuc (ap (λ n. 256 ^ n - suc (val (be 8 w) n)) (eight w) ∙ e)

pub word_value : (s : List ℕ) → Bytes s → length s ≡ 8 → be 8 (word (value_of s)) ≡ s
word_value s b h = ap (be 8) is ∙ be_val 8 s b (omega arith) ∙ take_all 8 s (omega arith)
  where
    is : word (value_of s) ≡ val s 8
    is =
        by_test (ltb (get_or s 0 0) 0x80)
        (λ t. ap word (value_low s (ltb-true (get_or s 0 0) 0x80 t)) ∙ ap (val s) h)
        (λ t.
        ap word (value_high s (ltb-false (get_or s 0 0) 0x80 t) ∙ ap (λ n. negsuc (256 ^ n - suc (val s n))) h)
        ∙ omega (arith, val_below 8 s b))

pub value_extended : (d : ℕ) (s : List ℕ) → value_of (extended d s) ≡ value_of s
value_extended zero s = refl
value_extended (suc d) s = ap value_of (one_extended d s) ∙ value_sign (extended d s) ∙ value_extended d s

-- the word of what content carries is the content, extended
pub word_extended : (s : List ℕ) → Bytes s → length s ≤ 8 → be 8 (word (value_of s)) ≡ extended (8 - length s) s
word_extended s b h =
    ap (λ v. be 8 (word v)) (sym (value_extended (8 - length s) s))
    ∙ word_value (extended (8 - length s) s) (bytes_extended (8 - length s) s b) (length_extended (8 - length s) s ∙ omega arith)

-- so the shortest form of what strict content carries is that content
pub strict_back : (s : List ℕ) → Bytes s → length s ≤ 8 → strict s ≡ true → shortest (be 8 (word (value_of s))) ≡ s
strict_back s b h e =
    ap shortest (word_extended s b h) ∙ shortest_extended (8 - length s) s (strict_some s e) ∙ strict_shortest s e
