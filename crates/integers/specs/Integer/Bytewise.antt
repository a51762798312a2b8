-- The number that content carries, reckoned byte by byte on signed numbers of 64 bits, as the code does.
-- Assumes nothing.
use Rattle.std.specs.Prelude.{◌≡◌, List, [], ◌∷◌, ◌++◌, ℕ, zero, suc, ◌-◌, ◌<◌, ◌≤◌, ℤ, pos, negsuc, ◌+ℤ◌, ◌-ℤ◌, ◌*ℤ◌, length, take, get_or}
use Rattle.std.proofs.Common.{ap, ap₂, sym, subst, ◌∙◌, arith, lt-ltb, length-append, take-suc, take_all, length-take-le, SFits, to_z, of_z, to_z-of_z}
use Rattle.std.proofs.Math.IntN.{+ℤ_idr}
use Rattle.std.specs.Int.{w64}
use Rattle.std.proofs.Math.Facts.{to_z_pos}
use Rattle.format.specs.Bytes.{Bytes}
use Rattle.format.specs.Bytes.Laws.{bytes_nil, bytes_cons, bytes_append, bytes_take}
use Rattle.format.specs.BigEndian.{val}
use Rattle.integers.specs.Integer.{value_of}
use Rattle.integers.specs.Integer.Values.{value_low, value_high, value_end, value_fits}

-- a byte is its own bits
byte_is : (x : ℕ) → x < 256 → to_z w64 x ≡ pos x
byte_is x h = to_z_pos w64 (omega arith)

-- the first byte, from 80 on 256 less
abbrev pub lessened : ℕ → ℤ
lessened x = to_z w64 x -ℤ pos 256

val_one : (x : ℕ) → val (x ∷ []) 1 ≡ x
unfolding val
val_one x = omega arith

module _ (x : ℕ) (small : x < 256) where
  pub first_low : x < 0x80 → to_z w64 x ≡ value_of (x ∷ [])
  first_low h = byte_is x small ∙ sym (value_low (x ∷ []) h ∙ ap pos (val_one x))

  module _ (h : 0x80 ≤ x) where
    first_high : lessened x ≡ value_of (x ∷ [])
    first_high =
        ap (λ v. v -ℤ pos 256) (byte_is x small)
        ∙ simp (lt-ltb x 256 small) (sym (value_high (x ∷ []) h ∙ ap (λ n. negsuc (256 - suc n)) (val_one x)))

    pub first_fits : SFits w64 (lessened x)
    first_fits = subst (SFits w64) (sym first_high) (value_fits (x ∷ []) (bytes_cons x [] small bytes_nil) (omega arith))

    pub first_back : to_z w64 (of_z w64 (lessened x)) ≡ value_of (x ∷ [])
    first_back = to_z-of_z first_fits ∙ first_high

-- a further byte: the number 256 times, and the byte
abbrev pub times : ℤ → ℤ
times v = to_z w64 (of_z w64 v) *ℤ pos 256

abbrev pub grown : ℤ → ℕ → ℤ
grown v x = to_z w64 (of_z w64 (times v)) +ℤ to_z w64 x

module _ (s : List ℕ) (bytes : Bytes s) (some : 0 < length s) (room : length s < 8) where
  longer : (x : ℕ) → x < 256 → SFits w64 (value_of (s ++ (x ∷ [])))
  longer x h =
      value_fits (s ++ (x ∷ [])) (bytes_append s (x ∷ []) bytes (bytes_cons x [] h bytes_nil))
      (omega (arith, length-append s (x ∷ [])))

  module _ (v : ℤ) (e : v ≡ value_of s) where
    back : to_z w64 (of_z w64 v) ≡ value_of s
    back = ap (λ z. to_z w64 (of_z w64 z)) e ∙ to_z-of_z (value_fits s bytes (omega arith))

    times_is : times v ≡ value_of (s ++ (0 ∷ []))
    times_is = ap (λ z. z *ℤ pos 256) back ∙ sym (value_end s bytes some 0 (omega arith) ∙ +ℤ_idr (value_of s *ℤ pos 256))

    pub times_fits : SFits w64 (times v)
    times_fits = subst (SFits w64) (sym times_is) (longer 0 (omega arith))

    module _ (x : ℕ) (small : x < 256) where
      pub grown_is : grown v x ≡ value_of (s ++ (x ∷ []))
      grown_is =
          ap₂ (λ a b. a +ℤ b) (to_z-of_z times_fits ∙ ap (λ z. z *ℤ pos 256) back) (byte_is x small)
          ∙ sym (value_end s bytes some x small)

-- what is reckoned of content whose first byte makes this number, after so many further bytes
abbrev pub after : List ℕ → ℤ → ℕ → ℤ
after s v zero = v
after s v (suc k) = grown (after s v k) (get_or s (suc k) 0)

pub record Begun (s : List ℕ) (v : ℤ) : Type 0 where
  pub bytes : Bytes s
  pub few : length s ≤ 8
  pub first : v ≡ value_of (take 1 s)

module _ {s : List ℕ} {v : ℤ} (begun : Begun s v) where
  front : (k : ℕ) → k < length s → length (take (suc k) s) ≡ suc k
  front k h = length-take-le (suc k) s h

  pub after_is : (k : ℕ) → k < length s → after s v k ≡ value_of (take (suc k) s)
  after_is zero h = begun.first
  after_is (suc k) h =
      let ih = after_is k (omega arith) in
      let n = front k (omega arith) in
      grown_is (take (suc k) s) (bytes_take (suc k) s begun.bytes) (omega arith) (omega (arith, begun.few)) (after s v k) ih
      (get_or s (suc k) 0) (begun.bytes (suc k))
      ∙ ap value_of (sym (take-suc s (suc k) 0 h))

  -- each number on the way fits, and the last is what the content carries
  module _ (k : ℕ) where
    pub byte_fits : SFits w64 (pos (get_or s k 0))
    byte_fits = record { sfits = omega (arith, begun.bytes k) }

    pub after_fits : k < length s → SFits w64 (after s v k)
    after_fits h =
        subst (SFits w64) (sym (after_is k h))
        (value_fits (take (suc k) s) (bytes_take (suc k) s begun.bytes) (omega (arith, front k h, begun.few)))

    pub after_times : suc k < length s → SFits w64 (times (after s v k))
    after_times h =
        let n = front k (omega arith) in
        times_fits (take (suc k) s) (bytes_take (suc k) s begun.bytes) (omega arith) (omega (arith, begun.few)) (after s v k)
        (after_is k (omega arith))

    pub after_all : suc k ≡ length s → to_z w64 (of_z w64 (after s v k)) ≡ value_of s
    after_all e =
        let h : k < length s = omega arith in
        to_z-of_z (after_fits h) ∙ after_is k h ∙ ap value_of (take_all (suc k) s (omega arith))
