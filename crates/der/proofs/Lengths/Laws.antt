-- Reading a length by the tests that lead there; and that it is exact for the form.
-- Assumes nothing.
use Rattle.std.specs.Prelude.{◌≡◌, refl, ℕ, ◌+◌, ◌-◌, ◌<◌, ◌≤◌, List, [], ◌∷◌, Err, length, get_or, drop}
use Rattle.std.proofs.Common.{ap, sym, ◌∙◌, arith, drop-cons}
use borrow.Author.Tests.{lt-ltb, le-ltb}
use Rattle.format.specs.BigEndian.{val}
use Rattle.der.specs.Length.{is, least, long_form, read_length}
use Rattle.der.specs.declared.Fault.TheVariants as fault
use Rattle.der.specs.declared.Length.{Length}

-- what was read is told by length and width
pub is_same : {n w m v : ℕ} → is n w ≡ is m v → (n ≡ m) × (w ≡ v)
is_same {n} {w} {m} {v} e =
    let same : ◌≡◌ {A = Length} (record { size = n; width = w }) (record { size = m; width = v }) = cc in
    (ap (λ l. l.size) same, ap (λ l. l.width) same)

-- k bytes after the first, by the tests
module _ (k : ℕ) (t : List ℕ) where
  pub long_cut : length t < k → long_form k t ≡ Err fault.Cut
  unfolding long_form
  long_cut h = simp (lt-ltb (length t) k h)

  pub long_loose : k ≤ length t → val t k < least k → long_form k t ≡ Err fault.NotShortest
  unfolding long_form
  long_loose h l = simp (le-ltb (length t) k h, lt-ltb (val t k) (least k) l)

  pub long_is : k ≤ length t → least k ≤ val t k → long_form k t ≡ is (val t k) (k + 1)
  unfolding long_form
  long_is h l = simp (le-ltb (length t) k h, le-ltb (val t k) (least k) l)

-- the first byte, by the tests
module _ (x : ℕ) (t : List ℕ) where
  pub first_short : x < 0x80 → read_length (x ∷ t) ≡ is x 1
  unfolding read_length
  first_short h = simp (lt-ltb x 0x80 h)

  pub first_bad : x ≡ 0x80 → read_length (x ∷ t) ≡ Err fault.FirstByte
  unfolding read_length
  first_bad h = simp (le-ltb x 0x80 (omega arith), le-ltb 0x80 x (omega arith))

  pub first_high : 0x85 ≤ x → read_length (x ∷ t) ≡ Err fault.FirstByte
  unfolding read_length
  first_high h = simp (le-ltb x 0x80 (omega arith), lt-ltb 0x80 x (omega arith), le-ltb x 0x85 h)

  pub first_long : 0x80 < x → x < 0x85 → read_length (x ∷ t) ≡ long_form (x - 0x80) t
  unfolding read_length
  first_long h l = simp (le-ltb x 0x80 (omega arith), lt-ltb 0x80 x h, lt-ltb x 0x85 l)

-- the same of a byte string by its indices, as the code has it
pub length_none : (s : List ℕ) → length s ≡ 0 → Err fault.NoByte ≡ read_length s
unfolding read_length
length_none [] h = refl
length_none (x ∷ t) h = absurd (omega arith)

module _ (s : List ℕ) (x : ℕ) (e : x ≡ get_or s 0 0) (h : 0 < length s) where
  first : s ≡ x ∷ drop 1 s
  first = drop-cons s 0 0 h ∙ ap (λ y. y ∷ drop 1 s) (sym e)

  pub length_short : x < 0x80 → is x 1 ≡ read_length s
  length_short l = sym (ap read_length first ∙ first_short x (drop 1 s) l)

  pub length_bad : x ≡ 0x80 → Err fault.FirstByte ≡ read_length s
  length_bad l = sym (ap read_length first ∙ first_bad x (drop 1 s) l)

  pub length_high : 0x85 ≤ x → Err fault.FirstByte ≡ read_length s
  length_high l = sym (ap read_length first ∙ first_high x (drop 1 s) l)

  pub length_long : 0x80 < x → x < 0x85 → long_form (x - 0x80) (drop 1 s) ≡ read_length s
  length_long low high = sym (ap read_length first ∙ first_long x (drop 1 s) low high)
