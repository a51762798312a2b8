-- Reading a length is exact for its form: complete and sound; and a length is cut off the front of a byte string in one way only.
-- Assumes nothing.
use Rattle.std.specs.Prelude.{◌≡◌, refl, ℕ, zero, suc, ◌+◌, ◌-◌, ◌^◌, ◌<◌, ◌≤◌, List, [], ◌∷◌, ◌++◌, Result, Err, ltb, length, take}
use Rattle.std.proofs.Common.{ap, sym, subst, subst₂, ◌∙◌, arith, lt_of_lt_of_le, add-one, lt-ltb, le-ltb, ltb-true, ltb-false, lit≤, length-append, length-take-le}
use Rattle.std.proofs.Math.Nat.{pow-le-pow_right}
use Rattle.std.proofs.lemmas.List.{append_cancel_left}
use Rattle.format.specs.Bytes.{Bytes}
use Rattle.format.specs.Choice.Laws.{by_test}
use Rattle.format.specs.Cut.{Cut}
use Rattle.format.specs.BigEndian.{be, val}
use Rattle.format.specs.BigEndian.Laws.{length_be, val_be, be_val, val_append, val_below}
use Rattle.der.specs.Length.{Sized, form, is, least, long_form, read_length}
use Rattle.der.proofs.Lengths.Laws.{is_same, long_cut, long_loose, long_is, first_short, first_bad, first_high, first_long}
use Rattle.der.specs.declared.Fault.{Fault}
use Rattle.der.specs.declared.Fault.TheVariants.{NoByte}
use Rattle.der.specs.declared.Length.{Length}

-- what holds of 1, 2, 3 and 4 holds of every width
four : (C : ℕ → Type 0) → C 1 → C 2 → C 3 → C 4 → (k : ℕ) → 0 < k → k < 5 → C k
four C one two three fourth zero low high = absurd (omega arith)
four C one two three fourth (suc zero) low high = one
four C one two three fourth (suc (suc zero)) low high = two
four C one two three fourth (suc (suc (suc zero))) low high = three
four C one two three fourth (suc (suc (suc (suc zero)))) low high = fourth
four C one two three fourth (suc (suc (suc (suc (suc k))))) low high = absurd (omega arith)

-- the form, by its width
pub form_short : (n : ℕ) → n < 0x80 → form n ≡ n ∷ []
unfolding form
form_short n h = simp (lt-ltb n 0x80 h)

LongForm : ℕ → Type 0
LongForm k = (n : ℕ) → least k ≤ n → n < 256 ^ k → form n ≡ (0x80 + k) ∷ be k n

pub form_long : (k : ℕ) → 0 < k → k < 5 → (n : ℕ) → least k ≤ n → n < 256 ^ k → form n ≡ (0x80 + k) ∷ be k n
unfolding LongForm form
form_long =
    four LongForm
    (λ n h l. simp (le-ltb n 0x80 h, lt-ltb n 0x100 l))
    (λ n h l. simp (le-ltb n 0x80 (omega arith), le-ltb n 0x100 h, lt-ltb n 0x10000 l))
    (λ n h l. simp (le-ltb n 0x80 (omega arith), le-ltb n 0x100 (omega arith), le-ltb n 0x10000 h, lt-ltb n 0x1000000 l))
    (λ n h l. simp (le-ltb n 0x80 (omega arith), le-ltb n 0x100 (omega arith), le-ltb n 0x10000 (omega arith), le-ltb n 0x1000000 h))

-- a form has at least one byte
pub form_some : (n : ℕ) → 1 ≤ length (form n)
unfolding form
form_some n =
    by_test (ltb n 0x80) (λ e. simp e (omega arith))
    (λ a. by_test (ltb n 0x100) (λ e. simp (a, e) (omega arith))
    (λ b. by_test (ltb n 0x10000) (λ e. simp (a, b, e) (omega arith))
    (λ c. by_test (ltb n 0x1000000) (λ e. simp (a, b, c, e) (omega arith)) (λ d. simp (a, b, c, d) (omega arith)))))

-- every length is short, or has a width
size_cases : {C : Type 0} (n : ℕ) → Sized n → (n < 0x80 → C) → ((k : ℕ) → 0 < k → k < 5 → least k ≤ n → n < 256 ^ k → C) → C
size_cases n sized short long =
    by_test (ltb n 0x80) (λ e. short (ltb-true n 0x80 e))
    (λ a. by_test (ltb n 0x100) (λ e. long 1 (omega arith) (omega arith) (ltb-false n 0x80 a) (ltb-true n 0x100 e))
    (λ b. by_test (ltb n 0x10000) (λ e. long 2 (omega arith) (omega arith) (ltb-false n 0x100 b) (ltb-true n 0x10000 e))
    (λ c. by_test (ltb n 0x1000000) (λ e. long 3 (omega arith) (omega arith) (ltb-false n 0x10000 c) (ltb-true n 0x1000000 e))
    (λ d. long 4 (omega arith) (omega arith) (ltb-false n 0x1000000 d) sized))))

-- complete: the form of a length, followed by anything, reads as that length and the form's width
pub form_reads : (n : ℕ) → Sized n → (rest : List ℕ) → read_length (form n ++ rest) ≡ is n (length (form n))
form_reads n sized rest = size_cases n sized short long
  where
    short : n < 0x80 → read_length (form n ++ rest) ≡ is n (length (form n))
    short h =
        let e = form_short n h in
        ap (λ f. read_length (f ++ rest)) e ∙ first_short n rest h ∙ ap (is n) (sym (ap length e))

    long : (k : ℕ) → 0 < k → k < 5 → least k ≤ n → n < 256 ^ k → read_length (form n ++ rest) ≡ is n (length (form n))
    long k low high h l =
        let e = form_long k low high n h l in
        let x : 0x80 + k - 0x80 ≡ k = omega arith in
        let v : val (be k n ++ rest) k ≡ n = val_append k (be k n) rest (omega (arith, length_be k n)) ∙ val_be k n l in
        let many : k + 1 ≡ length (form n) = sym (ap length e ∙ ap suc (length_be k n) ∙ sym (add-one k)) in
        ap (λ f. read_length (f ++ rest)) e
        ∙ first_long (0x80 + k) (be k n ++ rest) (omega arith) (omega arith)
        ∙ ap (λ j. long_form j (be k n ++ rest)) x
        ∙ long_is k (be k n ++ rest) (omega (arith, length-append (be k n) rest, length_be k n)) (subst (λ m. least k ≤ m) (sym v) h)
        ∙ (λ i. is (v i) (many i))

four_at_most : (x : ℕ) → x < 0x85 → x - 0x80 ≤ 4
four_at_most x h = omega arith

-- a length that was read was short, or long and whole
pub record Taken (s : List ℕ) (n width : ℕ) : Type 0 where
  pub sized : Sized n
  pub there : width ≤ length s
  pub front : form n ≡ take width s
  pub size : length (form n) ≡ width

differs : {n w : ℕ} {fault : Fault} {r : Result Length Fault} → r ≡ Err fault → r ≡ is n w → ⊥
differs e f = let z : ◌≡◌ {A = ℕ} 0 1 = cc in omega arith

-- the long form, where its bytes are there and are the shortest
took_long :
    (x : ℕ) (t : List ℕ) →
    Bytes t →
    0x80 < x →
    x < 0x85 →
    x - 0x80 ≤ length t →
    least (x - 0x80) ≤ val t (x - 0x80) →
    Taken (x ∷ t) (val t (x - 0x80)) (x - 0x80 + 1)
took_long x t bytes low high there least-is =
    let k = x - 0x80 in
    let below = val_below k t bytes in
    let first : 0x80 + k ≡ x = omega arith in
    let e : form (val t k) ≡ x ∷ take k t =
    form_long k (omega arith) (omega arith) (val t k) least-is below ∙ (λ i. first i ∷ be_val k t bytes there i) in
    record {
      sized = lt_of_lt_of_le below (pow-le-pow_right (lit≤ tt) {j = 4} (four_at_most x high));
      there = omega arith;
      front = e ∙ ap (λ j. take j (x ∷ t)) (sym (add-one k));
      size = ap length e ∙ ap suc (length-take-le k t there) ∙ sym (add-one k);
    }

took : (x : ℕ) (t : List ℕ) → Bytes t → (n width : ℕ) → read_length (x ∷ t) ≡ is n width → Taken (x ∷ t) n width
took x t bytes n width e =
    by_test (ltb x 0x80)
    (λ h. same (first_short x t (ltb-true x 0x80 h))
    (record {
      sized = omega (arith, ltb-true x 0x80 h);
      there = omega arith;
      front = form_short x (ltb-true x 0x80 h);
      size = ap length (form_short x (ltb-true x 0x80 h));
    }))
    (λ a. by_test (ltb 0x80 x)
    (λ b.
    by_test (ltb x 0x85) (λ c. long (ltb-true 0x80 x b) (ltb-true x 0x85 c))
    (λ c. absurd (differs (first_high x t (ltb-false x 0x85 c)) e)))
    (λ b. let low = ltb-false x 0x80 a in let high = ltb-false 0x80 x b in absurd (differs (first_bad x t (omega arith)) e)))
  where
    same : {m v : ℕ} → read_length (x ∷ t) ≡ is m v → Taken (x ∷ t) m v → Taken (x ∷ t) n width
    same f taken = let told = is_same (sym f ∙ e) in subst₂ (λ a b. Taken (x ∷ t) a b) told.0 told.1 taken

    long : 0x80 < x → x < 0x85 → Taken (x ∷ t) n width
    long low high =
        let k = x - 0x80 in
        let is_long = first_long x t low high in
        by_test (ltb (length t) k)
        (λ h. absurd (differs (is_long ∙ long_cut k t (ltb-true (length t) k h)) e))
        (λ h. by_test (ltb (val t k) (least k))
        (λ l. absurd (differs (is_long ∙ long_loose k t (ltb-false (length t) k h) (ltb-true (val t k) (least k) l)) e))
        (λ l. same (is_long ∙ long_is k t (ltb-false (length t) k h) (ltb-false (val t k) (least k) l))
        (took_long x t bytes low high (ltb-false (length t) k h) (ltb-false (val t k) (least k) l))))

-- sound: what reads as a length is the form of that length, below 2 ^ 32
pub read_is_form : (s : List ℕ) → Bytes s → (n width : ℕ) → read_length s ≡ is n width → Taken s n width
unfolding read_length
read_is_form [] bytes n width e = absurd (differs {n = n} {w = width} {fault = NoByte} refl e)
read_is_form (x ∷ t) bytes n width e = took x t (λ i. bytes (suc i)) n width e

-- a length is cut off the front in one way only
pub cut_form : Cut Sized form
cut_form a b t u la lb e =
    let read : is a (length (form a)) ≡ is b (length (form b)) = sym (form_reads a la t) ∙ ap read_length e ∙ form_reads b lb u in
    let same = (is_same read).0 in
    (same, append_cancel_left (form a) t u (e ∙ ap (λ n. form n ++ u) (sym same)))
