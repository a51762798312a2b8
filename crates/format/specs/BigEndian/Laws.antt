-- Laws of numbers in bytes: there and back, their sizes and bounds, once over the width.
-- Assumes nothing.
use Rattle.std.specs.Prelude.{◌≡◌, refl, ℕ, zero, suc, ◌+◌, ◌*◌, ◌/◌, ◌%◌, ◌^◌, ◌<◌, ◌≤◌, min, List, [], ◌∷◌, ◌++◌, length, get_or, take, drop}
use Rattle.std.proofs.Common.{ap, sym, ◌∙◌, arith, pow-suc, add-one, length-append, take-append-drop, take-suc, length-take-le}
use Rattle.std.proofs.Math.ListN.{get_or-append}
use Rattle.std.proofs.lemmas.List.{get_or_at}
use Rattle.format.specs.Bytes.{Byte, Bytes}
use Rattle.format.specs.Bytes.Laws.{bytes_nil, bytes_cons, bytes_append}
use Rattle.format.specs.BigEndian.{be, val}

pub length_be : (k n : ℕ) → length (be k n) ≡ k
unfolding be
length_be zero n = refl
length_be (suc k) n = simp (length-append, length_be k (n / 256), add-one)

-- the first k bytes settle the number, whatever follows
pub val_append : (k : ℕ) (s t : List ℕ) → k ≤ length s → val (s ++ t) k ≡ val s k
unfolding val
val_append zero s t h = refl
val_append (suc k) s t h =
    let ih = val_append k s t (omega arith) in
    simp (ih, get_or-append)

pub val_be : (k n : ℕ) → n < 256 ^ k → val (be k n) k ≡ n
unfolding be val
val_be zero n h = omega arith
val_be (suc k) n h =
    let small : n / 256 < 256 ^ k = omega (arith, simp pow-suc at h) in
    let ih = val_be k (n / 256) small in
    let front : val (be k (n / 256) ++ (n % 256 ∷ [])) k ≡ n / 256 =
    val_append k (be k (n / 256)) (n % 256 ∷ []) (omega (arith, length_be k (n / 256))) ∙ ih in
    let last : get_or (be k (n / 256) ++ (n % 256 ∷ [])) k 0 ≡ n % 256 = get_or_at (be k (n / 256)) (n % 256) [] 0 k (length_be k (n / 256)) in
    omega arith

pub val_below : (k : ℕ) (s : List ℕ) → Bytes s → val s k < 256 ^ k
unfolding val
val_below zero s b = omega arith
val_below (suc k) s b =
    let ih = val_below k s b in
    rw pow-suc (omega (arith, b k))

pub be_val : (k : ℕ) (s : List ℕ) → Bytes s → k ≤ length s → be k (val s k) ≡ take k s
unfolding be val
be_val zero s b h = refl
be_val (suc k) s b h =
    let ih = be_val k s b (omega arith) in
    let high : (val s k * 256 + get_or s k 0) / 256 ≡ val s k = omega (arith, b k) in
    let low : (val s k * 256 + get_or s k 0) % 256 ≡ get_or s k 0 = omega (arith, b k) in
    simp (take-suc s k 0, high, low, ih)

-- each element is a byte
pub bytes_be : (k n : ℕ) → Bytes (be k n)
unfolding be
bytes_be zero n i = omega arith
bytes_be (suc k) n i =
    let ih = bytes_be k (n / 256) in
    let last : Byte (n % 256) = omega arith in
    bytes_append (be k (n / 256)) (n % 256 ∷ []) ih (bytes_cons (n % 256) [] last bytes_nil) i

-- a number in two bytes
pub be_two : (n : ℕ) → n < 65536 → be 2 n ≡ (n / 256) ∷ (n % 256) ∷ []
unfolding be
be_two n h = let high : n / 256 % 256 ≡ n / 256 = omega arith in ap (λ b. b ∷ (n % 256) ∷ []) high

-- the same, each the last byte of a quotient
pub be_two_low : (n x y : ℕ) → x ≡ n / 256 % 256 → y ≡ n % 256 → x ∷ y ∷ [] ≡ be 2 n
unfolding be
be_two_low n x y e f i = e i ∷ f i ∷ []

-- a byte more
pub val_more : (s : List ℕ) (k : ℕ) → val s (k + 1) ≡ val s k * 256 + get_or s k 0
unfolding val
val_more s k = ap (val s) (add-one k)

-- the number in a part of k bytes
pub val_take : (k : ℕ) (s : List ℕ) → k ≤ length s → val (take k s) k ≡ val s k
val_take k s h =
    sym (val_append k (take k s) (drop k s) (omega (arith, length-take-le k s h))) ∙ ap (λ t. val t k) (take-append-drop k s)

-- the same, where the part's own length is asked for, at most eight
pub val_part : (k m : ℕ) (s : List ℕ) → m ≡ k → k ≤ length s → k ≤ 8 → val (take m s) (min (length (take m s)) 8) ≡ val s k
val_part k m s e h l =
    let many : min (length (take k s)) 8 ≡ k = omega (arith, length-take-le k s h) in
    ap (λ j. val (take j s) (min (length (take j s)) 8)) e ∙ ap (val (take k s)) many ∙ val_take k s h
