-- How long what a line says can be: a number below 10 ^ k has at most k digits, a date ten characters.
-- Assumes nothing.
use Rattle.std.specs.Prelude.{ℕ, zero, suc, ◌*◌, ◌/◌, ◌^◌, ◌≤◌, ◌<◌, ◌≡◌, List, ◌++◌, length}
use Rattle.std.proofs.Common.{arith, pow-suc, lt-ltb, le-ltb, length-append}
use Rattle.std.proofs.Math.Decide.{dec_le}
use Rattle.dates.specs.declared.Date.{Date}
use Rattle.dates.specs.Days.{Day}
use Rattle.dates.proofs.Days.Laws.{day_bounds}
use Rattle.lines.specs.Line.{digits, decimal_of, ascii}
use Rattle.list_lines.specs.ListLine.{two, four, day}

-- a number below 10 ^ k has at most k digits
digits_turn :
    (k j n : ℕ) →
    n < 10 ^ suc (suc k) →
    length (digits j (n / 10)) ≤ suc k →
    Dec (10 ≤ n) →
    length (digits (suc j) n) ≤ suc (suc k)
unfolding digits
digits_turn k j n h ih (yes p) = simp (le-ltb n 10 p, length-append) (omega arith)
digits_turn k j n h ih (no p) = simp (lt-ltb n 10 (omega arith)) (omega arith)

digits_size : (k j n : ℕ) → n < 10 ^ suc k → length (digits j n) ≤ suc k
unfolding digits
digits_size k zero n h = omega arith
digits_size zero (suc j) n h = let g : n < 10 = h in simp (lt-ltb n 10 g) (omega arith)
digits_size (suc k) (suc j) n h =
    let e : 10 ^ suc (suc k) ≡ 10 ^ suc k * 10 = pow-suc 10 (suc k) in
    digits_turn k j n h (digits_size k j (n / 10) (omega arith)) (dec_le 10 n)

pub decimal_size : (k n : ℕ) → n < 10 ^ suc k → length (decimal_of n) ≤ suc k
unfolding decimal_of
decimal_size k n h = digits_size k (suc n) n h

-- two digits, and four
two_cases : (n : ℕ) → n < 100 → Dec (10 ≤ n) → length (two n) ≤ 2
two_cases n h (yes p) = simp (le-ltb n 10 p) (decimal_size 1 n h)
two_cases n h (no p) = let g : n < 10 = omega arith in simp (lt-ltb n 10 g) (omega (arith, decimal_size 0 n g))

two_size : (n : ℕ) → n < 100 → length (two n) ≤ 2
two_size n h = two_cases n h (dec_le 10 n)

four_cases : (n : ℕ) → n < 10000 → Dec (1000 ≤ n) → Dec (100 ≤ n) → Dec (10 ≤ n) → length (four n) ≤ 4
four_cases n h (yes p) q r = simp (le-ltb n 1000 p, le-ltb n 100 (omega arith), le-ltb n 10 (omega arith)) (decimal_size 3 n h)
four_cases n h (no p) (yes q) r =
    let g : n < 1000 = omega arith in
    simp (lt-ltb n 1000 g, le-ltb n 100 q, le-ltb n 10 (omega arith)) (omega (arith, decimal_size 2 n g))
four_cases n h (no p) (no q) (yes r) =
    let g : n < 100 = omega arith in
    simp (lt-ltb n 1000 (omega arith), lt-ltb n 100 g, le-ltb n 10 r) (omega (arith, decimal_size 1 n g))
four_cases n h (no p) (no q) (no r) =
    let g : n < 10 = omega arith in
    simp (lt-ltb n 1000 (omega arith), lt-ltb n 100 (omega arith), lt-ltb n 10 g) (omega (arith, decimal_size 0 n g))

four_size : (n : ℕ) → n < 10000 → length (four n) ≤ 4
four_size n h = four_cases n h (dec_le 1000 n) (dec_le 100 n) (dec_le 10 n)

-- YYYY-MM-DD
joined :
    (y m d : List ℕ) →
    length y ≤ 4 →
    length m ≤ 2 →
    length d ≤ 2 →
    length (y ++ (ascii "-" ++ (m ++ (ascii "-" ++ d)))) ≤ 10
joined y m d p q r = simp length-append (omega arith)

pub day_size : (d : Date) → Day d → length (day d) ≤ 10
day_size d h =
    let b = day_bounds d h in
    joined (four d.year) (two d.month) (two d.day)
    (four_size d.year (omega arith)) (two_size d.month (omega arith)) (two_size d.day (omega arith))
