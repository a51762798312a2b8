-- Bytes put down one after the other, and what a number is put down as.
-- Assumes nothing.
use Rattle.std.specs.Prelude.{ℕ, zero, suc, ◌+◌, ◌/◌, ◌%◌, ◌≤◌, ◌<◌, ◌≡◌, refl, List, [], ◌∷◌, ◌++◌, length, get_or, set, take, drop}
use Rattle.std.proofs.Common.{arith, not-suc-le-zero, le_of_suc-le-suc, lt-ltb, le-ltb, ap, ap₂, sym, ◌∙◌, add-one, length-set, length-append, length-drop, take-suc, length-take-le}
use Rattle.std.proofs.Math.Decide.{dec_le}
use Rattle.format.specs.Answers.{done, filled}
use Rattle.format.specs.Buffer.{over}
use Rattle.format.proofs.Buffer.Laws.{over_none, over_start, set_over, over_over}
use Rattle.lines.specs.Line.{Line, line, with, with_all, Within, Counts, Put, digits, decimal_of}

-- a store past the end changes nothing
pub set_past : (l : List ℕ) (i b : ℕ) → length l ≤ i → set l i b ≡ l
set_past [] i b h = refl
set_past (x ∷ l) zero b h = absurd (not-suc-le-zero h)
set_past (x ∷ l) (suc i) b h = ap (λ (t : List ℕ). x ∷ t) (set_past l i b (le_of_suc-le-suc h))

-- one step within the room that is left, and then another
pub within_more : (old mid : List ℕ) (at m r : ℕ) → Within old at m → length mid ≡ length old → Within mid m r → Within old at r
within_more old mid at m r p e q = omega arith

pub counts : (n : ℕ) (s : List ℕ) → n ≤ length s → Counts n s
counts n s h = (h, sym (length-take-le n s h))

-- as many as a text has that stands at the start
pub counts_filled : (n : ℕ) (text out after : List ℕ) → n ≡ length text → after ≡ filled (done text) out → Counts n after
counts_filled n text out after e f = counts n after (omega (arith, ap length f, length-append text (drop (length text) out)))

-- the buffer keeps its length where it has room for the text
pub filled_length : (text out after : List ℕ) → after ≡ filled (done text) out → length text ≤ length out → length out ≡ length after
filled_length text out after f h =
    omega (arith, ap length f, length-append text (drop (length text) out), length-drop (length text) out)

pub put_none : (old : List ℕ) (at : ℕ) → Put old at [] old at
unfolding with_all
put_none old at = record { is = refl; within = omega arith }

pub put_one : (old : List ℕ) (at b : ℕ) → at < length old → Put old at (b ∷ []) (set old at b) (at + 1)
unfolding with_all
put_one old at b h = record { is = simp (lt-ltb at (length old) h); within = omega arith }

pub put_full : (old : List ℕ) (at b : ℕ) → length old ≤ at → Put old at (b ∷ []) old at
unfolding with_all
put_full old at b h = record { is = simp (le-ltb at (length old) h, set_past old at b h); within = omega arith }

with_all_append : (l : Line) (xs ys : List ℕ) → with_all l (xs ++ ys) ≡ with_all (with_all l xs) ys
unfolding with_all
with_all_append l [] ys = refl
with_all_append l (x ∷ xs) ys = with_all_append (with l x) xs ys

-- some bytes, and then others
pub put_more :
    (old : List ℕ) (at : ℕ) (xs mid : List ℕ) (m : ℕ) (ys new : List ℕ) (r : ℕ) →
    Put old at xs mid m →
    length mid ≡ length old →
    Put mid m ys new r →
    Put old at (xs ++ ys) new r
put_more old at xs mid m ys new r p e q =
    record {
      is = q.is ∙ ap (λ (l : Line). with_all l ys) p.is ∙ sym (with_all_append (line old at) xs ys);
      within = within_more old mid at m r p.within e q.within;
    }

digits_turn : (j k n : ℕ) → (10 ≤ n → digits j (n / 10) ≡ digits k (n / 10)) → Dec (10 ≤ n) → digits (suc j) n ≡ digits (suc k) n
unfolding digits
digits_turn j k n same (yes p) = simp (le-ltb n 10 p, same p)
digits_turn j k n same (no p) = simp (lt-ltb n 10 (omega arith))

digits_enough : (j k n : ℕ) → n < j → n < k → digits j n ≡ digits k n
digits_enough zero k n h g = absurd (not-suc-le-zero h)
digits_enough (suc j) zero n h g = absurd (not-suc-le-zero g)
digits_enough (suc j) (suc k) n h g = digits_turn j k n (λ p. digits_enough j k (n / 10) (omega arith) (omega arith)) (dec_le 10 n)

pub decimal_one : (n : ℕ) → n < 10 → decimal_of n ≡ (48 + n) ∷ []
unfolding decimal_of digits
decimal_one n h = simp (lt-ltb n 10 h)

pub decimal_more : (n : ℕ) → 10 ≤ n → decimal_of n ≡ decimal_of (n / 10) ++ ((48 + n % 10) ∷ [])
unfolding decimal_of digits
decimal_more n h =
    let e : digits n (n / 10) ≡ digits (suc (n / 10)) (n / 10) = digits_enough n (suc (n / 10)) (n / 10) (omega arith) (omega arith) in
    simp (le-ltb n 10 h, e)

-- a turn of the loop that puts down a text
module _ (s old : List ℕ) (at i : ℕ) (here : i < length s) (mid : List ℕ) (m : ℕ) (long : length mid ≡ length old) where
  pub text_turn :
      (new : List ℕ) (r : ℕ) →
      Put old at (take i s) mid m →
      Put mid m (get_or s i 0 ∷ []) new r →
      Put old at (take (i + 1) s) new r
  text_turn new r p q = rw (add-one, take-suc s i 0) (put_more old at (take i s) mid m (get_or s i 0 ∷ []) new r p long q)

-- where there is room, the bytes stand there whole
with_room :
    (old : List ℕ) (at : ℕ) (bytes : List ℕ) →
    at + length bytes ≤ length old →
    with_all (line old at) bytes ≡ line (over old at bytes) (at + length bytes)
unfolding with_all
with_room old at [] h = let e : at + 0 ≡ at = omega arith in rw (over_none, e)
with_room old at (b ∷ t) h =
    let ih = with_room (set old at b) (at + 1) t (simp length-set (omega arith)) in
    let e : over (set old at b) (at + 1) t ≡ over old at (b ∷ t) =
    ap (λ (o : List ℕ). over o (at + 1) t) (set_over old at b (omega arith)) ∙ over_over old at (b ∷ []) t (omega arith) in
    let f : at + 1 + length t ≡ at + suc (length t) = omega arith in
    simp (lt-ltb at (length old) (omega arith)) (ih ∙ ap₂ line e f)

pub put_whole :
    (old : List ℕ) (at : ℕ) (bytes new : List ℕ) (r : ℕ) →
    Put old at bytes new r →
    at + length bytes ≤ length old →
    (new ≡ over old at bytes) × (r ≡ at + length bytes)
put_whole old at bytes new r p h =
    let e = p.is ∙ with_room old at bytes h in
    (ap (λ (l : Line). l.text) e, ap (λ (l : Line). l.at) e)

-- from the buffer's start: the count, and what the buffer holds
pub put_start :
    (old text new : List ℕ) (r : ℕ) →
    Put old 0 text new r →
    length text ≤ length old →
    (r ≡ length text) × (new ≡ filled (done text) old)
put_start old text new r p h =
    let held = put_whole old 0 text new r p (omega arith) in (omega (arith, held.1), held.0 ∙ over_start old text)
