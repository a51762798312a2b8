-- A number, digit by digit; bytes, pair by pair and run by run.
-- Assumes nothing.
use Prim.Native.Nat.{ℕ, zero, suc, ◌+◌, ◌*◌, ◌-◌, ◌≤◌, ◌<◌}
use native.Mathlib.Omega.{arith}
use Rattle.std.proofs.Math.Decide.{dec_le}
use Rattle.std.proofs.Common.{below_more, ◌∙◌, length-append, drop_of_length-le, drop-cons, add-one}
use borrow.Author.Tests.{lt-ltb, le-ltb, le-leb, lt-leb, eq-eqb, ne_eqb}
use Rattle.std.specs.Prelude.{◌≡◌, refl, Bool}
use Rattle.std.proofs.Math.Path.{ap, sym}
use Rattle.std.proofs.Math.Bool.{true, false, cond}
use Rattle.std.proofs.Math.Dec.{eqb}
use mathlib.Core.List.{List, [], ◌∷◌, ◌++◌, append_assoc, append-nil}
use Rattle.std.proofs.Math.ListN.{length, get_or, drop, get_or-eq_default}
use Rattle.format.specs.Hex.{hex_value}
use Rattle.format.proofs.Hex.Laws.{value_most}
use Rattle.lines.specs.Written.{Puts}
use Rattle.lines.specs.Written.Laws.{puts_more}
use Rattle.lines.specs.declared.written.Line.{Line}
use Rattle.case_scan.specs.Scan.{Numeral, value_of, pairs_of, pairs_at, pairs_end, goes_on, number_of, width_of, number_at, number_end, times}
use Rattle.case_scan.specs.Scan.{run_at, run_end, some_runs, runs_at}

-- what is no newline stands before the end
here_by : (s : List ℕ) (i b : ℕ) → get_or s i 10 ≡ b → (b ≡ 10 → ⊥) → Dec (length s ≤ i) → i < length s
here_by s i b e f (yes h) =
    let past = get_or-eq_default s 10 h in
    absurd (omega (arith, f))
here_by s i b e f (no h) = omega arith

pub here : (s : List ℕ) (i b : ℕ) → get_or s i 10 ≡ b → (b ≡ 10 → ⊥) → i < length s
here s i b e f = here_by s i b e f (dec_le (length s) i)

pub numeral_none : (s : List ℕ) (from : ℕ) → Numeral s from 0 from
unfolding value_of
numeral_none s from =
    let e : 0 ≡ from - from = omega arith in
    record { on = omega arith; within = omega arith; digits = λ i h g. absurd (omega arith); is = ap (value_of s from) e }

pub numeral_more :
    (s : List ℕ) (from value i : ℕ) →
    Numeral s from value i →
    i < length s →
    48 ≤ get_or s i 0 →
    get_or s i 0 ≤ 57 →
    Numeral s from (value * 10 + (get_or s i 0 - 48)) (i + 1)
unfolding value_of
numeral_more s from value i n h low high =
    let on = n.on in
    let width : suc (i - from) ≡ i + 1 - from = omega arith in
    let place : i ≡ from + (i - from) = omega arith in
    record {
      on = omega arith;
      within = omega (arith, n.within);
      digits = below_more (λ k. from ≤ k → (48 ≤ get_or s k 0) × (get_or s k 0 ≤ 57)) i n.digits (λ g. (low, high));
      is =
          ap (λ v. v * 10 + (get_or s i 0 - 48)) n.is
          ∙ ap (λ k. value_of s from (i - from) * 10 + (get_or s k 0 - 48)) place
          ∙ ap (value_of s from) width;
    }

-- what stands at a place, and past the end
at_place : (s : List ℕ) (i d : ℕ) → i < length s → drop i s ≡ get_or s i d ∷ drop (i + 1) s
at_place s i d h = rw (add-one, drop-cons s i d)

past_end : (s : List ℕ) (i : ℕ) → length s ≤ i → drop i s ≡ []
past_end s i h = drop_of_length-le s h

-- pairs at a place: none past the end, none where one of both is no digit, one more where both are
pairs_high : (h : ℕ) (t : List ℕ) → hex_value h ≡ 16 → pairs_of (h ∷ t) ≡ []
unfolding pairs_of
pairs_high h [] e = refl
pairs_high h (l ∷ t) e = simp (le-ltb (hex_value h) 16 (omega arith))

pairs_low : (h l : ℕ) (t : List ℕ) → hex_value h < 16 → hex_value l ≡ 16 → pairs_of (h ∷ l ∷ t) ≡ []
unfolding pairs_of
pairs_low h l t g e = simp (lt-ltb (hex_value h) 16 g, le-ltb (hex_value l) 16 (omega arith))

pairs_two : (h l : ℕ) (t : List ℕ) → hex_value h < 16 → hex_value l < 16 → pairs_of (h ∷ l ∷ t) ≡ (hex_value h * 16 + hex_value l) ∷ pairs_of t
unfolding pairs_of
pairs_two h l t g f = simp (lt-ltb (hex_value h) 16 g, lt-ltb (hex_value l) 16 f)

-- no digit stands past the end
past_no_digit : (s : List ℕ) (i : ℕ) → length s ≤ i → hex_value (get_or s i 10) ≡ 16
past_no_digit s i h = ap hex_value (get_or-eq_default s 10 h)

module _ (s : List ℕ) (i : ℕ) where
  pub pairs_past : length s ≤ i → pairs_at s i ≡ []
  unfolding pairs_at pairs_of
  pairs_past h = ap pairs_of (past_end s i h)

  module _ (here : i < length s) (high : ℕ) (h : high ≡ hex_value (get_or s i 10)) where
    pub pairs_no_high : high ≡ 16 → pairs_at s i ≡ []
    unfolding pairs_at
    pairs_no_high e = ap pairs_of (at_place s i 10 here) ∙ pairs_high _ _ (sym h ∙ e)

    module _ (some : high ≡ 16 → ⊥) (low : ℕ) (l : low ≡ hex_value (get_or s (i + 1) 10)) where
      below : hex_value (get_or s i 10) < 16
      below =
          let m = value_most (get_or s i 10) in
          omega (arith, h, some)

      no_low : low ≡ 16 → Dec (i + 2 ≤ length s) → pairs_at s i ≡ []
      unfolding pairs_at pairs_of
      no_low e (yes p) =
          let two : drop i s ≡ get_or s i 10 ∷ get_or s (i + 1) 10 ∷ drop (i + 1 + 1) s =
          at_place s i 10 here ∙ ap (λ t. get_or s i 10 ∷ t) (at_place s (i + 1) 10 (omega arith)) in
          ap pairs_of two ∙ pairs_low (get_or s i 10) (get_or s (i + 1) 10) (drop (i + 1 + 1) s) below (sym l ∙ e)
      no_low e (no p) =
          let one : drop i s ≡ get_or s i 10 ∷ [] =
          at_place s i 10 here ∙ ap (λ t. get_or s i 10 ∷ t) (past_end s (i + 1) (omega arith)) in
          ap pairs_of one

      pub pairs_no_low : low ≡ 16 → pairs_at s i ≡ []
      pairs_no_low e = no_low e (dec_le (i + 2) (length s))

      more : low < 16 → Dec (i + 2 ≤ length s) → (i + 2 ≤ length s) × (pairs_at s i ≡ (high * 16 + low) ∷ pairs_at s (i + 2))
      unfolding pairs_at
      more f (yes p) =
          let next : i + 1 + 1 ≡ i + 2 = omega arith in
          let two : drop i s ≡ get_or s i 10 ∷ get_or s (i + 1) 10 ∷ drop (i + 2) s =
          at_place s i 10 here
          ∙ ap (λ t. get_or s i 10 ∷ t) (at_place s (i + 1) 10 (omega arith) ∙ ap (λ k. get_or s (i + 1) 10 ∷ drop k s) next) in
          let value : hex_value (get_or s i 10) * 16 + hex_value (get_or s (i + 1) 10) ≡ high * 16 + low = omega (arith, h, l) in
          (p, ap pairs_of two ∙ pairs_two _ _ _ below (omega (arith, l)) ∙ ap (λ v. v ∷ pairs_of (drop (i + 2) s)) value)
      more f (no p) =
          let e = past_no_digit s (i + 1) (omega arith) in
          absurd (omega (arith, l))

      pub pairs_more : (low ≡ 16 → ⊥) → (i + 2 ≤ length s) × (pairs_at s i ≡ (high * 16 + low) ∷ pairs_at s (i + 2))
      pairs_more f =
          let m = value_most (get_or s (i + 1) 10) in
          more (omega (arith, l, f)) (dec_le (i + 2) (length s))

-- how far the pairs from a place on are taken: these bytes before i, and what stands at i
pub record PairsTo (s : List ℕ) (from i : ℕ) (bytes : List ℕ) : Type 0 where
  pub so_far : pairs_at s from ≡ bytes ++ pairs_at s i
  pub count : i ≡ from + 2 * length bytes

pub pairs_none : (s : List ℕ) (from : ℕ) → PairsTo s from from []
pairs_none s from = record { so_far = refl; count = omega arith }

pub pairs_turn :
    (s : List ℕ) (from i : ℕ) (bytes : List ℕ) (b : ℕ) →
    PairsTo s from i bytes →
    pairs_at s i ≡ b ∷ pairs_at s (i + 2) →
    PairsTo s from (i + 2) (bytes ++ (b ∷ []))
pairs_turn s from i bytes b p e =
    let c = p.count in
    record {
      so_far = p.so_far ∙ ap (λ (t : List ℕ). bytes ++ t) e ∙ sym (append_assoc bytes (b ∷ []) (pairs_at s (i + 2)));
      count = simp length-append (omega arith);
    }

-- no more pairs stand at i: all are taken
module _ (s : List ℕ) (from i : ℕ) (bytes : List ℕ) (p : PairsTo s from i bytes) (e : pairs_at s i ≡ []) where
  pub pairs_all : pairs_at s from ≡ bytes
  pairs_all = p.so_far ∙ ap (λ (t : List ℕ). bytes ++ t) e ∙ append-nil bytes

  pub pairs_end_lem : i ≡ pairs_end s from
  unfolding pairs_end
  pairs_end_lem = p.count ∙ ap (λ (t : List ℕ). from + 2 * length t) (sym pairs_all)

  pub pairs_done : (a b : Line) → Puts a bytes b → (i ≡ pairs_end s from) × Puts a (pairs_at s from) b
  pairs_done a b q = (pairs_end_lem, rw pairs_all q)

-- a value that was found to be a digit's
pub digit_small : (b v : ℕ) → v ≡ hex_value b → (v ≡ 16 → ⊥) → v < 16
digit_small b v e some = let m = value_most b in omega (arith, some)

-- what was found at a place is what stands there
pub digit_at : (b c v : ℕ) → b ≡ c → v ≡ hex_value b → v ≡ hex_value c
digit_at b c v e d = d ∙ ap hex_value e

-- a number at a place: how far it is taken, one digit more, the end of it
pub record NumberTo (s : List ℕ) (from v i : ℕ) : Type 0 where
  pub value : number_at s from ≡ number_of v (drop i s)
  pub place : number_end s from ≡ i + width_of v (drop i s)

pub number_start : (s : List ℕ) (from : ℕ) → NumberTo s from 0 from
unfolding number_at number_end
number_start s from = record { value = refl; place = refl }

module _ (s : List ℕ) (from v i : ℕ) (n : NumberTo s from v i) where
  abbrev Ended : Type 0
  Ended = (v ≡ number_at s from) × (i ≡ number_end s from)

  pub number_past : length s ≤ i → Ended
  unfolding number_of width_of
  number_past h =
      let e : width_of v (drop i s) ≡ 0 = ap (width_of v) (past_end s i h) in
      let p = n.place in
      (sym (n.value ∙ ap (number_of v) (past_end s i h)), omega arith)

  module _ (here : i < length s) where
    stop : goes_on v (get_or s i 0) ≡ false → Ended
    unfolding number_of width_of
    stop f =
        let a : number_of v (drop i s) ≡ v =
        ap (number_of v) (at_place s i 0 here) ∙ ap (λ b. cond b (number_of (v * 10 + (get_or s i 0 - 48)) (drop (i + 1) s)) v) f in
        let e : width_of v (drop i s) ≡ 0 =
        ap (width_of v) (at_place s i 0 here) ∙ ap (λ b. cond b (suc (width_of (v * 10 + (get_or s i 0 - 48)) (drop (i + 1) s))) 0) f in
        let p = n.place in
        (sym (n.value ∙ a), omega arith)

    pub number_low : get_or s i 0 < 48 → Ended
    number_low h = stop (simp (lt-ltb (get_or s i 0) 48 h))

    module _ (low : 48 ≤ get_or s i 0) where
      pub number_high : 57 < get_or s i 0 → Ended
      number_high h = stop (simp (le-ltb (get_or s i 0) 48 low, lt-leb (get_or s i 0) 57 h))

      module _ (high : get_or s i 0 ≤ 57) where
        pub number_large : 922337203685477580 < v → Ended
        number_large h = stop (simp (le-ltb (get_or s i 0) 48 low, le-leb (get_or s i 0) 57 high, lt-leb v 922337203685477580 h))

        pub number_go : v ≤ 922337203685477580 → NumberTo s from (v * 10 + (get_or s i 0 - 48)) (i + 1)
        unfolding number_of width_of
        number_go h =
            let t : goes_on v (get_or s i 0) ≡ true =
            simp (le-ltb (get_or s i 0) 48 low, le-leb (get_or s i 0) 57 high, le-leb v 922337203685477580 h) in
            let a : number_of v (drop i s) ≡ number_of (v * 10 + (get_or s i 0 - 48)) (drop (i + 1) s) =
            ap (number_of v) (at_place s i 0 here) ∙ ap (λ b. cond b (number_of (v * 10 + (get_or s i 0 - 48)) (drop (i + 1) s)) v) t in
            let e : width_of v (drop i s) ≡ suc (width_of (v * 10 + (get_or s i 0 - 48)) (drop (i + 1) s)) =
            ap (width_of v) (at_place s i 0 here) ∙ ap (λ b. cond b (suc (width_of (v * 10 + (get_or s i 0 - 48)) (drop (i + 1) s))) 0) t in
            let p = n.place in
            record { value = n.value ∙ a; place = omega arith }

-- once more
pub times_turn : (bytes : List ℕ) (k : ℕ) → 1 ≤ k → (a b c : Line) → Puts a (times (k - 1) bytes) b → Puts b bytes c
    → Puts a (times (k + 1 - 1) bytes) c
unfolding times
times_turn bytes k h a b c p q =
    let next : k + 1 - 1 ≡ suc (k - 1) = omega arith in
    rw next (puts_more a b c (times (k - 1) bytes) bytes p q)

pub times_done : (bytes : List ℕ) (k n : ℕ) → k ≡ n → (a b : Line) → Puts a (times k bytes) b → Puts a (times n bytes) b
times_done bytes k n e a b p = rw e at p

-- a run, with a count and without
module _ (s : List ℕ) (from after : ℕ) (is : after ≡ pairs_end s from) (a b : Line) (p : Puts a (pairs_at s from) b) where
  pub run_other : (get_or s after 10 ≡ 42 → ⊥) → (after ≡ run_end s from) × Puts a (run_at s from) b
  unfolding run_end run_at
  run_other f =
      let t : eqb (get_or s (pairs_end s from) 10) 42 ≡ false = ap (λ k. eqb (get_or s k 10) 42) (sym is) ∙ ne_eqb (get_or s after 10) 42 f in
      (is ∙ sym (ap (λ b. cond b (number_end s (pairs_end s from + 1)) (pairs_end s from)) t), rw t p)

  module _ (star : get_or s after 10 ≡ 42) (v n : ℕ) (value : v ≡ number_at s (after + 1))
      (place : n ≡ number_end s (after + 1)) where
    pub run_counted : (c : Line) → Puts b (times (v - 1) (pairs_at s from)) c → (n ≡ run_end s from) × Puts a (run_at s from) c
    unfolding run_end run_at
    run_counted c q =
        let t : eqb (get_or s (pairs_end s from) 10) 42 ≡ true =
        ap (λ k. eqb (get_or s k 10) 42) (sym is) ∙ eq-eqb (get_or s after 10) 42 star in
        let count : v ≡ number_at s (pairs_end s from + 1) = value ∙ ap (λ k. number_at s (k + 1)) is in
        let last : n ≡ number_end s (pairs_end s from + 1) = place ∙ ap (λ k. number_end s (k + 1)) is in
        let both : Puts a (pairs_at s from ++ times (number_at s (pairs_end s from + 1) - 1) (pairs_at s from)) c =
        puts_more a b c (pairs_at s from) _ p (times_done (pairs_at s from) (v - 1) _ (ap (λ k. k - 1) count) b c q) in
        (last ∙ sym (ap (λ b. cond b (number_end s (pairs_end s from + 1)) (pairs_end s from)) t), rw t both)

-- a run ends no earlier than it begins
either_on : (from a b : ℕ) (t : Bool) → from ≤ a → from ≤ b → from ≤ cond t a b
either_on from a b true h g = h
either_on from a b false h g = g

pub run_on : (s : List ℕ) (from : ℕ) → from ≤ run_end s from
unfolding run_end number_end pairs_end
run_on s from =
    either_on from (number_end s (pairs_end s from + 1)) (pairs_end s from) (eqb (get_or s (pairs_end s from) 10) 42) (omega arith) (omega arith)

-- runs, each after a space: how far they are taken, one more, the end of them
pub record RunsTo (s : List ℕ) (from i : ℕ) (bytes : List ℕ) : Type 0 where
  pub left : ℕ
  pub enough : length s ≤ i + left
  pub so_far : runs_at s from ≡ bytes ++ some_runs left s i

pub runs_start : (s : List ℕ) (from : ℕ) → RunsTo s from from []
unfolding runs_at
runs_start s from = record { left = length s; enough = omega arith; so_far = refl }

no_space : (k : ℕ) (s : List ℕ) (i : ℕ) → (get_or s i 10 ≡ 32 → ⊥) → some_runs k s i ≡ []
unfolding some_runs
no_space zero s i f = refl
no_space (suc k) s i f = simp (ne_eqb (get_or s i 10) 32 f)

one_run :
    (k : ℕ) (s : List ℕ) (i : ℕ) →
    i < length s →
    length s ≤ i + k →
    get_or s i 10 ≡ 32 →
    (j : ℕ) × (k ≡ suc j) × (some_runs k s i ≡ run_at s (i + 1) ++ some_runs j s (run_end s (i + 1)))
unfolding some_runs
one_run zero s i h g e = absurd (omega arith)
one_run (suc k) s i h g e = (k, refl, simp (eq-eqb (get_or s i 10) 32 e))

module _ (s : List ℕ) (from i : ℕ) (bytes : List ℕ) (p : RunsTo s from i bytes) where
  pub runs_other : (a b : Line) → Puts a bytes b → (get_or s i 10 ≡ 32 → ⊥) → Puts a (runs_at s from) b
  runs_other a b q f =
      let all : runs_at s from ≡ bytes = p.so_far ∙ ap (λ (t : List ℕ). bytes ++ t) (no_space p.left s i f) ∙ append-nil bytes in
      rw all q

  pub runs_go : get_or s i 10 ≡ 32 → (n : ℕ) → n ≡ run_end s (i + 1) → RunsTo s from n (bytes ++ run_at s (i + 1))
  runs_go e n is =
      let h = here s i 32 e (omega arith) in
      let one = one_run p.left s i h p.enough e in
      let on = run_on s (i + 1) in
      let g = p.enough in
      let f = one.1 in
      record {
        left = one.0;
        enough = omega arith;
        so_far =
            p.so_far
            ∙ ap (λ (t : List ℕ). bytes ++ t) (one.2 ∙ ap (λ k. run_at s (i + 1) ++ some_runs one.0 s k) (sym is))
            ∙ sym (append_assoc bytes (run_at s (i + 1)) (some_runs one.0 s n));
      }
