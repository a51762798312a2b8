-- Laws of the pairs before the last: one pair more, how many characters they carry, and what the bytes decode as.
-- Assumes nothing.
use Rattle.std.specs.Prelude.{◌≡◌, refl, false, ℕ, zero, suc, ◌+◌, ◌*◌, ◌/◌, ◌%◌, ◌<◌, ◌≤◌, List, ◌++◌, ltb, eqb, length, get_or, Result, Err}
use Rattle.std.proofs.Common.{ap, sym, subst, ◌∙◌, arith, eq-eqb, ne_eqb, ltb-true, ltb-false, eqb-true, length-append}
use Rattle.std.proofs.lemmas.Bool.{eqb-false}
use Rattle.format.specs.Choice.Laws.{by_test}
use Rattle.pairs.specs.Chart.{the_chart}
use Rattle.pairs.specs.Pairs.{pair_of, chars_of}
use Rattle.pairs.proofs.Pairs.Laws.{pair_full, chars_some}
use Rattle.pairs.specs.declared.decode.Fault.{Fault}
use Rattle.pairs.specs.declared.decode.Pair.{Pair}
use Rattle.c40.specs.Decode.{decode, text, wrong}
use Rattle.c40.proofs.Decode.Laws.{Sofar, sofar_start, sofar_more, sofar_wrong, sofar_end}
use Rattle.c40_read.specs.Full.{inner, before, FullTo, Stopped}

pub full_start : (s : List ℕ) → FullTo s 0
full_start s = record { even = refl; three = λ i h e. absurd (omega arith) }

-- one pair more
module _ (s : List ℕ) (i : ℕ) where
  pub full_more : FullTo s i → length (inner s i) ≡ 3 → FullTo s (i + 2)
  full_more f here = record { even = let e = f.even in omega arith; three = three }
    where
      three : (k : ℕ) → k < i + 2 → k % 2 ≡ 0 → length (inner s k) ≡ 3
      three k h e =
          by_test (ltb k i)
          (λ t. f.three k (ltb-true k i t) e)
          (λ t.
          let same : i ≡ k = omega (arith, ltb-false k i t, f.even) in
          subst (λ j. length (inner s j) ≡ 3) same here)

  full_less : FullTo s (suc (suc i)) → FullTo s i
  full_less f = record { even = let e = f.even in omega arith; three = λ k h e. f.three k (omega arith) e }

-- three characters a pair
pub before_many : (s : List ℕ) (i : ℕ) → FullTo s i → 2 * length (before s i) ≡ 3 * i
unfolding before
before_many s zero f = refl
before_many s (suc zero) f = absurd (omega (arith, f.even))
before_many s (suc (suc i)) f =
    let less = full_less s i f in
    let ih = before_many s i less in
    let here = f.three i (omega arith) less.even in
    omega (arith, length-append (before s i) (inner s i))

-- so far the bytes decode as these
before_sofar : (s : List ℕ) (i : ℕ) → FullTo s i → i + 2 ≤ length s → Sofar s i (before s i)
unfolding before
before_sofar s zero f h = sofar_start s
before_sofar s (suc zero) f h = absurd (omega (arith, f.even))
before_sofar s (suc (suc i)) f h =
    let less = full_less s i f in
    let ih = before_sofar s i less (omega arith) in
    let here = f.three i (omega arith) less.even in
    let not_last : eqb (i + 2) (length s) ≡ false = ne_eqb (i + 2) (length s) (λ e. omega arith) in
    let is = ap (λ l. pair_of the_chart l (get_or s i 0) (get_or s (i + 1) 0)) (sym not_last) in
    let next : i + 2 ≡ suc (suc i) = omega arith in
    subst (λ j. Sofar s j (before s i ++ inner s i)) next
    (sofar_more s i (before s i) ih (omega arith) (pair_of the_chart false (get_or s i 0) (get_or s (i + 1) 0)) is (omega arith))

-- the bytes are text: the characters of the pairs before the last, and those of the last
pub record Whole (s : List ℕ) (last : ℕ) (pair : Result Pair Fault) : Type 0 where
  pub is_text_lem : decode 0 s ≡ text (before s last ++ chars_of pair)
  pub size : length (before s last ++ chars_of pair) ≡ last / 2 * 3 + length (chars_of pair)

-- where the pairs stopped to be full, the pair that stands there decides
module _ (s : List ℕ) (last at : ℕ) (ends : last + 2 ≡ length s) (stopped : Stopped s last at)
    (pair : Result Pair Fault) (e : pair ≡ pair_of the_chart (eqb at last) (get_or s at 0) (get_or s (at + 1) 0)) where
  sofar : Sofar s at (before s at)
  sofar = before_sofar s at stopped.full (omega (arith, stopped.inside))

  by_end : pair ≡ pair_of the_chart (eqb (at + 2) (length s)) (get_or s at 0) (get_or s (at + 1) 0)
  by_end =
      let same : eqb at last ≡ eqb (at + 2) (length s) =
      by_test (eqb at last)
      (λ t. t ∙ sym (eq-eqb (at + 2) (length s) (omega (arith, eqb-true at last t))))
      (λ t. t ∙ sym (ne_eqb (at + 2) (length s) (λ z. eqb-false at last t (omega arith)))) in
      e ∙ ap (λ l. pair_of the_chart l (get_or s at 0) (get_or s (at + 1) 0)) same

  pub stopped_wrong : (fault : Fault) → pair ≡ Err fault → decode 0 s ≡ wrong fault at
  stopped_wrong fault bad = sofar_wrong s at (before s at) sofar (omega (arith, stopped.inside)) pair by_end fault bad

  module _ (good : 0 < length (chars_of pair)) where
    -- a pair before the last that carries something carries three
    is_last : at ≡ last
    is_last =
        by_test (eqb at last)
        (λ t. eqb-true at last t)
        (λ t.
        let is : pair ≡ pair_of the_chart false (get_or s at 0) (get_or s (at + 1) 0) =
        e ∙ ap (λ l. pair_of the_chart l (get_or s at 0) (get_or s (at + 1) 0)) t in
        let three =
        ap (λ q. length (chars_of q))
        (pair_full false (get_or s at 0) (get_or s (at + 1) 0) refl (λ fault bad. chars_some pair good fault (is ∙ bad))).2 in
        let off = eqb-false at last t in
        absurd (stopped.not_full (omega (arith, stopped.inside)) three))

    pub stopped_whole : Whole s last pair
    stopped_whole =
        let full : FullTo s last = subst (FullTo s) is_last stopped.full in
        let half = before_many s last full in
        let many : length (before s last) ≡ last / 2 * 3 = omega (arith, full.even) in
        let all =
        sofar_end s (at + 2) (before s at ++ chars_of pair)
        (sofar_more s at (before s at) sofar (omega (arith, stopped.inside)) pair by_end good)
        (omega (arith, is_last)) in
        record {
          is_text_lem = all ∙ ap (λ k. text (before s k ++ chars_of pair)) is_last;
          size = length-append (before s last) (chars_of pair) ∙ ap (λ k. k + length (chars_of pair)) many;
        }
