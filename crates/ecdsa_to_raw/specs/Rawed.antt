-- What is answered and written once both numbers are read or nothing is, and its laws.
-- Assumes nothing.
use Rattle.std.specs.Prelude.{◌≡◌, true, ℕ, ◌+◌, ◌-◌, ◌*◌, ◌<◌, ◌≤◌, List, [], ◌∷◌, ◌++◌, leb, length, take, drop}
use Rattle.std.proofs.Common.{ap, ap₂, sym, ◌∙◌, arith, le-leb, eq-eqb, ne_eqb, length-append}
use Rattle.std.proofs.lemmas.Bool.{lt-leb}
use Rattle.format.specs.Places.{to_end}
use Rattle.format.specs.Answers.{Outcome, done, refused}
use Rattle.format.specs.Order.{test, in_order}
use Rattle.format.specs.Buffer.{over}
use Rattle.format.proofs.Buffer.Laws.{over_over, length_over}
use Rattle.der.specs.Element.{lies, element_in}
use Rattle.ecdsa.specs.Signature.{is_size}
use Rattle.ecdsa.specs.Strict.{Raw, raw, none, part, stand, number_in, padded, lastly, pair_in, is_raw, bytes_in}
use Rattle.ecdsa.proofs.Strict.Laws.{Inside, length_part, length_padded, raw_pair}
use Rattle.ecdsa.specs.Calls.{to_raw}

-- 62: nothing was read; 63: no room for n bytes and n more
unfoldable pub rawed : ℕ → Raw → ℕ → Outcome
rawed n r room = in_order (test 62 0 (is_raw r) ∷ test 63 0 (leb (2 * n) room) ∷ []) (done (bytes_in r))

module _ (n room : ℕ) where
  pub rawed_none : (r : Raw) → r ≡ none → rawed n r room ≡ refused 62 0
  unfolding rawed
  rawed_none r e = simp e

  module _ (bytes : List ℕ) where
    pub rawed_no_room : room < 2 * n → rawed n (raw bytes) room ≡ refused 63 0
    unfolding rawed
    rawed_no_room h = simp (lt-leb (2 * n) room h)

    pub rawed_done : 2 * n ≤ room → rawed n (raw bytes) room ≡ done bytes
    unfolding rawed
    rawed_done h = simp (le-leb (2 * n) room h)

-- the call, once the sequence is found that fills s
pub to_raw_pair :
    (n : ℕ) (s : List ℕ) (room from to : ℕ) →
    is_size n ≡ true →
    element_in 0x30 s ≡ lies from to →
    to ≡ length s →
    (t : List ℕ) →
    t ≡ take (length s - from) (drop from s) →
    rawed n (pair_in n t (number_in n t)) room ≡ to_raw n s room
unfolding rawed to_raw
to_raw_pair n s room from to size e whole t at =
    let same = raw_pair n s from to e whole t (sym (at ∙ to_end s from)) in simp (size, same)

-- both numbers, by what is read
module _ (n : ℕ) (t : List ℕ) (a b : ℕ) where
  pub pair_second :
      number_in n t ≡ stand a b →
      (u : List ℕ) →
      u ≡ take (length t - b) (drop b t) →
      lastly n (padded n (part a b t)) u (number_in n u) ≡ pair_in n t (number_in n t)
  pair_second e u at =
      ap (λ v. lastly n (padded n (part a b t)) v (number_in n v)) (at ∙ to_end t b) ∙ sym (ap (pair_in n t) e)

  module _ (r : List ℕ) (e : number_in n t ≡ stand a b) where
    pub second_left : (b ≡ length t → ⊥) → lastly n r t (number_in n t) ≡ none
    second_left h = ap (lastly n r t) e ∙ simp (ne_eqb b (length t) h)

    pub second_is : b ≡ length t → raw (r ++ padded n (part a b t)) ≡ lastly n r t (number_in n t)
    second_is h = sym (ap (lastly n r t) e ∙ simp (eq-eqb b (length t) h))

  -- a number's digits are at most n
  pub number_fits : Inside n t a b → length (part a b t) ≤ n
  number_fits i = omega (arith, length_part a b t i.end, i.small)

-- r put down at the start keeps the length, and s goes after it
module _ (n : ℕ) (r s : List ℕ) (fits_r : length r ≤ n) (fits_s : length s ≤ n) where
  pub both_many : 2 * n ≡ length (padded n r ++ padded n s)
  both_many = sym (length-append (padded n r) (padded n s) ∙ omega (arith, length_padded n r fits_r, length_padded n s fits_s))

  module _ (out mid : List ℕ) (put : mid ≡ over out 0 (padded n r)) (fits : 2 * n ≤ length out) where
    pub r_kept : length mid ≡ length out
    r_kept = ap length put ∙ length_over out 0 (padded n r) (omega (arith, length_padded n r fits_r))

    pub both_put : (after : List ℕ) → after ≡ over mid n (padded n s) → after ≡ over out 0 (padded n r ++ padded n s)
    both_put after e =
        let many = length_padded n r fits_r in
        let place : n ≡ 0 + length (padded n r) = omega (arith, many) in
        e ∙ ap₂ (λ o k. over o k (padded n s)) put place ∙ over_over out 0 (padded n r) (padded n s) (omega (arith, many))
