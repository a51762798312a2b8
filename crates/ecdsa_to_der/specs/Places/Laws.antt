-- What stands in a buffer after an INTEGER is put down.
-- Assumes nothing.
use Rattle.std.specs.Prelude.{◌≡◌, ℕ, suc, ◌+◌, ◌<◌, ◌≤◌, ltb, List, [], ◌∷◌, ◌++◌, length, get_or, drop, set}
use Rattle.std.proofs.Common.{ap, ap₂, sym, ◌∙◌, arith, ltb-true, ltb-false, append_assoc, length-append}
use Rattle.format.specs.Choice.Laws.{by_test}
use Rattle.format.specs.Buffer.{over}
use Rattle.format.proofs.Buffer.Laws.{over_two, over_three, over_over, length_over}
use Rattle.octets.specs.Copy.{copied, reached}
use Rattle.octets.specs.Copy.Laws.{copied_all, reached_all}
use Rattle.der.specs.Length.{form}
use Rattle.der.specs.Content.{shortest, integer}
use Rattle.ecdsa.specs.Signature.{content_from, integers, signature}
use Rattle.ecdsa.specs.Signature.Laws.{content_low, content_high, size_low, size_high, integer_is}
use Rattle.ecdsa_to_der.specs.Places.{Room}

-- a part copied behind a head that was put down
pub behind :
    (out head from : List ℕ) (at : ℕ) →
    at + length head + length from ≤ length out →
    (before : List ℕ) →
    before ≡ over out at head →
    copied from before (at + length head) ≡ over out at (head ++ from)
behind out head from at fits before e =
    let long = length_over out at head (omega arith) in
    ap (λ b. copied from b (at + length head)) e
    ∙ sym (copied_all from (over out at head) (at + length head) (omega arith))
    ∙ over_over out at head from (omega arith)

pub reaches :
    (out head from : List ℕ) (at : ℕ) →
    at + length head + length from ≤ length out →
    (before : List ℕ) →
    before ≡ over out at head →
    reached from (length before) (at + length head) ≡ at + length head + length from
reaches out head from at fits before e =
    let long = length_over out at head (omega arith) in
    sym (reached_all from before (at + length head) (omega (arith, ap length e)))

-- content of a number of fewer than 127 bytes is told in one length byte
pub content_small : (number : List ℕ) (start : ℕ) → length number < 127 → start < length number → length (content_from number start) < 0x80
content_small number start small inside =
    by_test (ltb (get_or number start 0) 0x80)
    (λ e. omega (arith, size_low number start (ltb-true (get_or number start 0) 0x80 e)))
    (λ e. omega (arith, size_high number start (ltb-false (get_or number start 0) 0x80 e)))

module _ (number : List ℕ) (start : ℕ) (out : List ℕ) (at : ℕ) (r : Room number start out at) where
  module _ (size : ℕ) (is_size_lem : size ≡ length (content_from number start)) where
    put_whole : (0x02 ∷ size ∷ content_from number start) ≡ integer (content_from number start)
    put_whole =
        ap (λ n. 0x02 ∷ n ∷ content_from number start) is_size_lem
        ∙ sym (integer_is (content_from number start) (content_small number start r.small r.inside))

    -- the top bit is clear: tag, size, digits
    module _ (low : get_or number start 0 < 0x80) where
      low_fits : at + 2 + length (drop start number) ≤ length out
      low_fits = omega (arith, r.room, ap length (content_low number start low))

      pub put_low :
          (from : List ℕ) →
          from ≡ drop start number →
          copied from (set (set out at 0x02) (at + 1) size) (at + 2) ≡ over out at (integer (content_from number start))
      put_low from is =
          ap (λ p. copied p (set (set out at 0x02) (at + 1) size) (at + 2)) is
          ∙ behind out (0x02 ∷ size ∷ []) (drop start number) at low_fits (set (set out at 0x02) (at + 1) size)
          (over_two out at 0x02 size (omega (arith, r.room)))
          ∙ ap (over out at) (ap (λ c. 0x02 ∷ size ∷ c) (sym (content_low number start low)) ∙ put_whole)

      pub place_low :
          (from : List ℕ) →
          from ≡ drop start number →
          reached from (length (set (set out at 0x02) (at + 1) size)) (at + 2) ≡ at + length (integer (content_from number start))
      place_low from is =
          ap (λ p. reached p (length (set (set out at 0x02) (at + 1) size)) (at + 2)) is
          ∙ reaches out (0x02 ∷ size ∷ []) (drop start number) at low_fits (set (set out at 0x02) (at + 1) size)
          (over_two out at 0x02 size (omega (arith, r.room)))
          ∙ omega (arith, ap length (content_low number start low), ap length put_whole)

    -- the top bit is set: tag, size, a zero, digits
    module _ (high : 0x80 ≤ get_or number start 0) where
      high_fits : at + 3 + length (drop start number) ≤ length out
      high_fits = omega (arith, r.room, ap length (content_high number start high))

      pub put_high :
          (from : List ℕ) →
          from ≡ drop start number →
          copied from (set (set (set out at 0x02) (at + 1) size) (at + 2) 0) (at + 3) ≡ over out at (integer (content_from number start))
      put_high from is =
          ap (λ p. copied p (set (set (set out at 0x02) (at + 1) size) (at + 2) 0) (at + 3)) is
          ∙ behind out (0x02 ∷ size ∷ 0 ∷ []) (drop start number) at high_fits (set (set (set out at 0x02) (at + 1) size) (at + 2) 0)
          (over_three out at 0x02 size 0 (omega (arith, high_fits)))
          ∙ ap (over out at) (ap (λ c. 0x02 ∷ size ∷ c) (sym (content_high number start high)) ∙ put_whole)

      pub place_high :
          (from : List ℕ) →
          from ≡ drop start number →
          reached from (length (set (set (set out at 0x02) (at + 1) size) (at + 2) 0)) (at + 3)
          ≡ at + length (integer (content_from number start))
      place_high from is =
          ap (λ p. reached p (length (set (set (set out at 0x02) (at + 1) size) (at + 2) 0)) (at + 3)) is
          ∙ reaches out (0x02 ∷ size ∷ 0 ∷ []) (drop start number) at high_fits (set (set (set out at 0x02) (at + 1) size) (at + 2) 0)
          (over_three out at 0x02 size 0 (omega (arith, high_fits)))
          ∙ omega (arith, ap length (content_high number start high), ap length put_whole)

-- Two numbers measured: where their digits start, and the size of each content.
pub record Measured (r s : List ℕ) (r_start s-start r-size s-size : ℕ) : Type 0 where
  pub r_inside : r_start < length r
  pub s_inside : s-start < length s
  pub r_small : length r < 127
  pub s_small : length s < 127
  pub r_form : shortest (0 ∷ r) ≡ content_from r r_start
  pub s_form : shortest (0 ∷ s) ≡ content_from s s-start
  pub r_is : r-size ≡ length (content_from r r_start)
  pub s_is : s-size ≡ length (content_from s s-start)

module _ (r s : List ℕ) (r_start s-start r-size s-size : ℕ) (m : Measured r s r_start s-start r-size s-size) where
  r_low : length (content_from r r_start) < 0x80
  r_low = content_small r r_start m.r_small m.r_inside

  s_low : length (content_from s s-start) < 0x80
  s_low = content_small s s-start m.s_small m.s_inside

  pub length_r : length (integer (content_from r r_start)) ≡ r-size + 2
  length_r = ap length (integer_is (content_from r r_start) r_low) ∙ omega (arith, m.r_is)

  pub length_s : length (integer (content_from s s-start)) ≡ s-size + 2
  length_s = ap length (integer_is (content_from s s-start) s_low) ∙ omega (arith, m.s_is)

  pub below : (r-size < 0x80) × (s-size < 0x80)
  below = (omega (arith, r_low, m.r_is), omega (arith, s_low, m.s_is))

  same : integers r s ≡ integer (content_from r r_start) ++ integer (content_from s s-start)
  same = ap₂ (λ a b. integer a ++ integer b) m.r_form m.s_form

  pub content_size : r-size + s-size + 4 ≡ length (integers r s)
  content_size =
      sym
      (ap length same
      ∙ length-append (integer (content_from r r_start)) (integer (content_from s s-start))
      ∙ omega (arith, length_r, length_s))

  pub whole_size : length (0x30 ∷ form (r-size + s-size + 4)) + (r-size + s-size + 4) ≡ length (signature r s)
  whole_size =
      ap (λ n. length (0x30 ∷ form n) + n) content_size
      ∙ sym (ap suc (length-append (form (length (integers r s))) (integers r s)) ∙ omega arith)

  -- head, r and s one after another are the whole
  pub whole_is : (0x30 ∷ form (r-size + s-size + 4)) ++ integer (content_from r r_start) ++ integer (content_from s s-start) ≡ signature r s
  whole_is =
      append_assoc (0x30 ∷ form (r-size + s-size + 4)) (integer (content_from r r_start)) (integer (content_from s s-start))
      ∙ ap₂ (λ n b. 0x30 ∷ (form n ++ b)) content_size (sym same)
