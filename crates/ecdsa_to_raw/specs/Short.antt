-- The INTEGER of a number for fewer than 127 bytes: 02, one byte of length, and content whose first two bytes say where its digits start.
-- Laws alone.
-- Assumes nothing.
use Rattle.std.specs.Prelude.{◌≡◌, refl, true, false, not, ℕ, ◌+◌, ◌-◌, ◌<◌, ◌≤◌, List, ◌∷◌, ◌++◌, Option, Some, None, ltb, length, get_or, take, drop}
use Rattle.std.proofs.Common.{ap, ap₂, sym, ◌∙◌, arith, ltb-true, ltb-false, length-drop, length-take-le, get_or-take, get_or-drop}
use Rattle.format.specs.Bytes.{Bytes}
use Rattle.format.specs.Choice.Laws.{by_test}
use Rattle.der.specs.Length.{is, read_length}
use Rattle.der.proofs.Lengths.Laws.{length_short}
use Rattle.der.proofs.Lengths.Exact.{form_short}
use Rattle.der.specs.Element.{lies, element_in, body_in}
use Rattle.der.specs.Element.Laws.{body_is, element_read}
use Rattle.der.proofs.Elements.Exact.{element_whole}
use Rattle.der.specs.Content.{redundant, strict}
use Rattle.der.specs.Content.Laws.{strict_none, strict_one, strict_more, zero_redundant, zero_needed, byte_needed}
use Rattle.ecdsa.specs.Strict.{part, lead, stand, digits_in, number_in}
use Rattle.ecdsa.proofs.Strict.Laws.{lead_one, lead_not, lead_short, lead_small, length_part, strict_some}
use Rattle.ecdsa.proofs.Strict.Laws.{digits_not_strict, digits_negative, digits_too_big, digits_is, number_at_lem, number_read}
use Rattle.ecdsa.specs.declared.Digits.{Digits}

-- content that is negative, or longer than n digits after a first byte that is none, is no number, strict or not
negative : (n from to : ℕ) (c : List ℕ) → 0x80 ≤ get_or c 0 0 → None ≡ digits_in n from to c
negative n from to c h =
    by_test (strict c) (λ s. digits_negative n from to c s h) (λ s. digits_not_strict n from to c s)

too_big : (n from to : ℕ) (c : List ℕ) → n + 1 < to - from → None ≡ digits_in n from to c
too_big n from to c h =
    by_test (strict c)
    (λ s.
    by_test (ltb (get_or c 0 0) 0x80)
    (λ l. digits_too_big n from to c s (ltb-true (get_or c 0 0) 0x80 l) (lead c) refl (omega (arith, lead_small c)))
    (λ l. digits_negative n from to c s (ltb-false (get_or c 0 0) 0x80 l)))
    (λ s. digits_not_strict n from to c s)

-- content of so many bytes from 2 on
abbrev content : ℕ → List ℕ → List ℕ
content size t = part 2 (size + 2) t

-- its digits, by the tests of its first two bytes
module _ (n : ℕ) (t : List ℕ) (size : ℕ) (inside : size + 2 ≤ length t) where
  many : length (content size t) ≡ size
  many = length_part 2 (size + 2) t inside ∙ omega arith

  byte : (i : ℕ) → i < size → get_or (content size t) i 0 ≡ get_or t (2 + i) 0
  byte i h = get_or-take (size + 2 - 2) (drop 2 t) i 0 (omega arith) ∙ get_or-drop 2 t i 0

  pub digits_none : size ≡ 0 → None ≡ digits_in n 2 (size + 2) (content size t)
  digits_none h = digits_not_strict n 2 (size + 2) (content size t) (sym (strict_none (content size t) (many ∙ h)))

  pub digits_below_zero : 0 < size → 0x80 ≤ get_or t 2 0 → None ≡ digits_in n 2 (size + 2) (content size t)
  digits_below_zero some h = negative n 2 (size + 2) (content size t) (omega (arith, byte 0 some))

  module _ (low : get_or t 2 0 < 0x80) where
    pub digits_one : size ≡ 1 → 0 < n → stand 2 3 ≡ digits_in n 2 (size + 2) (content size t)
    digits_one h some =
        ap (λ k. stand 2 (k + 2)) (sym h)
        ∙ digits_is n 2 (size + 2) (content size t) (sym (strict_one (content size t) (many ∙ h))) (omega (arith, byte 0 (omega arith))) 0
        (lead_short (content size t) (omega (arith, many))) (omega arith)

    module _ (more : 1 < size) where
      is_strict : redundant (get_or t 2 0) (get_or t 3 0) ≡ false → strict (content size t) ≡ true
      is_strict e =
          sym (strict_more (content size t) (omega (arith, many)))
          ∙ ap₂ (λ x y. not (redundant x y)) (byte 0 (omega arith)) (byte 1 more)
          ∙ ap not e

      low_first : get_or (content size t) 0 0 < 0x80
      low_first = omega (arith, byte 0 (omega arith))

      module _ (zero : get_or t 2 0 ≡ 0) where
        pub digits_loose : get_or t 3 0 < 0x80 → None ≡ digits_in n 2 (size + 2) (content size t)
        digits_loose h =
            digits_not_strict n 2 (size + 2) (content size t)
            (sym (strict_more (content size t) (omega (arith, many)))
            ∙ ap₂ (λ x y. not (redundant x y)) (byte 0 (omega arith) ∙ zero) (byte 1 more)
            ∙ ap not (zero_redundant (get_or t 3 0) h))

        pub digits_zero_big : n + 1 < size → None ≡ digits_in n 2 (size + 2) (content size t)
        digits_zero_big h = too_big n 2 (size + 2) (content size t) (omega arith)

        pub digits_zero : 0x80 ≤ get_or t 3 0 → size ≤ n + 1 → stand 3 (size + 2) ≡ digits_in n 2 (size + 2) (content size t)
        digits_zero high h =
            digits_is n 2 (size + 2) (content size t)
            (is_strict (ap (λ x. redundant x (get_or t 3 0)) zero ∙ zero_needed (get_or t 3 0) high))
            low_first 1 (lead_one (content size t) (byte 0 (omega arith) ∙ zero) (omega (arith, many))) (omega arith)

      module _ (some : get_or t 2 0 ≡ 0 → ⊥) where
        all_strict : strict (content size t) ≡ true
        all_strict = is_strict (byte_needed (get_or t 2 0) (get_or t 3 0) (omega (arith, some)) low)

        none_lead : lead (content size t) ≡ 0
        none_lead = lead_not (content size t) (λ e. some (sym (byte 0 (omega arith)) ∙ e))

        pub digits_all_big : n < size → None ≡ digits_in n 2 (size + 2) (content size t)
        digits_all_big h = digits_too_big n 2 (size + 2) (content size t) all_strict low_first 0 none_lead (omega arith)

        pub digits_all : size ≤ n → stand 2 (size + 2) ≡ digits_in n 2 (size + 2) (content size t)
        digits_all h = digits_is n 2 (size + 2) (content size t) all_strict low_first 0 none_lead (omega arith)

-- what is read for n bytes, fewer than 127, has one byte of length, and content
record Short (t : List ℕ) : Type 0 where
  tag : get_or t 0 0 ≡ 0x02
  low : get_or t 1 0 < 0x80
  some : 0 < get_or t 1 0
  whole : get_or t 1 0 + 2 ≤ length t

short_of : (t c : List ℕ) (b : ℕ) → take b t ≡ 0x02 ∷ length c ∷ c → b ≤ length t → 0 < length c → length c < 0x80 → Short t
short_of t c b all inside some one =
    let end : b ≡ 2 + length c = sym (length-take-le b t inside) ∙ ap length all ∙ omega arith in
    let first : get_or t 1 0 ≡ length c = sym (get_or-take b t 1 0 (omega arith)) ∙ ap (λ l. get_or l 1 0) all in
    record {
      tag = sym (get_or-take b t 0 0 (omega arith)) ∙ ap (λ l. get_or l 0 0) all;
      low = omega arith;
      some = omega arith;
      whole = omega arith;
    }

short : (n : ℕ) (t : List ℕ) → n < 127 → Bytes t → (a b : ℕ) → number_in n t ≡ stand a b → Short t
short n t small bytes a b e =
    let r = number_read n t a b e in
    let f = element_whole 0x02 t bytes r.from b r.is in
    let c = part r.from b t in
    let size = length_part r.from b t f.inside in
    let one : length c < 0x80 = omega (arith, r.small, lead_small c) in
    short_of t c b (f.whole ∙ ap (λ l. 0x02 ∷ (l ++ c)) (form_short (length c) one)) f.inside (strict_some c r.is_strict) one

-- the number at the head, by the tests
module _ (n : ℕ) (t : List ℕ) (small : n < 127) (bytes : Bytes t) where
  number_not : (Short t → ⊥) → None ≡ number_in n t
  number_not h = read (number_in n t) refl
    where
      read : (r : Option Digits) → number_in n t ≡ r → None ≡ number_in n t
      read None e = sym e
      read (Some d) e = absurd (h (short n t small bytes d.start d.end e))

  pub number_few : length t < 3 → None ≡ number_in n t
  number_few h = number_not (λ s. omega (arith, s.some, s.whole))

  pub number_other : (get_or t 0 0 ≡ 0x02 → ⊥) → None ≡ number_in n t
  number_other h = number_not (λ s. h s.tag)

  pub number_cut : length t - 2 < get_or t 1 0 → None ≡ number_in n t
  number_cut h = number_not (λ s. omega (arith, s.whole))

  pub number_digits :
      (size : ℕ) →
      size ≡ get_or t 1 0 →
      size + 2 ≤ length t →
      get_or t 0 0 ≡ 0x02 →
      digits_in n 2 (size + 2) (part 2 (size + 2) t) ≡ number_in n t
  number_digits size e inside tag =
      by_test (ltb size 0x80) (λ h. one (ltb-true size 0x80 h)) (λ h. more (ltb-false size 0x80 h))
    where
      one : size < 0x80 → digits_in n 2 (size + 2) (part 2 (size + 2) t) ≡ number_in n t
      one h =
          let here : size ≡ get_or (drop 1 t) 0 0 = e ∙ sym (get_or-drop 1 t 0 0) in
          let read : is size 1 ≡ read_length (drop 1 t) = length_short (drop 1 t) size here (omega (arith, length-drop 1 t)) h in
          let body : lies 2 (2 + size) ≡ element_in 0x02 t =
          body_is (length t - 1) size 1 (omega arith)
          ∙ ap (body_in (length t - 1)) read
          ∙ element_read 0x02 t (omega arith) tag in
          let sum : size + 2 ≡ 2 + size = omega arith in
          ap (λ k. digits_in n 2 k (part 2 k t)) sum ∙ number_at_lem n t 2 (2 + size) (sym body)

      more : 0x80 ≤ size → digits_in n 2 (size + 2) (part 2 (size + 2) t) ≡ number_in n t
      more h = sym (too_big n 2 (size + 2) (part 2 (size + 2) t) (omega arith)) ∙ number_not (λ s. omega (arith, s.low))
