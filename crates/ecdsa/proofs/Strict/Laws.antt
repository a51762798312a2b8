-- Reading strict DER by the tests that lead there: the digits of content, the INTEGER at the head, both numbers; and
-- leading zeros put down.
-- Assumes nothing.
use Rattle.std.specs.Prelude.{◌≡◌, refl, true, false, ℕ, ◌+◌, ◌-◌, ◌<◌, ◌≤◌, List, [], ◌∷◌, ◌++◌, Option, Some, None, ltb, eqb, length, get_or, drop, replicate}
use Rattle.std.proofs.Math.Path.{ap, sym}
use Rattle.std.proofs.Common.{subst₂, ◌∙◌, arith, length-append, length-drop, length-take-le}
use borrow.Author.Tests.{lt-ltb, le-ltb, ltb-true, ltb-false, eq-eqb, ne_eqb}
use Rattle.std.proofs.lemmas.List.{length-replicate}
use Rattle.format.specs.Bytes.{Bytes}
use Rattle.format.specs.Buffer.{over}
use Rattle.format.proofs.Buffer.Laws.{over_over}
use Rattle.format.specs.Choice.{pick, both}
use Rattle.format.specs.Choice.Laws.{by_test}
use Rattle.der.specs.Element.{lies, element_in}
use Rattle.der.proofs.Elements.Exact.{element_whole}
use Rattle.der.specs.Content.{strict}
use Rattle.der.specs.Content.Laws.{strict_none}
use Rattle.der.specs.declared.Body.{Body}
use Rattle.ecdsa.specs.Strict.{part, lead, stand, digits_in, number_at, number_in, padded, Raw, lastly, pair_in, sequence, raw_of}
use Rattle.ecdsa.specs.declared.Digits.{Digits}

-- whether the first byte only says that the number is not negative
module _ (c : List ℕ) where
  pub lead_one : get_or c 0 0 ≡ 0 → 1 < length c → lead c ≡ 1
  lead_one e h = simp (eq-eqb (get_or c 0 0) 0 e, lt-ltb 1 (length c) h)

  pub lead_not : (get_or c 0 0 ≡ 0 → ⊥) → lead c ≡ 0
  lead_not e = simp (ne_eqb (get_or c 0 0) 0 e)

  pub lead_short : length c ≤ 1 → lead c ≡ 0
  lead_short h = by_test (eqb (get_or c 0 0) 0) (λ e. simp (e, le-ltb 1 (length c) h)) (λ e. simp e)

pub lead_small : (c : List ℕ) → lead c ≤ 1
lead_small c = by_test (both (eqb (get_or c 0 0) 0) (ltb 1 (length c))) (λ h. simp h (omega arith)) (λ h. simp h (omega arith))

-- a part has as many bytes as lie between its places
pub length_part : (from to : ℕ) (s : List ℕ) → to ≤ length s → length (part from to s) ≡ to - from
length_part from to s h = length-take-le (to - from) (drop from s) (omega (arith, length-drop from s))

pub never : false ≡ true → ⊥
never e = let z : ◌≡◌ {A = ℕ} 0 1 = cc in omega arith

-- what is strict is not empty
pub strict_some : (c : List ℕ) → strict c ≡ true → 0 < length c
strict_some [] e = absurd (never (strict_none [] refl ∙ e))
strict_some (x ∷ c) e = omega arith

-- digits are told by their two places
stand_same : {a b c d : ℕ} → stand a b ≡ stand c d → (a ≡ c) × (b ≡ d)
stand_same {a} {b} {c} {d} e =
    let same : ◌≡◌ {A = Digits} (record { start = a; end = b }) (record { start = c; end = d }) = cc in
    (ap (λ x. x.start) same, ap (λ x. x.end) same)

-- the digits of content, by the tests
module _ (n from to : ℕ) (c : List ℕ) where
  pub digits_not_strict : strict c ≡ false → None ≡ digits_in n from to c
  unfolding digits_in
  digits_not_strict s = simp s

  module _ (s : strict c ≡ true) where
    pub digits_negative : 0x80 ≤ get_or c 0 0 → None ≡ digits_in n from to c
    unfolding digits_in
    digits_negative h = simp (s, le-ltb (get_or c 0 0) 0x80 h)

    module _ (h : get_or c 0 0 < 0x80) (k : ℕ) (e : lead c ≡ k) where
      sized : pick (ltb n (to - from - k)) None (stand (from + k) to) ≡ digits_in n from to c
      unfolding digits_in
      sized = sym (simp (s, lt-ltb (get_or c 0 0) 0x80 h) (ap (λ j. pick (ltb n (to - from - j)) None (stand (from + j) to)) e))

      pub digits_too_big : n < to - from - k → None ≡ digits_in n from to c
      digits_too_big l = sym (simp (lt-ltb n (to - from - k) l)) ∙ sized

      pub digits_is : to - from - k ≤ n → stand (from + k) to ≡ digits_in n from to c
      digits_is l = sym (simp (le-ltb n (to - from - k) l)) ∙ sized

-- the INTEGER at the head, by what element is there
module _ (n : ℕ) (t : List ℕ) where
  pub number_none : element_in 0x02 t ≡ None → None ≡ number_in n t
  unfolding number_in
  number_none e = sym (ap (number_at n t) e)

  pub number_at_lem : (from to : ℕ) → element_in 0x02 t ≡ lies from to → digits_in n from to (part from to t) ≡ number_in n t
  unfolding number_in
  number_at_lem from to e = sym (ap (number_at n t) e)

-- both numbers, by what is read; t is what stands in the sequence, u what stands after r
module _ (n : ℕ) (s : List ℕ) where
  pub raw_none : element_in 0x30 s ≡ None → raw_of n s ≡ Raw.none
  unfolding raw_of
  raw_none e = ap (sequence n s) e

  module _ (from to : ℕ) (e : element_in 0x30 s ≡ lies from to) where
    pub raw_more : (to ≡ length s → ⊥) → raw_of n s ≡ Raw.none
    unfolding raw_of
    raw_more h = ap (sequence n s) e ∙ simp (ne_eqb to (length s) h)

    module _ (whole : to ≡ length s) (t : List ℕ) (at_t : drop from s ≡ t) where
      pub raw_pair : raw_of n s ≡ pair_in n t (number_in n t)
      unfolding raw_of
      raw_pair = ap (sequence n s) e ∙ simp (eq-eqb to (length s) whole) (ap (λ v. pair_in n v (number_in n v)) at_t)

      pub raw_no_r : number_in n t ≡ None → raw_of n s ≡ Raw.none
      raw_no_r f = raw_pair ∙ ap (pair_in n t) f

      module _ (a b : ℕ) (f : number_in n t ≡ stand a b) (u : List ℕ) (at_u : drop b t ≡ u) where
        pub raw_rest : raw_of n s ≡ lastly n (padded n (part a b t)) u (number_in n u)
        raw_rest = raw_pair ∙ ap (pair_in n t) f ∙ ap (λ v. lastly n (padded n (part a b t)) v (number_in n v)) at_u

        pub raw_no_s : number_in n u ≡ None → raw_of n s ≡ Raw.none
        raw_no_s g = raw_rest ∙ ap (lastly n (padded n (part a b t)) u) g

        module _ (x y : ℕ) (g : number_in n u ≡ stand x y) where
          pub raw_left : (y ≡ length u → ⊥) → raw_of n s ≡ Raw.none
          raw_left h = raw_rest ∙ ap (lastly n (padded n (part a b t)) u) g ∙ simp (ne_eqb y (length u) h)

          pub raw_is : y ≡ length u → raw_of n s ≡ Raw.raw (padded n (part a b t) ++ padded n (part x y u))
          raw_is h = raw_rest ∙ ap (lastly n (padded n (part a b t)) u) g ∙ simp (eq-eqb y (length u) h)

-- a number that was read: its INTEGER, whose content is strict, and where its digits start
pub record Read (n : ℕ) (t : List ℕ) (a b : ℕ) : Type 0 where
  pub from : ℕ
  pub is : element_in 0x02 t ≡ lies from b
  pub is_strict : strict (part from b t) ≡ true
  pub low : get_or (part from b t) 0 0 < 0x80
  pub start : a ≡ from + lead (part from b t)
  pub small : b - from - lead (part from b t) ≤ n

nothing : {a b : ℕ} {r : Option Digits} → None ≡ r → r ≡ stand a b → ⊥
nothing e f = let z : ◌≡◌ {A = ℕ} 0 1 = cc in omega arith

digits_read :
    (n : ℕ) (t : List ℕ) (from to a b : ℕ) →
    element_in 0x02 t ≡ lies from to →
    digits_in n from to (part from to t) ≡ stand a b →
    Read n t a b
digits_read n t from to a b is e =
    by_test (strict c)
    (λ s. by_test (ltb (get_or c 0 0) 0x80) (λ h. sized s (ltb-true (get_or c 0 0) 0x80 h))
    (λ h. absurd (nothing (digits_negative n from to c s (ltb-false (get_or c 0 0) 0x80 h)) e)))
    (λ s. absurd (nothing (digits_not_strict n from to c s) e))
  where
    c : List ℕ
    c = part from to t

    sized : strict c ≡ true → get_or c 0 0 < 0x80 → Read n t a b
    sized s h =
        by_test (ltb n (to - from - lead c))
        (λ l. absurd (nothing (digits_too_big n from to c s h (lead c) refl (ltb-true n (to - from - lead c) l)) e))
        (λ l.
        let room = ltb-false n (to - from - lead c) l in
        let same = stand_same (digits_is n from to c s h (lead c) refl room ∙ e) in
        subst₂ (λ y z. Read n t y z) same.0 same.1 (record { from = from; is = is; is_strict = s; low = h; start = refl; small = room }))

pub number_read : (n : ℕ) (t : List ℕ) (a b : ℕ) → number_in n t ≡ stand a b → Read n t a b
number_read n t a b e = read (element_in 0x02 t) refl
  where
    read : (r : Option Body) → element_in 0x02 t ≡ r → Read n t a b
    read (Some d) f = digits_read n t d.start d.end a b f (number_at_lem n t d.start d.end f ∙ e)
    read None f = absurd (nothing (number_none n t f) e)

-- its digits lie inside, and there are at most n
pub record Inside (n : ℕ) (t : List ℕ) (a b : ℕ) : Type 0 where
  pub order : a ≤ b
  pub end : b ≤ length t
  pub small : b - a ≤ n

pub lead_at_most : (c : List ℕ) (size : ℕ) → strict c ≡ true → length c ≡ size → lead c ≤ size
lead_at_most c size s e =
    by_test (both (eqb (get_or c 0 0) 0) (ltb 1 (length c))) (λ h. simp h (omega (arith, strict_some c s))) (λ h. simp h (omega arith))

placed : (n from a b k : ℕ) (t : List ℕ) → from ≤ b → b ≤ length t → k ≤ b - from → a ≡ from + k → b - from - k ≤ n → Inside n t a b
placed n from a b k t order end h start small = record { order = omega arith; end = end; small = omega arith }

pub number_inside : (n : ℕ) (t : List ℕ) → Bytes t → (a b : ℕ) → number_in n t ≡ stand a b → Inside n t a b
number_inside n t bytes a b e =
    let r = number_read n t a b e in
    let whole = element_whole 0x02 t bytes r.from b r.is in
    let c = part r.from b t in
    placed n r.from a b (lead c) t whole.order whole.inside
    (lead_at_most c (b - r.from) r.is_strict (length_part r.from b t whole.inside)) r.start r.small

-- a number in n bytes has n bytes
pub length_padded : (n : ℕ) (digits : List ℕ) → length digits ≤ n → length (padded n digits) ≡ n
length_padded n digits h =
    length-append (replicate (n - length digits) 0) digits ∙ omega (arith, length-replicate {A = ℕ} (n - length digits) 0)

-- the digits after the zeros
pub padded_put :
    (out digits : List ℕ) (n at i : ℕ) (filled : List ℕ) →
    length digits ≤ n →
    at + n ≤ length out →
    i ≡ n - length digits →
    filled ≡ over out at (replicate i 0) →
    over filled (at + (n - length digits)) digits ≡ over out at (padded n digits)
padded_put out digits n at i filled h room e f =
    let zeros = replicate {A = ℕ} (n - length digits) 0 in
    let many : length zeros ≡ n - length digits = length-replicate (n - length digits) 0 in
    ap (λ o. over o (at + (n - length digits)) digits) (f ∙ ap (λ k. over out at (replicate k 0)) e)
    ∙ ap (λ k. over (over out at zeros) (at + k) digits) (sym many)
    ∙ over_over out at zeros digits (omega arith)
