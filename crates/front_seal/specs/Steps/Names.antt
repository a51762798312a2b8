-- The steps of the names: text by threes is one item of its whole width, and what follows goes on from there.
-- Assumes nothing.
use Rattle.std.specs.Prelude.{◌≡◌, true, List, [], ◌∷◌, ℕ, zero, suc, ◌+◌, ◌-◌, ◌≤◌, ◌<◌, length}
use Rattle.std.proofs.Math.Path.{sym, ap}
use Rattle.std.proofs.Common.{◌∙◌, length-drop}
use native.Mathlib.Omega.{arith}
use Rattle.std.proofs.Math.Decide.{dec_le}
use Rattle.std.proofs.Math.Dec.{ltb}
use Rattle.std.proofs.Math.ListN.{drop, get_or}
use Rattle.std.proofs.Math.Seq.{drop-drop, get_or-drop}
use borrow.Author.Tests.{lt-ltb, le-ltb, ltb-true, ltb-false}
use Rattle.format.specs.Choice.{within}
use Rattle.format.specs.Choice.Laws.{by_test, both_true, within_both}
use Rattle.format.specs.Places.{at_place}
use Rattle.c40.specs.Text.{width}
use Rattle.front_pairs.specs.Pairs.{pair_front, length_in, fits, opens, is_letter_or_digit, is_hexadecimal}
use Rattle.pairs.specs.Pairs.{number, first, second, third}
use Rattle.front_pairs.specs.declared.Kind.{Kind}
use Rattle.front_pairs.specs.declared.Kind.TheVariants as kind
use Rattle.grammar.specs.Content.{Version, three, four}
use Rattle.front_header.specs.Header.{past, text_front, dates_front, country_front, names_front, length_front, reference_front}
use Rattle.front_seal.specs.Steps.{nothing, ends_in_lem, goes_on_lem}

-- a pair has two bytes
pair_most : (k : Kind) (s : List ℕ) → pair_front k s ≤ 2
unfolding pair_front
pair_most k [] = omega arith
pair_most k (x ∷ []) = by_test (opens k x) (λ e. simp e (omega arith)) (λ e. simp e (omega arith))
pair_most k (x ∷ y ∷ s) =
    by_test (fits k x y) (λ e. simp e (omega arith))
    (λ f. by_test (opens k x) (λ e. simp (f, e) (omega arith)) (λ e. simp (f, e) (omega arith)))

-- and of less than two bytes no two can be completed
pair_short : (k : Kind) (s : List ℕ) → pair_front k s ≤ length s
unfolding pair_front
pair_short k [] = omega arith
pair_short k (x ∷ []) = by_test (opens k x) (λ e. simp e (omega arith)) (λ e. simp e (omega arith))
pair_short k (x ∷ y ∷ s) = omega (arith, pair_most k (x ∷ y ∷ s))

pub pair_few : (k : Kind) (s : List ℕ) (n : ℕ) → n ≡ pair_front k s → n ≤ 2
pair_few k s n e = omega (arith, pair_most k s)

-- a whole pair is there
pub pair_there : (k : Kind) (s : List ℕ) (at n : ℕ) → n ≡ pair_front k (drop at s) → 2 ≤ n → at + 2 ≤ length s
pair_there k s at n e h = elim (dec_le (at + 2) (length s)) [
  | yes g ↦ g
  | no g ↦ absurd (omega (arith, pair_short k (drop at s), length-drop at s))
]

-- two hexadecimal digits give at most 255
digits_most : (x y : ℕ) → fits kind.Length x y ≡ true → length_in x y ≤ 255
unfolding fits
digits_most x y e =
    let k = both_true (within 1 64000 (number x y)) _ e in
    let a = both_true (is_letter_or_digit (first (number x y))) _ k.1 in
    let b = both_true (is_hexadecimal (second (number x y))) _ a.1 in
    let c = both_true (is_hexadecimal (third (number x y))) _ b.1 in
    let high = within_both 4 19 (second (number x y)) b.0 in
    let low = within_both 4 19 (third (number x y)) c.0 in
    omega (arith, high.1, low.1)

two_fit : (k : Kind) (x y : ℕ) (t : List ℕ) → 2 ≤ pair_front k (x ∷ y ∷ t) → fits k x y ≡ true
unfolding pair_front
two_fit k x y t h =
    by_test (fits k x y) (λ e. e)
    (λ f. by_test (opens k x)
    (λ e. let z : 2 ≤ 1 = simp (f, e) at h in absurd (omega arith))
    (λ e. let z : 2 ≤ 0 = simp (f, e) at h in absurd (omega arith)))

-- two bytes of a string from a place on
two_at : (s : List ℕ) (at : ℕ) → at + 2 ≤ length s → drop at s ≡ get_or s at 0 ∷ get_or s (at + 1) 0 ∷ drop (at + 2) s
two_at s at h =
    let e : at + 1 + 1 ≡ at + 2 = omega arith in
    at_place s at 0 (omega arith)
    ∙ ap (λ t. get_or s at 0 ∷ t) (at_place s (at + 1) 0 (omega arith) ∙ ap (λ k. get_or s (at + 1) 0 ∷ drop k s) e)

length_most : (s : List ℕ) (at n : ℕ) → n ≡ pair_front kind.Length (drop at s) → 2 ≤ n → length_in (get_or s at 0) (get_or s (at + 1) 0) ≤ 255
length_most s at n e h =
    let t = two_at s at (pair_there kind.Length s at n e h) in
    let m : n ≡ pair_front kind.Length (get_or s at 0 ∷ get_or s (at + 1) 0 ∷ drop (at + 2) s) = e ∙ ap (pair_front kind.Length) t in
    digits_most (get_or s at 0) (get_or s (at + 1) 0) (two_fit kind.Length (get_or s at 0) (get_or s (at + 1) 0) (drop (at + 2) s) (omega arith))

-- two items one after the other are one
past_past :
    (a b more : List ℕ → ℕ) (v w : ℕ) (s : List ℕ) →
    past a v (past b w more) s ≡ past (past a v b) (v + w) more s
unfolding past
past_past a b more v w s =
    by_test (ltb (a s) v)
    (λ e. let h = ltb-true (a s) v e in simp (e, lt-ltb (a s) (v + w) (omega arith)))
    (λ e.
    by_test (ltb (b (drop v s)) w)
    (λ f. let h = ltb-true (b (drop v s)) w f in simp (e, f, lt-ltb (v + b (drop v s)) (v + w) (omega arith)))
    (λ f.
    let h = ltb-false (b (drop v s)) w f in
    simp (e, f, le-ltb (v + b (drop v s)) (v + w) (omega arith), drop-drop w v s) (omega arith)))

-- and with nothing more, the item alone
past_nothing : (a : List ℕ → ℕ) (v : ℕ) (s : List ℕ) → a s ≤ v → past a v nothing s ≡ a s
unfolding past
past_nothing a v s h =
    by_test (ltb (a s) v) (λ e. simp e) (λ e. let g = ltb-false (a s) v e in simp e (omega arith))

past_none : (more : List ℕ → ℕ) (s : List ℕ) → more s ≡ past nothing 0 more s
unfolding past
past_none more s = omega arith

-- a last pair with nothing more, as an item of its own
past_alone : (a more : List ℕ → ℕ) (s : List ℕ) → past a 2 more s ≡ past (past a 2 nothing) 2 more s
past_alone a more s = (λ i. past a 2 (λ t. past_none more t i) s) ∙ past_past a nothing more 2 0 s

-- text is one item of its whole width
pub text_item : (n : ℕ) (more : List ℕ → ℕ) (s : List ℕ) → text_front n more s ≡ past (text_front n nothing) (width n) more s
unfolding text_front
text_item zero more s = past_none more s
text_item (suc zero) more s = past_alone (pair_front kind.One) more s
text_item (suc (suc zero)) more s = past_alone (pair_front kind.Two) more s
text_item (suc (suc (suc n))) more s =
    let ih : (t : List ℕ) → text_front n more t ≡ past (text_front n nothing) (width n) more t = text_item n more in
    let w : 2 + width n ≡ width (suc (suc (suc n))) = omega arith in
    (λ i. past (pair_front kind.Triple) 2 (λ t. ih t i) s)
    ∙ past_past (pair_front kind.Triple) (text_front n nothing) more 2 (width n) s
    ∙ ap (λ k. past (past (pair_front kind.Triple) 2 (text_front n nothing)) k more s) w

-- three characters and more
pub text_three : (n : ℕ) → 3 ≤ n → (s : List ℕ) → text_front n nothing s ≡ past (pair_front kind.Triple) 2 (text_front (n - 3) nothing) s
unfolding text_front
text_three zero h s = absurd (omega arith)
text_three (suc zero) h s = absurd (omega arith)
text_three (suc (suc zero)) h s = absurd (omega arith)
text_three (suc (suc (suc n))) h s =
    let e : n ≡ suc (suc (suc n)) - 3 = omega arith in
    ap (λ k. past (pair_front kind.Triple) 2 (text_front k nothing) s) e

-- where the loop stands: so much is passed, and so many characters are left
abbrev pub Stands : List ℕ → ℕ → ℕ → ℕ → ℕ → Type 0
Stands s at size passed left = passed + text_front left nothing (drop (at + passed) s) ≡ text_front size nothing (drop at s)

-- before its first turn
pub starts : (s : List ℕ) (at size : ℕ) → Stands s at size 0 size
starts s at size = let e : at + 0 ≡ at = omega arith in ap (λ n. 0 + text_front size nothing (drop n s)) e ∙ omega arith

module _ (s : List ℕ) (at size passed left : ℕ) (stands : Stands s at size passed left) where
  pub triple_ends : 3 ≤ left → (n : ℕ) → n ≡ pair_front kind.Triple (drop (at + passed) s) → n < 2
      → passed + n ≡ text_front size nothing (drop at s)
  unfolding past
  triple_ends h n e l =
      let t : ltb (pair_front kind.Triple (drop (at + passed) s)) 2 ≡ ltb n 2 = ap (λ x. ltb x 2) (sym e) in
      let f : text_front left nothing (drop (at + passed) s) ≡ n =
      text_three left h (drop (at + passed) s) ∙ simp (t, lt-ltb n 2 l) (sym e) in
      omega arith

  pub triple_goes : 3 ≤ left → (n : ℕ) → n ≡ pair_front kind.Triple (drop (at + passed) s) → 2 ≤ n
      → Stands s at size (passed + 2) (left - 3)
  unfolding past
  triple_goes h n e l =
      let t : ltb (pair_front kind.Triple (drop (at + passed) s)) 2 ≡ ltb n 2 = ap (λ x. ltb x 2) (sym e) in
      let a : at + passed + 2 ≡ at + (passed + 2) = omega arith in
      let f : text_front left nothing (drop (at + passed) s) ≡ 2 + text_front (left - 3) nothing (drop 2 (drop (at + passed) s)) =
      text_three left h (drop (at + passed) s) ∙ simp (t, le-ltb n 2 l) in
      let d : drop 2 (drop (at + passed) s) ≡ drop (at + (passed + 2)) s = drop-drop 2 (at + passed) s ∙ ap (λ k. drop k s) a in
      let g : text_front (left - 3) nothing (drop 2 (drop (at + passed) s)) ≡ text_front (left - 3) nothing (drop (at + (passed + 2)) s) =
      ap (text_front (left - 3) nothing) d in
      omega arith

  pub two_end : left ≡ 2 → (n : ℕ) → n ≡ pair_front kind.Two (drop (at + passed) s) → passed + n ≡ text_front size nothing (drop at s)
  unfolding text_front
  two_end h n e =
      let f : text_front left nothing (drop (at + passed) s) ≡ pair_front kind.Two (drop (at + passed) s) =
      ap (λ k. text_front k nothing (drop (at + passed) s)) h
      ∙ past_nothing (pair_front kind.Two) 2 (drop (at + passed) s) (pair_most kind.Two (drop (at + passed) s)) in
      omega arith

  pub one_ends : left ≡ 1 → (n : ℕ) → n ≡ pair_front kind.One (drop (at + passed) s) → passed + n ≡ text_front size nothing (drop at s)
  unfolding text_front
  one_ends h n e =
      let f : text_front left nothing (drop (at + passed) s) ≡ pair_front kind.One (drop (at + passed) s) =
      ap (λ k. text_front k nothing (drop (at + passed) s)) h
      ∙ past_nothing (pair_front kind.One) 2 (drop (at + passed) s) (pair_most kind.One (drop (at + passed) s)) in
      omega arith

  pub none_ends : left ≡ 0 → passed ≡ text_front size nothing (drop at s)
  unfolding text_front
  none_ends h =
      let f : text_front left nothing (drop (at + passed) s) ≡ 0 = ap (λ k. text_front k nothing (drop (at + passed) s)) h in
      omega arith

-- Version 3: six characters, a text of four bytes at 6, and then the dates of a header of 18 bytes.
module _ (s : List ℕ) (n : ℕ) (e : n ≡ text_front 6 nothing (drop 6 s)) where
  pub six_ends : n < 4 → 6 + n ≡ 6 + names_front three (drop 6 s)
  unfolding names_front
  six_ends h =
      ends_in_lem (text_front 6 nothing) 4 (dates_front three 18) s 6 n e h
      ∙ sym (ap (λ k. 6 + k) (text_item 6 (dates_front three 18) (drop 6 s)))

  pub six_goes : 4 ≤ n → (r : ℕ) → r ≡ 10 + dates_front three 18 (drop 10 s) → r ≡ 6 + names_front three (drop 6 s)
  unfolding names_front
  six_goes h r f =
      f ∙ sym (goes_on_lem (text_front 6 nothing) 4 (dates_front three 18) s 6 n e h)
      ∙ sym (ap (λ k. 6 + k) (text_item 6 (dates_front three 18) (drop 6 s)))

-- Version 4: the pair with the reference's length at 6, the reference at 8, and then the dates of a header of 16 bytes and the reference's.
module _ (s : List ℕ) (n : ℕ) (e : n ≡ pair_front kind.Length (drop 6 s)) where
  pub length_ends : n < 2 → 6 + n ≡ 6 + length_front (drop 6 s)
  unfolding length_front
  length_ends h =
      let t : ltb (pair_front kind.Length (drop 6 s)) 2 ≡ ltb n 2 = ap (λ x. ltb x 2) (sym e) in
      simp (t, lt-ltb n 2 h) (ap (λ x. 6 + x) e)

  module _ (h : 2 ≤ n) where
    -- the pair is there
    pub length_there : 8 ≤ length s
    length_there = pair_there kind.Length s 6 n e h

    module _ (size : ℕ) (l : size ≡ length_in (get_or s 6 0) (get_or s 7 0)) where
      -- two hexadecimal digits
      pub size_most : size ≤ 255
      size_most = omega (arith, length_most s 6 n e h)

      past_length : 6 + length_front (drop 6 s) ≡ 8 + reference_front size (drop 8 s)
      unfolding length_front
      past_length =
          let t : ltb (pair_front kind.Length (drop 6 s)) 2 ≡ ltb n 2 = ap (λ x. ltb x 2) (sym e) in
          let a : get_or (drop 6 s) 0 0 ≡ get_or s 6 0 = get_or-drop 6 s 0 0 in
          let b : get_or (drop 6 s) 1 0 ≡ get_or s 7 0 = get_or-drop 6 s 1 0 in
          simp (t, le-ltb n 2 h, a, b, sym l, drop-drop 2 6 s) (omega arith)

      module _ (m : ℕ) (f : m ≡ text_front size nothing (drop 8 s)) (w : ℕ) (g : w ≡ width size) where
        whole_width : 8 + reference_front size (drop 8 s) ≡ 8 + past (text_front size nothing) w (dates_front four (8 + w + 8)) (drop 8 s)
        unfolding reference_front
        whole_width =
            let x : 16 + width size ≡ 8 + w + 8 = omega arith in
            ap (λ k. 8 + k) (text_item size (dates_front four (16 + width size)) (drop 8 s)
            ∙ ap (λ k. past (text_front size nothing) k (dates_front four (16 + width size)) (drop 8 s)) (sym g)
            ∙ ap (λ k. past (text_front size nothing) w (dates_front four k) (drop 8 s)) x)

        pub reference_ends : m < w → 8 + m ≡ 6 + length_front (drop 6 s)
        reference_ends k =
            ends_in_lem (text_front size nothing) w (dates_front four (8 + w + 8)) s 8 m f k ∙ sym (past_length ∙ whole_width)

        pub reference_goes : w ≤ m → (r : ℕ) → r ≡ 8 + w + dates_front four (8 + w + 8) (drop (8 + w) s) → r ≡ 6 + length_front (drop 6 s)
        reference_goes k r x =
            x ∙ sym (past_length ∙ whole_width ∙ goes_on_lem (text_front size nothing) w (dates_front four (8 + w + 8)) s 8 m f k)

-- Country and the signer's first three characters, and then the names.
module _ (v : Version) (s : List ℕ) where
  abbrev after_country : List ℕ → ℕ
  after_country = past (pair_front kind.Signer) 2 (names_front v)

  module _ (n : ℕ) (e : n ≡ pair_front kind.Country (drop 2 s)) where
    pub country_ends : n < 2 → 2 + n ≡ 2 + country_front v (drop 2 s)
    unfolding country_front
    country_ends h = ends_in_lem (pair_front kind.Country) 2 after_country s 2 n e h

    module _ (h : 2 ≤ n) (m : ℕ) (f : m ≡ pair_front kind.Signer (drop 4 s)) where
      past_country : 2 + country_front v (drop 2 s) ≡ 4 + after_country (drop 4 s)
      unfolding country_front
      past_country = goes_on_lem (pair_front kind.Country) 2 after_country s 2 n e h

      pub signer_ends : m < 2 → 4 + m ≡ 2 + country_front v (drop 2 s)
      signer_ends k = ends_in_lem (pair_front kind.Signer) 2 (names_front v) s 4 m f k ∙ sym past_country

      pub names_go : 2 ≤ m → (r : ℕ) → r ≡ 6 + names_front v (drop 6 s) → r ≡ 2 + country_front v (drop 2 s)
      names_go k r x = x ∙ sym (past_country ∙ goes_on_lem (pair_front kind.Signer) 2 (names_front v) s 4 m f k)
