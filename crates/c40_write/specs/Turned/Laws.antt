-- Laws of the chart turned round: its entries, how they are laid, and what the marks of several characters together say.
-- Assumes nothing.
use Rattle.std.specs.Prelude.{◌≡◌, refl, ℕ, zero, suc, ◌+◌, ◌<◌, ◌≤◌, List, [], ◌∷◌, ltb, leb, eqb, length, get_or, drop, set, replicate}
use Rattle.std.proofs.Common.{ap, sym, ◌∙◌, arith, add-one, lt-ltb, le-ltb, ltb-true, ltb-false, eq-eqb, ne_eqb, eqb-true, le-leb, length-append, length-set, get_or-set_same, get_or-set_other, ext_get_or}
use Rattle.std.proofs.lemmas.Bool.{eqb-false, lt-leb}
use Rattle.std.specs.Int.Bits.{bit_or, or_add_and}
use Rattle.std.proofs.lemmas.Nat.{and_le_l, and_le_r, or_lt}
use Rattle.std.proofs.lemmas.List.{length-replicate, get_or-replicate, get_or_at}
use Rattle.std.proofs.Math.ListN.{get_or-append}
use Rattle.format.specs.Choice.{pick}
use Rattle.format.specs.Choice.Laws.{by_test}
use Rattle.format.specs.Bytes.Laws.{all_at}
use Rattle.pairs.specs.Chart.{char, value_of, in_chart, InChart}
use Rattle.pairs.specs.Chart.Laws.{value_range, value_char, char_below}
use Rattle.c40.specs.Text.{Text}
use Rattle.c40.specs.Calls.{known}
use Rattle.c40.proofs.Calls.Laws.{known_more, known_here, known_end}
use Rattle.c40_write.specs.Turned.{entry_of, entries, turned}

length_entries : (n : ℕ) → length (entries n) ≡ n
unfolding entries
length_entries zero = refl
length_entries (suc n) = let ih = length_entries n in simp (length-append, ih, add-one)

entries_at : (n c : ℕ) → c < n → get_or (entries n) c 0 ≡ entry_of c
unfolding entries
entries_at zero c h = absurd (omega arith)
entries_at (suc n) c h =
    let ih = entries_at n c in
    let many = length_entries n in
    by_test (ltb c n)
    (λ e.
    let low = ltb-true c n e in
    get_or-append (entries n) (entry_of n ∷ []) 0 c (omega arith) ∙ ih low)
    (λ e.
    let same : n ≡ c = omega (arith, ltb-false c n e) in
    get_or_at (entries n) (entry_of n) [] 0 c (many ∙ same) ∙ ap entry_of same)

pub length_turned : length turned ≡ 256
unfolding turned
length_turned = length_entries 256

pub turned_at : (c : ℕ) → c < 256 → get_or turned c 0 ≡ entry_of c
unfolding turned
turned_at c h = entries_at 256 c h

-- an entry of a lent table, at a code that was reckoned
pub looked : (values : List ℕ) (c d : ℕ) → values ≡ turned → d ≡ c → get_or values d 0 ≡ get_or turned c 0
looked values c d e f = ap (λ t. get_or t d 0) e ∙ ap (λ k. get_or turned k 0) f

-- an entry, by whether the character is in the chart
entry_in : (c : ℕ) → InChart c → entry_of c ≡ value_of c
entry_in c i = simp (eq-eqb (char (value_of c)) c i)

entry_out : (c : ℕ) → (InChart c → ⊥) → entry_of c ≡ 128
entry_out c i = simp (ne_eqb (char (value_of c)) c i)

by_chart : {C : Type 0} (c : ℕ) → (InChart c → C) → ((InChart c → ⊥) → C) → C
by_chart c f g = by_test (in_chart c) (λ e. f (eqb-true (char (value_of c)) c e)) (λ e. g (eqb-false (char (value_of c)) c e))

-- what is found at a character's code
module _ (c x : ℕ) (h : c < 256) (e : x ≡ get_or turned c 0) where
  pub found_in : InChart c → x ≡ value_of c
  found_in i = e ∙ turned_at c h ∙ entry_in c i

  pub no_mark : x < 128 → InChart c
  no_mark low = by_chart c (λ i. i) (λ o. absurd (omega (arith, e ∙ turned_at c h ∙ entry_out c o)))

  pub a_mark : 128 ≤ x → InChart c → ⊥
  a_mark high i = omega (arith, found_in i, value_range c)

  pub found_most : x ≤ 128
  found_most = by_chart c (λ i. omega (arith, found_in i, value_range c)) (λ o. omega (arith, e ∙ turned_at c h ∙ entry_out c o))

-- what is found for a character of text
pub text_value :
    (t : List ℕ) →
    Text t →
    (i x : ℕ) →
    i < length t →
    x ≡ get_or turned (get_or t i 0) 0 →
    (x ≡ value_of (get_or t i 0)) × (x < 40)
text_value t good i x h e =
    let chr = all_at InChart 0 t good i h in
    let found = found_in (get_or t i 0) x (omega (arith, char_below (get_or t i 0) chr)) e chr in
    (found, omega (arith, value_range (get_or t i 0)))

-- the mark of one is a mark of both together, and there is no other
pub or_both : (a b k : ℕ) → bit_or a b < k → (a < k) × (b < k)
or_both a b k h =
    let e = or_add_and a b in
    let l = and_le_l a b in
    let r = and_le_r a b in
    (omega arith, omega arith)

or_mark : (a b : ℕ) → 128 ≤ bit_or a b → a < 128 → 128 ≤ b
or_mark a b h low = by_test (ltb b 128) (λ e. absurd (omega (arith, or_lt 7 a b low (ltb-true b 128 e)))) (λ e. ltb-false b 128 e)

-- how far text is judged: with no mark so far all characters passed are known, and with one an earlier one is not
pub record Judged (t : List ℕ) (i marks : ℕ) : Type 0 where
  pub good : marks < 128 → known t ≡ i + known (drop i t)
  pub bad : 128 ≤ marks → known t < i

pub judged_start : (t : List ℕ) → Judged t 0 0
judged_start t = record { good = λ h. omega arith; bad = λ h. absurd (omega arith) }

module _ (t : List ℕ) (i marks : ℕ) (so_far : Judged t i marks) where
  pub judged_more : (x : ℕ) → i < length t → get_or t i 0 < 256 → x ≡ get_or turned (get_or t i 0) 0 → Judged t (i + 1) (bit_or marks x)
  judged_more x h byte e = record {
    good = λ low.
        let each = or_both marks x 128 low in
        known_more t i h (no_mark (get_or t i 0) x byte e each.1) (so_far.good each.0);
    bad = λ high. by_test (ltb marks 128)
        (λ f.
        let low = ltb-true marks 128 f in
        let stranger = a_mark (get_or t i 0) x byte e (or_mark marks x high low) in
        omega (arith, known_here t i h stranger (so_far.good low)))
        (λ f. omega (arith, so_far.bad (ltb-false marks 128 f)));
  }

  pub judged_end : i ≡ length t → ltb marks 128 ≡ leb (length t) (known t)
  judged_end h = by_test (ltb marks 128)
      (λ f.
      let all = known_end t i (omega arith) (so_far.good (ltb-true marks 128 f)) in
      f ∙ sym (le-leb (length t) (known t) (omega arith)))
      (λ f. f ∙ sym (lt-leb (length t) (known t) (omega (arith, so_far.bad (ltb-false marks 128 f)))))

-- how far the chart is turned round: the characters of the values below v have their entries, and every other code the mark
abbrev entry_below : ℕ → ℕ → ℕ
entry_below v c = pick (ltb (value_of c) v) (entry_of c) 128

pub record Laid (v : ℕ) (values : List ℕ) : Type 0 where
  pub size : length values ≡ 256
  pub right : (c : ℕ) → c < 256 → get_or values c 0 ≡ entry_below v c

pub laid_start : (values : List ℕ) → values ≡ replicate 256 128 → Laid 3 values
laid_start values e = record {
  size = ap length e ∙ length-replicate {A = ℕ} 256 128;
  right = λ c h.
      ap (λ l. get_or l c 0) e ∙ get_or-replicate 256 c 128 0 h
      ∙ sym (ap (λ b. pick b (entry_of c) 128) (le-ltb (value_of c) 3 (value_range c).0));
}

module _ (v : ℕ) (values : List ℕ) (so_far : Laid v values) where
  -- an entry that is not the one of v stays
  stays : (c : ℕ) → (c ≡ char v → ⊥) → entry_below v c ≡ entry_below (v + 1) c
  stays c off = by_test (ltb (value_of c) v)
      (λ e. simp (e, lt-ltb (value_of c) (v + 1) (omega (arith, ltb-true (value_of c) v e))))
      (λ e. by_test (ltb (value_of c) (v + 1))
      (λ f.
      let same : value_of c ≡ v = omega (arith, ltb-false (value_of c) v e, ltb-true (value_of c) (v + 1) f) in
      simp (e, f, entry_out c (λ i. off (sym i ∙ ap char same))))
      (λ f. simp (e, f)))

  pub laid_more : (c : ℕ) → c ≡ char v → 3 ≤ v → v < 40 → Laid (v + 1) (set values c v)
  laid_more c e h k = record {
    size = length-set values c v ∙ so_far.size;
    right = λ d l. by_test (eqb d c)
        (λ f.
        let same = eqb-true d c f in
        let its : value_of d ≡ v = ap value_of (same ∙ e) ∙ value_char v h k in
        let known_one : InChart d = ap char its ∙ sym (same ∙ e) in
        ap (λ j. get_or (set values c v) j 0) same ∙ get_or-set_same values c v 0 (omega (arith, so_far.size))
        ∙ sym (simp (lt-ltb (value_of d) (v + 1) (omega arith), entry_in d known_one) its))
        (λ f.
        let other = eqb-false d c f in
        get_or-set_other values c d v 0 other ∙ so_far.right d l ∙ stays d (λ z. other (z ∙ sym e)));
  }

  pub laid_all : 40 ≤ v → values ≡ turned
  laid_all h =
      ext_get_or 0 values turned (so_far.size ∙ sym length_turned)
      (λ c l.
      let byte : c < 256 = omega (arith, so_far.size) in
      let low = lt-ltb (value_of c) v (omega (arith, value_range c)) in
      so_far.right c byte ∙ ap (λ b. pick b (entry_of c) 128) low ∙ sym (turned_at c byte))
