-- Laws of the laid out chart: a blank table, one entry more, what two entries that are not 0 say of a pair, and the text so far.
-- Assumes nothing.
use Rattle.std.specs.Prelude.{◌≡◌, refl, true, false, ℕ, zero, suc, ◌+◌, ◌-◌, ◌*◌, ◌/◌, ◌%◌, ◌^◌, ◌<◌, ◌≤◌, List, [], ◌∷◌, ◌++◌, eqb, ltb, length, get_or, set, take, drop, replicate, Result, Ok}
use Rattle.std.proofs.Common.{ap, sym, subst, ◌∙◌, arith, eqb-true, ne_eqb, ltb-true, ltb-false, append_assoc, length-append, length-take, length-drop, length-set, get_or-set_same, get_or-set_other, take_at, take_all, length-take-le}
use Rattle.std.proofs.lemmas.Bool.{eqb-false}
use Rattle.std.specs.Int.Bits.{bit_and}
use Rattle.std.proofs.lemmas.Nat.Bits.{and_high}
use Rattle.std.proofs.lemmas.List.{length-replicate, get_or-replicate, get_or-append_right, get_or-drop}
use Rattle.std.proofs.Math.ListN.{get_or-append}
use Rattle.format.specs.Answers.{Outcome, done, told, filled}
use Rattle.format.specs.Choice.Laws.{by_test}
use Rattle.format.specs.Buffer.{over}
use Rattle.format.proofs.Buffer.Laws.{over_three, length_over}
use Rattle.pairs.specs.Chart.{the_chart, char}
use Rattle.pairs.specs.Chart.Laws.{char_in_lem, char_below}
use Rattle.pairs.specs.Pairs.{number, first, second, third, pair_of, chars_of}
use Rattle.pairs.proofs.Pairs.Laws.{pair_values, values_three, by_pair}
use Rattle.pairs.specs.declared.decode.Fault.{Fault}
use Rattle.pairs.specs.declared.decode.Pair.{Pair}
use Rattle.pairs.specs.declared.decode.Pair.TheVariants.{Three}
use Rattle.c40.specs.Calls.{reading, reading_of}
use Rattle.c40.proofs.Calls.Laws.{fault_some, reading_wrong, reading_no_room, reading_done}
use Rattle.c40.specs.Decode.{Decoded, decode, text, wrong, ahead, follow, none}
use Rattle.c40.proofs.Decode.Laws.{sofar_start, sofar_more, follow_good, ahead_text, wrong_text}
use Rattle.std.specs.Prelude.{Ok}
use Rattle.c40_read_long.specs.Laid.{Sound, HeadAt, TailAt, Heads, Tails, Full, Come, Decodes}

module _ (Right : ℕ → ℕ → Type 0) (n : ℕ) where
  pub sound_blank : (t : List ℕ) → t ≡ replicate n 0 → Sound Right n t
  sound_blank t e = record {
    size = ap length e ∙ length-replicate n 0;
    right = λ i h some. let x : get_or t i 0 ≡ 0 = ap (λ l. get_or l i 0) e ∙ get_or-replicate n i 0 0 h in absurd (omega arith);
  }

  pub sound_set : (t : List ℕ) → Sound Right n t → (i x : ℕ) → i < n → (0 < x → Right i x) → Sound Right n (set t i x)
  sound_set t s i x h r = record {
    size = simp length-set s.size;
    right = λ j k some. by_test (eqb j i)
        (λ e. let f = eqb-true j i e in
        let g : get_or (set t i x) j 0 ≡ x = ap (λ m. get_or (set t i x) m 0) f ∙ get_or-set_same t i x 0 (omega (arith, s.size)) in
        subst (λ m. Right m (get_or (set t i x) j 0)) (sym f) (subst (λ y. Right i y) (sym g) (r (omega arith))))
        (λ e. let g : get_or (set t i x) j 0 ≡ get_or t j 0 = get_or-set_other t i j x 0 (eqb-false j i e) in
        subst (λ y. Right j y) (sym g) (s.right j k (omega arith)));
  }

-- a character of a value that is no shift is at most 90; a shift has none
pub char_small : (v : ℕ) → 3 ≤ v → v < 40 → char v < 91
char_small v h k = char_below (char v) (char_in_lem v h k)

pub char_some : (v : ℕ) → 0 < char v → 3 ≤ v
unfolding the_chart
char_some zero h = absurd (omega arith)
char_some (suc zero) h = absurd (omega arith)
char_some (suc (suc zero)) h = absurd (omega arith)
char_some (suc (suc (suc v))) h = omega arith

chart_size : length the_chart ≡ 40
unfolding the_chart
chart_size = refl

pub head_right : (a x : ℕ) → a < 40 → x ≡ char a → 0 < x → HeadAt a x
head_right a x k e some = (char_some a (omega arith), k, e)

-- the chart, and what stood behind it
pub heads_laid : (chart heads : List ℕ) → chart ≡ the_chart → Heads heads → Heads (chart ++ drop 40 heads)
heads_laid chart heads e h =
    let many : length chart ≡ 40 = ap length e ∙ chart_size in record {
      size = omega (arith, length-append chart (drop 40 heads), length-drop 40 heads, h.size);
      right = λ i k some. by_test (ltb i 40)
          (λ t. let low = ltb-true i 40 t in
          head_right i (get_or (chart ++ drop 40 heads) i 0) low
          (get_or-append chart (drop 40 heads) 0 i (omega arith) ∙ ap (λ l. get_or l i 0) e) some)
          (λ t. let high = ltb-false i 40 t in
          let back : 40 + (i - 40) ≡ i = omega arith in
          let is : get_or (chart ++ drop 40 heads) i 0 ≡ get_or heads i 0 =
          get_or-append_right chart (drop 40 heads) 40 i 0 many high ∙ get_or-drop 40 heads (i - 40) 0 ∙ ap (λ j. get_or heads j 0) back in
          subst (λ x. HeadAt i x) (sym is) (h.right i k (omega arith)));
    }

pub tail_right : (b c x : ℕ) → 3 ≤ b → b < 40 → 3 ≤ c → c < 40 → x ≡ char c * 256 + char b → TailAt (b * 40 + 1 + c) x
tail_right b c x hb kb hc kc e =
    let r = b * 40 + 1 + c in
    let fb : b ≡ (r - 1) / 40 = omega arith in
    let fc : c ≡ (r - 1) % 40 = omega arith in
    (omega arith, omega arith, omega arith, e ∙ (λ i. char (fc i) * 256 + char (fb i)))

-- the low byte and the high byte of a tail
both_bytes : (x b c : ℕ) → b < 91 → c < 91 → x ≡ c * 256 + b → (x % 256 ≡ b) × (x / 256 % 256 ≡ c)
both_bytes x b c hb hc e = (omega arith, omega arith)

-- a tail fits
pub tail_fits : (t : List ℕ) → Tails t → (r : ℕ) → r < 1601 → get_or t r 0 < 2 ^ 64
tail_fits t ts r h =
    by_test (eqb (get_or t r 0) 0)
    (λ e. omega (arith, eqb-true (get_or t r 0) 0 e))
    (λ e.
    let some : 0 < get_or t r 0 = omega (arith, eqb-false (get_or t r 0) 0 e) in
    let is = ts.right r h some in
    omega (arith, is.3, char_small ((r - 1) / 40) is.1 (omega arith), char_small ((r - 1) % 40) is.2 (omega arith)))

-- the sixteen hundreds of a number, by a product and a shift: those of one less; and the other two values by what they leave
module _ (n : ℕ) (low : 0 < n) (high : n < 65536) where
  pub hundreds : n * 41943 / 67108864 ≡ first n
  hundreds = omega arith

  pub second_left : (n - first n * 1600 - 1) / 40 ≡ second n
  second_left =
      let q = (n - 1) / 40 in
      let e : first n ≡ q / 40 = omega arith in
      let f : (n - first n * 1600 - 1) / 40 ≡ q - 40 * (q / 40) = omega arith in
      omega arith

  pub third_left : (n - first n * 1600 - 1) % 40 ≡ third n
  third_left = omega arith

-- two entries that are not 0 are the three characters of a pair that is not the last
module _
    (heads tails : List ℕ)
    (hs : Heads heads)
    (ts : Tails tails)
    (x y n : ℕ)
    (hx : x < 256)
    (hy : y < 256)
    (is_number : n ≡ number x y)
  where
    abbrev head_of : ℕ
    head_of = get_or heads (n * 41943 / 67108864) 0

    abbrev tail_of : ℕ
    tail_of = get_or tails (n - n * 41943 / 67108864 * 1600) 0

    pub full_pair : 0 < head_of → 0 < tail_of → pair_of the_chart false x y ≡ Ok (Three head_of (tail_of % 256) (tail_of / 256 % 256))
    full_pair ha hr =
        let m = number x y in
        let a = n * 41943 / 67108864 in
        let r = n - a * 1600 in
        let h = hs.right a (omega arith) ha in
        let t = ts.right r (omega arith) hr in
        let low : 0 < m = omega arith in
        let f : a ≡ first m = ap (λ k. k * 41943 / 67108864) is_number ∙ hundreds m low (omega arith) in
        let l : r ≡ m - first m * 1600 = omega arith in
        let b : (r - 1) / 40 ≡ second m = ap (λ k. (k - 1) / 40) l ∙ second_left m low (omega arith) in
        let c : (r - 1) % 40 ≡ third m = ap (λ k. (k - 1) % 40) l ∙ third_left m low (omega arith) in
        let cut =
        both_bytes tail_of (char ((r - 1) / 40)) (char ((r - 1) % 40)) (char_small ((r - 1) / 40) t.1 (omega arith))
        (char_small ((r - 1) % 40) t.2 (omega arith)) t.3 in
        sym (pair_values the_chart false x y low (omega arith))
        ∙ sym (values_three the_chart false (first m) (second m) (third m) (omega arith) (omega arith) (omega arith))
        ∙ (λ i. Ok (Three (sym (h.2 ∙ ap char f) i) (sym (cut.0 ∙ ap char b) i) (sym (cut.1 ∙ ap char c) i)))

    -- and three stores put them down
    pub full_put :
        (out : List ℕ) (at v w : ℕ) →
        at + 3 ≤ length out →
        0 < head_of →
        0 < tail_of →
        v ≡ tail_of % 256 →
        w ≡ tail_of / 256 % 256 →
        Full true x y out (set (set (set out at head_of) (at + 1) v) (at + 2) w) at
    full_put out at v w room ha hr ev ew e =
        let is = full_pair ha hr in (
          ap (λ p. length (chars_of p)) is,
          over_three out at head_of v w room ∙ (λ i. over out at (head_of ∷ ev i ∷ ew i ∷ [])) ∙ ap (λ p. over out at (chars_of p)) (sym is),
        )

-- the text so far: nothing yet
pub come_start : (bytes out : List ℕ) → length out ≡ 6144 → Come bytes 0 out 0
come_start bytes out whole = record { whole = whole; threes = refl; sofar = sofar_start bytes }

-- the same place, reckoned otherwise
pub come_same :
    {bytes out after : List ℕ} {i j at to : ℕ} →
    out ≡ after →
    i ≡ j →
    at ≡ to →
    Come bytes i out at →
    Come bytes j after to
come_same {bytes} e f g come = record {
  whole = ap length (sym e) ∙ come.whole;
  threes = omega (arith, come.threes);
  sofar = come.sofar ∙ (λ k. ahead (take (g k) (e k)) (decode (f k) (drop (f k) bytes)));
}

-- what stands up to the end of a write
take_over : (out : List ℕ) (at : ℕ) (p : List ℕ) → at + length p ≤ length out → take (at + length p) (over out at p) ≡ take at out ++ p
unfolding over
take_over out at p h =
    take_at (take at out ++ p) (drop (at + length p) out) (at + length p) (simp (length-append, length-take) (omega arith))

-- a pair that is not the last, and has three characters, put down at a place of the bytes: on to the next
pub come_more :
    (bytes : List ℕ) (i : ℕ) (out : List ℕ) (at : ℕ) →
    Come bytes i out at →
    (after : List ℕ) (k : ℕ) →
    k ≡ i + 1 →
    i + 2 < length bytes →
    at + 3 ≤ 6144 →
    (length (chars_of (pair_of the_chart false (get_or bytes i 0) (get_or bytes k 0))) ≡ 3)
    × (after ≡ over out at (chars_of (pair_of the_chart false (get_or bytes i 0) (get_or bytes k 0)))) →
    Come bytes (i + 2) after (at + 3)
come_more bytes i out at come after k next h room full =
    let p = pair_of the_chart false (get_or bytes i 0) (get_or bytes k 0) in
    let ends : eqb (i + 2) (length bytes) ≡ false = ne_eqb (i + 2) (length bytes) (λ e. omega arith) in
    let is : p ≡ pair_of the_chart (eqb (i + 2) (length bytes)) (get_or bytes i 0) (get_or bytes (i + 1) 0) =
    ap (λ j. pair_of the_chart false (get_or bytes i 0) (get_or bytes j 0)) next
    ∙ ap (λ l. pair_of the_chart l (get_or bytes i 0) (get_or bytes (i + 1) 0)) (sym ends) in
    let some : 0 < length (chars_of p) = omega (arith, full.0) in
    let reach : at + length (chars_of p) ≡ at + 3 = ap (λ j. at + j) full.0 in
    let fits : at + length (chars_of p) ≤ length out = omega (arith, come.whole) in
    let stands : take (at + 3) after ≡ take at out ++ chars_of p =
    ap (take (at + 3)) full.1 ∙ ap (λ j. take j (over out at (chars_of p))) (sym reach) ∙ take_over out at (chars_of p) fits in
    record {
      whole = ap length full.1 ∙ length_over out at (chars_of p) fits ∙ come.whole;
      threes = omega (arith, come.threes);
      sofar =
          sofar_more bytes i (take at out) come.sofar (omega arith) p is some
          ∙ ap (λ t. ahead t (decode (i + 2) (drop (i + 2) bytes))) (sym stands);
    }

-- bytes that decode as text do so from any place on
follow_from :
    (i j : ℕ) (p : Result Pair Fault) (d d' : Decoded) (t : List ℕ) →
    ((u : List ℕ) → d ≡ text u → d' ≡ text u) →
    follow i p d ≡ text t →
    follow j p d' ≡ text t
follow_from i j p d d' t same e =
    by_pair p
    (λ good.
    let u = ahead_text (chars_of p) d t (sym (follow_good i p d good) ∙ e) in
    follow_good j p d' good ∙ ap (ahead (chars_of p)) (same u.0 u.1) ∙ ap text u.2)
    (λ fault bad. absurd (wrong_text (ap (λ q. follow i q d) bad) e))

decode_from : (s : List ℕ) (i j : ℕ) (t : List ℕ) → decode i s ≡ text t → decode j s ≡ text t
unfolding decode
decode_from [] i j t e = e
decode_from (x ∷ []) i j t e = absurd (wrong_text refl e)
decode_from (x ∷ y ∷ s) i j t e =
    follow_from i j (pair_of the_chart (none s) x y) (decode (i + 2) s) (decode (j + 2) s) t (λ u. decode_from s (i + 2) (j + 2) u) e

-- what was read, where the answer is so many characters
pub record Read (s : List ℕ) (room count : ℕ) : Type 0 where
  pub chars : List ℕ
  pub is_text_lem : decode 0 s ≡ text chars
  pub is_done : reading s room ≡ done chars
  pub many : count ≡ length chars
  pub fits : count ≤ room

module _ (s : List ℕ) (room count : ℕ) (size : length s ≤ 4096) (even : length s % 2 ≡ 1 → ⊥) where
  pub read_done : reading_of (Ok count) ≡ told (reading s room) → Read s room count
  read_done e = by (decode 0 s) refl
    where
      told_number : {o : Outcome} → reading s room ≡ o → 0 ≡ o.number
      told_number f = ap (λ a. a.number) (e ∙ ap told f)

      by : (d : Decoded) → decode 0 s ≡ d → Read s room count
      by (wrong fault at) f = absurd (omega (arith, fault_some fault, told_number (reading_wrong s room size even fault at f)))
      by (text t) f =
          by_test (ltb room (length t))
          (λ short.
          let z = told_number (reading_no_room s room size even t f (ltb-true room (length t) short)) in
          absurd (omega (arith, z)))
          (λ there.
          let is = reading_done s room size even t f (ltb-false room (length t) there) in
          let many : count ≡ length t = ap (λ a. a.count) (e ∙ ap told is) in
          record { chars = t; is_text_lem = f; is_done = is; many = many; fits = omega (arith, ltb-false room (length t) there) })

-- characters in front, and then those that were read, at the start of what follows them
front_and_read :
    (front t past rest : List ℕ) (k : ℕ) →
    k ≡ length front + length t →
    let after = front ++ ((t ++ past) ++ rest) in
    (k ≤ length after) × (take k after ≡ front ++ t)
front_and_read front t past rest k h =
    let e : front ++ ((t ++ past) ++ rest) ≡ (front ++ t) ++ (past ++ rest) =
    ap (λ l. front ++ l) (append_assoc t past rest) ∙ sym (append_assoc front t (past ++ rest)) in
    let long : length (front ++ t) ≡ k = length-append front t ∙ sym h in
    (omega (arith, ap length e, length-append (front ++ t) (past ++ rest)), ap (take k) e ∙ take_at (front ++ t) (past ++ rest) k long)

-- the bytes from the place on are a text of their own, read into a part of the memory that starts where those before it end: all is read
pub come_last :
    (bytes : List ℕ) (i : ℕ) (out : List ℕ) (at : ℕ) →
    Come bytes i out at →
    at ≤ length out →
    (s lent part rest : List ℕ) (count : ℕ) →
    s ≡ drop i bytes →
    Read s (length lent) count →
    part ≡ filled (reading s (length lent)) lent →
    Decodes bytes (take at out ++ (part ++ rest)) (at + count)
come_last bytes i out at come inside s lent part rest count same read put =
    let t = read.chars in
    let whole =
    front_and_read (take at out) t (drop (length t) lent) rest (at + count) (omega (arith, length-take-le at out inside, read.many)) in
    let is : decode 0 bytes ≡ text (take at out ++ t) =
    come.sofar ∙ ap (ahead (take at out)) (ap (decode i) (sym same) ∙ decode_from s 0 i t read.is_text_lem) in
    subst (λ p. Decodes bytes (take at out ++ (p ++ rest)) (at + count)) (sym (put ∙ ap (λ o. filled o lent) read.is_done))
    (record { room = whole.0; is_text_lem = is ∙ ap text (sym whole.1) })

-- the last two bytes
module _ (bytes : List ℕ) (some : 2 ≤ length bytes) where
  pub last_is : take (length bytes - (length bytes - 2)) (drop (length bytes - 2) bytes) ≡ drop (length bytes - 2) bytes
  last_is =
      let n = length bytes - 2 in
      take_all (length bytes - n) (drop n bytes) (omega (arith, length-drop n bytes))

  pub last_two : length (take (length bytes - (length bytes - 2)) (drop (length bytes - 2) bytes)) ≡ 2
  last_two = ap length last_is ∙ length-drop (length bytes - 2) bytes ∙ omega arith

pub decodes_many : {bytes out : List ℕ} {count : ℕ} → Decodes bytes out count → length (take count out) ≡ count
decodes_many {bytes} {out} {count} d = length-take-le count out d.room

-- the second bit of an even number tells whether it is twice an odd one
second_bit : (n : ℕ) → n % 2 ≡ 0 → bit_and n 2 ≡ n % 4
second_bit n even =
    let m = n / 2 in
    let twice : n ≡ 2 * m = omega arith in
    let four : n % 4 ≡ m % 2 * 2 = omega arith in
    and_high n 1 1 ∙ sym four

pub bit_set : (n : ℕ) → n % 2 ≡ 0 → bit_and n 2 ≡ 2 → n % 4 ≡ 2
bit_set n even e = sym (second_bit n even) ∙ e

pub bit_clear : (n : ℕ) → n % 2 ≡ 0 → (bit_and n 2 ≡ 2 → ⊥) → n % 4 ≡ 0
bit_clear n even e =
    by_test (eqb (n % 4) 2)
    (λ t. absurd (e (second_bit n even ∙ eqb-true (n % 4) 2 t)))
    (λ t. omega (arith, eqb-false (n % 4) 2 t))
