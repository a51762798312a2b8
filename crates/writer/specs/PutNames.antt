-- Laws of country, signer and reference put down: the values of their characters, and their pairs one after another.
-- Assumes nothing.
use Rattle.std.specs.Prelude.{◌≡◌, refl, ℕ, ◌+◌, ◌-◌, ◌/◌, ◌%◌, ◌<◌, ◌≤◌, List, [], ◌∷◌, ◌++◌, ltb, length, get_or, take, drop, Ok}
use Rattle.std.proofs.Common.{ap, sym, subst, ◌∙◌, inl, arith, ltb-true, ltb-false, eq-eqb, ne_eqb, length-append, length-drop, take-append-drop, length-take-le, take_all, drop-drop}
use Rattle.format.specs.Bytes.{All}
use Rattle.format.specs.Bytes.Laws.{all_append, all_at, all_of}
use Rattle.format.specs.Choice.Laws.{by_test}
use Rattle.format.specs.Hex.{hex_digit}
use Rattle.format.proofs.Hex.Laws.{digit_figure, digit_letter}
use Rattle.format.specs.BigEndian.Laws.{length_be}
use Rattle.format.specs.Buffer.{over}
use Rattle.format.specs.Places.{at_place, first_four}
use Rattle.pairs.specs.Chart.{value_of}
use Rattle.pairs.specs.Chart.Laws.{value_space, value_digit, value_letter, value_range}
use Rattle.pairs.specs.Pairs.{packed_of, triple}
use Rattle.pairs.specs.declared.decode.Pair.TheVariants.{Three}
use Rattle.c40.specs.Text.{publish as c40}
use Rattle.c40.specs.Text.Laws.{length_publish, publish_three, publish_pair}
use Rattle.c40.proofs.Exact.{three_ahead}
use Rattle.grammar.specs.Content.{Version, three, four}
use Rattle.grammar.specs.Legal.{LetterOrDigit, ReferenceCharacter, Signer}
use Rattle.grammar.proofs.Parts.{reference_letter_or_digit, reference_text}
use Rattle.grammar.specs.Publish.{carried, names}
use Rattle.octets.specs.Copy.{copied, reached}
use Rattle.write_given.specs.Tests.Laws.{size_any, size_three, size_four}
use Rattle.write_text.specs.Coded.{coded}
use Rattle.write_text.specs.Coded.Laws.{text_put}
use Rattle.write_judge.specs.Needs.{Room, Named, spelled}
use Rattle.write_judge.specs.Needs.Laws.{named_legal}
use Rattle.write_judge.specs.Size.{names_three, names_four}
use Rattle.writer.specs.Together.{over_then, then_room}

-- a filler has the value of the space, and a letter of a country its own
pub filler_value : (c : ℕ) → c ≡ 60 → 3 ≡ value_of (carried c)
filler_value c e = rw (eq-eqb c 60 e) (value_space 32 (omega arith))

pub country_value : (c : ℕ) → 65 ≤ c → c < 91 → c - 51 ≡ value_of (carried c)
country_value c low high = rw (ne_eqb c 60 (λ e. omega arith)) (value_letter c low high)

-- a hexadecimal digit has a value 4 more than what it stands for
digit_value : (d : ℕ) → d < 16 → value_of (hex_digit d) ≡ d + 4
digit_value d h =
    by_test (ltb d 10)
    (λ e.
    let small = ltb-true d 10 e in
    ap value_of (sym (digit_figure d small)) ∙ sym (value_digit (48 + d) (omega arith) (omega arith)) ∙ omega arith)
    (λ e.
    let large = ltb-false d 10 e in
    ap value_of (sym (digit_letter d large)) ∙ sym (value_letter (55 + d) (omega arith) (omega arith)) ∙ omega arith)

-- every value is below 40
pub value_below : (v c : ℕ) → v ≡ value_of c → v < 40
value_below v c e = omega (arith, value_range c)

-- three values are the pair of their characters
pub three_form : (x y z a b c : ℕ) → x ≡ value_of a → y ≡ value_of b → z ≡ value_of c → triple x y z ≡ c40 (a ∷ b ∷ c ∷ [])
three_form x y z a b c e f g = (λ i. triple (e i) (f i) (g i)) ∙ sym (publish_pair (Ok (Three a b c)))

-- three characters from a place on
pub three_at : (t : List ℕ) (i : ℕ) → i + 3 ≤ length t → get_or t i 0 ∷ get_or t (i + 1) 0 ∷ get_or t (i + 2) 0 ∷ [] ≡ take 3 (drop i t)
three_at t i h =
    let two : i + 1 + 1 ≡ i + 2 = omega arith in
    sym
    (ap (take 3)
    (at_place t i 0 (omega arith)
    ∙ ap (λ s. get_or t i 0 ∷ s)
    (at_place t (i + 1) 0 (omega arith)
    ∙ ap (λ s. get_or t (i + 1) 0 ∷ s) (ap (λ k. drop k t) two ∙ at_place t (i + 2) 0 (omega arith)))))

-- they are a pair in front of the rest
ahead : (t : List ℕ) (i : ℕ) → i + 3 ≤ length t → c40 (drop i t) ≡ c40 (take 3 (drop i t)) ++ c40 (drop (i + 3) t)
ahead t i h =
    ap c40 (sym (take-append-drop 3 (drop i t)))
    ∙ three_ahead (take 3 (drop i t)) (drop 3 (drop i t)) (length-take-le 3 (drop i t) (omega (arith, length-drop i t)))
    ∙ ap (λ l. c40 (take 3 (drop i t)) ++ c40 l) (drop-drop 3 i t)

-- a judged text is letters and digits
pub named_letters : (v : Version) (t : List ℕ) → Named v t → All LetterOrDigit t
named_letters v t n =
    let legal = named_legal v t n in
    subst (All LetterOrDigit) (take-append-drop 4 t)
    (all_append LetterOrDigit (take 4 t) (drop 4 t) (signer (take 4 t) legal.signer) (reference (drop 4 t) legal.reference))
  where
    signer : (s : List ℕ) → Signer s → All LetterOrDigit s
    signer s is =
        subst (All LetterOrDigit) (first_four s (omega (arith, is.size)) ∙ take_all 4 s (omega (arith, is.size)))
        (inl is.first, (inl is.second, (is.third, (is.fourth, tt))))

    reference : (s : List ℕ) → All ReferenceCharacter s → All LetterOrDigit s
    reference s a = all_of LetterOrDigit 0 s (λ i h. reference_letter_or_digit (get_or s i 0) (all_at ReferenceCharacter 0 s a i h))

-- the pairs after the first: in version 4 the signer's last character and the reference's length, then the reference
abbrev after : Version → List ℕ → List ℕ
after three t = c40 (drop 3 t)
after four t = triple (value_of (get_or t 3 0)) ((length t - 4) / 16 + 4) ((length t - 4) % 16 + 4) ++ c40 (drop 4 t)

four_pairs : (t : List ℕ) → 4 ≤ length t → length t ≤ 259 → c40 (spelled t) ≡ c40 (take 3 t) ++ after four t
four_pairs [] h m = absurd (omega arith)
four_pairs (a ∷ []) h m = absurd (omega arith)
four_pairs (a ∷ b ∷ []) h m = absurd (omega arith)
four_pairs (a ∷ b ∷ c ∷ []) h m = absurd (omega arith)
four_pairs (a ∷ b ∷ c ∷ d ∷ r) h m =
    let n = length (a ∷ b ∷ c ∷ d ∷ r) - 4 in
    let same : length r ≡ n = omega arith in
    let high : value_of (hex_digit (length r / 16)) ≡ n / 16 + 4 =
    digit_value (length r / 16) (omega arith) ∙ ap (λ k. k / 16 + 4) same in
    let low : value_of (hex_digit (length r % 16)) ≡ n % 16 + 4 =
    digit_value (length r % 16) (omega arith) ∙ ap (λ k. k % 16 + 4) same in
    publish_three a b c (d ∷ hex_digit (length r / 16) ∷ hex_digit (length r % 16) ∷ r)
    ∙ ap (λ l. triple (value_of a) (value_of b) (value_of c) ++ l) (publish_three d (hex_digit (length r / 16)) (hex_digit (length r % 16)) r)
    ∙ (λ i. sym (publish_pair (Ok (Three a b c))) i ++ (triple (value_of d) (high i) (low i) ++ c40 r))

names_pairs : (v : Version) (t : List ℕ) → Named v t → names v (take 4 t) (drop 4 t) ≡ c40 (take 3 t) ++ after v t
names_pairs three t n =
    let nine = size_three three (length t) refl n.size in
    names_three three t refl ∙ ahead t 0 (omega arith)
names_pairs four t n =
    let many = size_four four (length t) refl n.size in
    names_four four t refl ∙ four_pairs t (omega arith) many.1

-- a pair put down, and what comes after it
module _ (out : List ℕ) (at : ℕ) (p q : List ℕ) (two : length p ≡ 2) (room : Room out at (p ++ q)) where
  pair_here : at + 2 ≤ length out
  pair_here = omega (arith, length-append p q)

  module _ (out1 : List ℕ) (at1 : ℕ) (e : at1 ≡ at + 2) (o : out1 ≡ over out at p) where
    past : at1 ≡ at + length p
    past = omega arith

    pair_room : Room out1 at1 q
    pair_room = then_room out at p q out1 at1 room o past

    pair_then : (to : ℕ) (put : List ℕ) → to ≡ at1 + length q → put ≡ over out1 at1 q
        → (to ≡ at + length (p ++ q)) × (put ≡ over out at (p ++ q))
    pair_then to put et ep = (omega (arith, length-append p q), over_then out at p q out1 at1 put room o past ep)

two_three : (t : List ℕ) → length t ≡ 3 → length (c40 t) ≡ 2
two_three t e = omega (arith, length_publish t)

-- the names put down: the first pair, and by version what comes after it
module _ (v : Version) (t out : List ℕ) (at : ℕ) (n : Named v t) (room : Room out at (names v (take 4 t) (drop 4 t))) where
  names_size_lem : (5 ≤ length t) × (length t ≤ 259)
  names_size_lem = size_any v (length t) n.size

  first_two : length (c40 (take 3 t)) ≡ 2
  first_two = two_three (take 3 t) (length-take-le 3 t (omega (arith, names_size_lem.0)))

  in_pairs : Room out at (c40 (take 3 t) ++ after v t)
  in_pairs = subst (Room out at) (names_pairs v t n) room

  pub names_first : at + 2 ≤ length out
  names_first = pair_here out at (c40 (take 3 t)) (after v t) first_two in_pairs

  module _ (out1 : List ℕ) (at1 : ℕ) (e1 : at1 ≡ at + 2) (o1 : out1 ≡ over out at (c40 (take 3 t))) where
    past_first : Room out1 at1 (after v t)
    past_first = pair_room out at (c40 (take 3 t)) (after v t) first_two in_pairs out1 at1 e1 o1

    together : (w : Version) → v ≡ w → (to : ℕ) (put : List ℕ) → to ≡ at1 + length (after w t) → put ≡ over out1 at1 (after w t)
        → (to ≡ at + length (names v (take 4 t) (drop 4 t))) × (put ≡ over out at (names v (take 4 t) (drop 4 t)))
    together w is to put et ep =
        let same : after w t ≡ after v t = ap (λ u. after u t) (sym is) in
        let all =
        pair_then out at (c40 (take 3 t)) (after v t) first_two in_pairs out1 at1 e1 o1 to put (et ∙ ap (λ l. at1 + length l) same)
        (ep ∙ ap (over out1 at1) same) in
        let whole = sym (names_pairs v t n) in
        (all.0 ∙ ap (λ l. at + length l) whole, all.1 ∙ ap (over out at) whole)

    -- version 3: two pairs more
    module _ (is : v ≡ three) where
      nine : length t ≡ 9
      nine = size_three v (length t) is n.size

      abbrev second : List ℕ
      second = c40 (take 3 (drop 3 t))

      abbrev third : List ℕ
      third = c40 (take 3 (drop 6 t))

      second_two : length second ≡ 2
      second_two = two_three (take 3 (drop 3 t)) (length-take-le 3 (drop 3 t) (omega (arith, length-drop 3 t, nine)))

      third_two : length third ≡ 2
      third_two = two_three (take 3 (drop 6 t)) (length-take-le 3 (drop 6 t) (omega (arith, length-drop 6 t, nine)))

      two_pairs : after three t ≡ second ++ third
      two_pairs =
          ahead t 3 (omega (arith, nine))
          ∙ ap (λ l. second ++ c40 l) (sym (take_all 3 (drop 6 t) (omega (arith, length-drop 6 t, nine))))

      second_room : Room out1 at1 (second ++ third)
      second_room = subst (Room out1 at1) (ap (λ w. after w t) is ∙ two_pairs) past_first

      pub names_second : at1 + 2 ≤ length out1
      names_second = pair_here out1 at1 second third second_two second_room

      module _ (out2 : List ℕ) (at2 : ℕ) (e2 : at2 ≡ at1 + 2) (o2 : out2 ≡ over out1 at1 (c40 (take 3 (drop 3 t)))) where
        pub names_third : at2 + 2 ≤ length out2
        names_third = omega (arith, pair_room out1 at1 second third second_two second_room out2 at2 e2 o2, third_two)

        pub put_nine : (at3 : ℕ) (out3 : List ℕ) → at3 ≡ at2 + 2 → out3 ≡ over out2 at2 (c40 (take 3 (drop 6 t)))
            → (at3 ≡ at + length (names v (take 4 t) (drop 4 t))) × (out3 ≡ over out at (names v (take 4 t) (drop 4 t)))
        put_nine at3 out3 e3 o3 =
            let both =
            pair_then out1 at1 second third second_two second_room out2 at2 e2 o2 at3 out3 (omega (arith, third_two)) o3 in
            together three is at3 out3 (both.0 ∙ ap (λ l. at1 + length l) (sym two_pairs)) (both.1 ∙ ap (over out1 at1) (sym two_pairs))

    -- version 4: the signer's last character with the reference's length, then the reference
    module _ (is : v ≡ four) where
      abbrev numbered : List ℕ
      numbered = triple (value_of (get_or t 3 0)) ((length t - 4) / 16 + 4) ((length t - 4) % 16 + 4)

      numbered_two : length numbered ≡ 2
      unfolding triple
      numbered_two = length_be 2 (packed_of (value_of (get_or t 3 0)) ((length t - 4) / 16 + 4) ((length t - 4) % 16 + 4))

      reference_room : Room out1 at1 (numbered ++ c40 (drop 4 t))
      reference_room = subst (Room out1 at1) (ap (λ w. after w t) is) past_first

      pub names_length : at1 + 2 ≤ length out1
      names_length = pair_here out1 at1 numbered (c40 (drop 4 t)) numbered_two reference_room

      module _ (d low : ℕ) (ed : d ≡ value_of (get_or t 3 0)) (el : low ≡ (length t - 4) % 16) (out2 : List ℕ) (at2 : ℕ) (e2 : at2 ≡ at1 + 2)
          (put : out2 ≡ over out1 at1 (triple d ((length t - 4) / 16 + 4) (low + 4))) where
        o2 : out2 ≡ over out1 at1 numbered
        o2 = put ∙ (λ i. over out1 at1 (triple (ed i) ((length t - 4) / 16 + 4) (el i + 4)))

        left_room : Room out2 at2 (c40 (drop 4 t))
        left_room = pair_room out1 at1 numbered (c40 (drop 4 t)) numbered_two reference_room out2 at2 e2 o2

        pub put_reference : (left : List ℕ) → left ≡ drop 4 t → (to : ℕ) (end : List ℕ)
            → to ≡ reached (coded left) (length out2) at2
            → end ≡ copied (coded left) out2 at2
            → (to ≡ at + length (names v (take 4 t) (drop 4 t))) × (end ≡ over out at (names v (take 4 t) (drop 4 t)))
        put_reference left is_left to end et ee =
            let last =
            text_put (drop 4 t) out2 at2 to end (reference_text (drop 4 t) (named_legal v t n).reference) left_room
            (et ∙ ap (λ l. reached (coded l) (length out2) at2) is_left)
            (ee ∙ ap (λ l. copied (coded l) out2 at2) is_left) in
            let both =
            pair_then out1 at1 numbered (c40 (drop 4 t)) numbered_two reference_room out2 at2 e2 o2 to end last.0 last.1 in
            together four is to end both.0 both.1
