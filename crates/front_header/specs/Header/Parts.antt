-- The items of a header: each is cut off the front of bytes in one way only; those of one byte, as far as they can be
-- completed; and what is asked of those of more.
-- Assumes nothing.
use Rattle.std.specs.Prelude.{◌≡◌, Bool, true, ℕ, ◌+◌, ◌-◌, ◌*◌, ◌/◌, ◌%◌, ◌<◌, ltb, eqb, length, Ok}
use Rattle.std.proofs.Math.Path.{refl, ap}
use Rattle.std.proofs.Common.{sym, ap₂, ◌∙◌, subst, inl, arith, ltb-true, ltb-false, eqb-true, eq-eqb}
use Rattle.std.proofs.Math.Bool.{false}
use mathlib.Core.List.{List, [], ◌∷◌}
use Rattle.std.proofs.Math.ListN.{get_or}
use Rattle.format.specs.Choice.{within}
use Rattle.format.specs.Choice.Laws.{by_test, not_true, within_both, within_true}
use Rattle.format.specs.Cut.{Cut}
use Rattle.format.proofs.Cut.Laws.{cut_byte}
use Rattle.format.specs.Hex.{hex_digit}
use Rattle.pairs.specs.Chart.{value_of, InChart}
use Rattle.pairs.specs.Chart.Laws.{value_digit, value_letter, value_range}
use Rattle.pairs.specs.Pairs.{packed_of, number, second, third}
use Rattle.pairs.proofs.Pairs.Laws.{triple_is}
use Rattle.pairs.specs.declared.decode.Pair.TheVariants.{Three}
use Rattle.c40.specs.Text.{Text, TextOf, publish as c40}
use Rattle.c40.specs.Text.Laws.{publish_pair}
use Rattle.c40.proofs.Exact.{cut_text}
use Rattle.dates.specs.Days.{Day, publish as date}
use Rattle.versions.proofs.Versions.Laws.{one_version}
use Rattle.versions.specs.Versions.{version_byte}
use Rattle.grammar.specs.Publish.{hex_digits}
use Rattle.grammar.specs.Legal.{Letter, LetterOrDigit, Country, LastByte}
use Rattle.grammar.proofs.Parts.{reference_text, hex_text}
use Rattle.front.specs.Front.{Begins, Longest}
use Rattle.front.proofs.Front.Laws.{longest_end, longest_stop}
use Rattle.front.specs.Items.{Item, Reader, longest_item, byte, Mark, AnyVersion, version_item, country_item}
use Rattle.front.specs.Items.{First, Characters, Counted, counted_item}
use Rattle.front_pairs.specs.Pairs.{pair_front, length_in}
use Rattle.front_pairs.specs.declared.Kind.TheVariants as kind
use Rattle.front_days.specs.Days.{day_front}
use Rattle.front_header.specs.Header.{byte_front}

-- what is asked of the pairs and the dates
pub record Readers : Type 0 where
  pub country : Reader Country country_item 2 (pair_front kind.Country)
  pub signer : Reader First c40 2 (pair_front kind.Signer)
  pub triple : Reader (Characters 3) c40 2 (pair_front kind.Triple)
  pub length : Reader Counted counted_item 2 (pair_front kind.Length)
  pub two : Reader (Characters 2) c40 2 (pair_front kind.Two)
  pub one : Reader (Characters 1) c40 2 (pair_front kind.One)
  pub day : Reader Day date 3 day_front

-- letters and digits are in the chart
in_chart_lem : (c : ℕ) → LetterOrDigit c → InChart c
in_chart_lem c h = (reference_text (c ∷ []) (h, tt)).0

-- a byte
pub byte_cut : (L : ℕ → Type 0) → Cut L byte
byte_cut L a b t u la lb e = cut_byte a b t u tt tt e

-- a version
pub version_cut : Cut AnyVersion version_item
version_cut v w t u lv lw e = let c = cut_byte (version_byte v) (version_byte w) t u tt tt e in (one_version v w c.0, c.1)

-- three characters, by place
pub three_listed : (t : List ℕ) → length t ≡ 3 → t ≡ get_or t 0 0 ∷ get_or t 1 0 ∷ get_or t 2 0 ∷ []
three_listed (a ∷ b ∷ c ∷ []) l = refl
three_listed [] l = absurd (omega arith)
three_listed (a ∷ []) l = absurd (omega arith)
three_listed (a ∷ b ∷ []) l = absurd (omega arith)
three_listed (a ∷ b ∷ c ∷ d ∷ x) l = absurd (omega arith)

-- the signer's first three characters
first_text : (t : List ℕ) → First t → TextOf 3 t
first_text t f =
    let e = three_listed t f.size in
    let l : (c : ℕ) → Letter c → InChart c = λ c h. in_chart_lem c (inl h) in
    (f.size, subst Text (sym e) (l (get_or t 0 0) f.first, (l (get_or t 1 0) f.second, (in_chart_lem (get_or t 2 0) f.third, tt))))

pub first_cut : Cut First c40
first_cut a b t u la lb e = cut_text 3 a b t u (first_text a la) (first_text b lb) e

-- letters and digits
pub characters_cut : (n : ℕ) → Cut (Characters n) c40
characters_cut n a b t u la lb e = cut_text n a b t u (la.0, reference_text a la.1) (lb.0, reference_text b lb.1) e

-- the value of a hexadecimal digit, in the chart
pub value_hex : (n : ℕ) → n < 16 → value_of (hex_digit n) ≡ n + 4
value_hex n h =
    by_test (ltb n 10)
    (λ e. let l = ltb-true n 10 e in rw e (omega (arith, value_digit (48 + n) (omega arith) (omega arith))))
    (λ e. let l = ltb-false n 10 e in rw e (omega (arith, value_letter (55 + n) (omega arith) (omega arith))))

-- the bytes of a pair of three characters
pair_bytes : (a b c : ℕ) → let n = packed_of (value_of a) (value_of b) (value_of c) in c40 (a ∷ b ∷ c ∷ []) ≡ (n / 256 % 256) ∷ (n % 256) ∷ []
pair_bytes a b c = publish_pair (Ok (Three a b c)) ∙ triple_is (value_of a) (value_of b) (value_of c)

-- the number of a pair of three values, and its second and third
number_back_lem : (a b c : ℕ) → a < 40 → b < 40 → c < 40 → let n = packed_of a b c in number (n / 256 % 256) (n % 256) ≡ n
number_back_lem a b c ha hb hc = omega arith

second_back : (a b c : ℕ) → b < 40 → c < 40 → second (packed_of a b c) ≡ b
second_back a b c hb hc = omega arith

third_back : (a b c : ℕ) → c < 40 → third (packed_of a b c) ≡ c
third_back a b c hc = omega arith

-- a number by its sixteens
by_sixteen : (n : ℕ) → 16 * (n / 16 + 4 - 4) + (n % 16 + 4 - 4) ≡ n
by_sixteen n = omega arith

-- the length that a pair gives is the one it is made of
pub length_back : (x : ℕ × ℕ) → Counted x → length_in (get_or (counted_item x) 0 0) (get_or (counted_item x) 1 0) ≡ x.1
length_back x l =
    let a = value_of x.0 in
    let b = value_of (hex_digit (x.1 / 16)) in
    let c = value_of (hex_digit (x.1 % 16)) in
    let p = value_hex (x.1 / 16) (omega arith) in
    let q = value_hex (x.1 % 16) (omega arith) in
    let r = value_range x.0 in
    let bytes = pair_bytes x.0 (hex_digit (x.1 / 16)) (hex_digit (x.1 % 16)) in
    let whole = number_back_lem a b c r.1 (omega arith) (omega arith) in
    let high = second_back a b c (omega arith) (omega arith) ∙ p in
    let low = third_back a b c (omega arith) ∙ q in
    ap (λ (t : List ℕ). length_in (get_or t 0 0) (get_or t 1 0)) bytes
    ∙ ap (λ (n : ℕ). 16 * (second n - 4) + (third n - 4)) whole
    ∙ ap₂ (λ (i : ℕ) (j : ℕ). 16 * (i - 4) + (j - 4)) high low
    ∙ by_sixteen x.1

-- the signer's last character and a length
counted_text : (x : ℕ × ℕ) → Counted x → TextOf 3 (x.0 ∷ hex_digits x.1)
counted_text x l = (refl, (in_chart_lem x.0 l.0, hex_text x.1 l.2))

pub counted_cut : Cut Counted counted_item
counted_cut a b t u la lb e =
    let c = cut_text 3 (a.0 ∷ hex_digits a.1) (b.0 ∷ hex_digits b.1) t u (counted_text a la) (counted_text b lb) e in
    let first : a.0 ≡ b.0 = ap (λ (x : List ℕ). get_or x 0 0) c.0 in
    let size : a.1 ≡ b.1 =
    sym (length_back a la) ∙ ap (λ (x : List ℕ). length_in (get_or (c40 x) 0 0) (get_or (c40 x) 1 0)) c.0 ∙ length_back b lb in
    (λ i. (first i, size i), c.1)

-- an item of one byte, by its test
module _ (L : ℕ → Type 0) (test : ℕ → Bool)
    (sound : (n : ℕ) → test n ≡ true → L n) (complete : (n : ℕ) → L n → test n ≡ true) (one : ℕ) (legal : L one) where
  -- there is one
  some_byte : Begins (Item L byte) []
  some_byte = (byte one, record { a = one; legal = legal; is = refl })

  -- how far
  byte_front_lem : (s : List ℕ) → Longest (Item L byte) s (byte_front test s)
  unfolding byte_front
  byte_front_lem [] = longest_end (Item L byte) some_byte
  byte_front_lem (b ∷ s) =
      by_test (test b)
      (λ e. rw e (longest_item L byte 1 (λ n l. refl) (b ∷ s) (omega arith) (record { a = b; legal = sound b e; is = refl })))
      (λ e. rw e (longest_stop (Item L byte) b s some_byte (λ w. never w e)))
    where
      never : Begins (Item L byte) (b ∷ []) → test b ≡ false → ⊥
      never w e =
          let same : w.1.a ≡ b = ap (λ (x : List ℕ). get_or x 0 0) w.1.is in
          not_true (sym e ∙ ap test (sym same) ∙ complete w.1.a w.1.legal)

  pub byte_reader : Reader L byte 1 (byte_front test)
  byte_reader = record { size = λ n l. refl; front = λ s b. byte_front_lem s }

-- the mark
pub mark_reader : Reader Mark byte 1 (byte_front (eqb 0xDC))
mark_reader = byte_reader Mark (eqb 0xDC) (λ n e. eqb-true 0xDC n e) (λ n e. eq-eqb 0xDC n e) 0xDC refl

-- definition reference and category
pub last_reader : Reader LastByte byte 1 (byte_front (within 1 254))
last_reader =
    byte_reader LastByte (within 1 254) (λ n e. within_both 1 254 n e) (λ n l. within_true 1 254 n l.0 l.1)
    1 (omega arith, omega arith)
