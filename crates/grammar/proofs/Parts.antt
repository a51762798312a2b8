-- The law `Cut` of each part of a header: country, signer and reference.
-- Assumes nothing.
use Rattle.std.specs.Prelude.{◌≡◌, refl, ◌⊎◌, ℕ, ◌+◌, ◌*◌, ◌/◌, ◌%◌, ◌<◌, ◌≤◌, List, [], ◌∷◌, ◌++◌, map, ltb, eqb, length, take, drop, get_or}
use Rattle.std.proofs.Common.{ap, ap₂, sym, ◌∙◌, inl, inr, ⊎_elim, arith, ltb-true, ltb-false, eq-eqb, ne_eqb, append_assoc, length-append, length-drop, take-append-drop, take_at, drop_at, length-take-le}
use Rattle.std.proofs.lemmas.List.{length-map}
use Rattle.format.specs.Bytes.{All}
use Rattle.format.specs.Bytes.Laws.{all_append}
use Rattle.format.specs.Choice.{pick}
use Rattle.format.specs.Choice.Laws.{by_test}
use Rattle.format.specs.Cut.{Cut}
use Rattle.format.proofs.Cut.Laws.{cut_through}
use Rattle.format.specs.Hex.{hex_digit, hex_value}
use Rattle.format.proofs.Hex.Laws.{digit_value}
use Rattle.pairs.specs.Chart.{InChart}
use Rattle.pairs.specs.Chart.Laws.{letter_in, digit_in, space_in}
use Rattle.c40.specs.Text.{Text, TextOf, publish as c40}
use Rattle.c40.proofs.Exact.{three_ahead, cut_text}
use Rattle.grammar.specs.Content.{Version, three, four}
use Rattle.grammar.specs.Publish.{carried, hex_digits, names}
use Rattle.grammar.specs.Legal.{Letter, Digit, LetterOrDigit, Filler, Country, Signer, ReferenceCharacter, ReferenceSize}

-- a rule of each element goes through a map
all_map : (P Q : ℕ → Type 0) (f : ℕ → ℕ) → ((c : ℕ) → P c → Q (f c)) → (t : List ℕ) → All P t → All Q (map f t)
all_map P Q f g [] a = tt
all_map P Q f g (c ∷ t) a = (g c a.0, all_map P Q f g t a.1)

all_to : (P Q : ℕ → Type 0) → ((c : ℕ) → P c → Q c) → (t : List ℕ) → All P t → All Q t
all_to P Q g [] a = tt
all_to P Q g (c ∷ t) a = (g c a.0, all_to P Q g t a.1)

map_back : (P : ℕ → Type 0) (f g : ℕ → ℕ) → ((c : ℕ) → P c → g (f c) ≡ c) → (t : List ℕ) → All P t → map g (map f t) ≡ t
map_back P f g e [] a = refl
map_back P f g e (c ∷ t) a = λ i. e c a.0 i ∷ map_back P f g e t a.1 i

letter_or_digit_in : (c : ℕ) → LetterOrDigit c → InChart c
letter_or_digit_in c h = ⊎_elim (λ l. letter_in c l.0 l.1) (λ d. digit_in c d.0 d.1) h

-- Hexadecimal digits, in upper case: 002 gives a reference no other characters.
abbrev pub Hexadecimal : ℕ → Type 0
Hexadecimal c = ((65 ≤ c) × (c ≤ 70)) ⊎ Digit c

-- All that laws and examples use of the rule for a reference's characters: hexadecimal digits are among them, and they are letters
-- and digits.
hexadecimal_reference : (c : ℕ) → Hexadecimal c → ReferenceCharacter c
hexadecimal_reference c h = ⊎_elim (λ l. inl (omega (arith, l.0), omega (arith, l.1))) inr h

pub reference_letter_or_digit : (c : ℕ) → ReferenceCharacter c → LetterOrDigit c
reference_letter_or_digit c h = ⊎_elim (λ l. inl (omega (arith, l.0), omega (arith, l.1))) inr h

-- country: fillers as spaces, and back
uncarried : ℕ → ℕ
uncarried c = pick (eqb c 32) 60 c

carried_in : (c : ℕ) → Letter c ⊎ Filler c → InChart (carried c)
carried_in c h =
    ⊎_elim
    (λ l. rw (ne_eqb c 60 (λ e. omega arith)) (letter_in c l.0 l.1))
    (λ e. rw (eq-eqb c 60 e) space_in)
    h

carried_back : (c : ℕ) → Letter c ⊎ Filler c → uncarried (carried c) ≡ c
unfolding uncarried
carried_back c h =
    ⊎_elim
    (λ l. simp (ne_eqb c 60 (λ e. omega arith), ne_eqb c 32 (λ e. omega arith)))
    (λ e. simp (eq-eqb c 60 e) (sym e))
    h

pub country_text : (t : List ℕ) → Country t → TextOf 3 (map carried t)
country_text t c = (length-map t carried ∙ c.size, all_map _ InChart carried carried_in t c.letters)

pub cut_country : Cut Country (λ t. c40 (map carried t))
cut_country =
    cut_through (TextOf 3) c40 (cut_text 3) Country (map carried) (map uncarried) country_text
    (λ t c. map_back _ carried uncarried carried_back t c.letters)

-- signer and reference are text
four_of : (P : ℕ → Type 0) (t : List ℕ) → length t ≡ 4 → P (get_or t 0 0) → P (get_or t 1 0) → P (get_or t 2 0) → P (get_or t 3 0) → All P t
four_of P [] e a b c d = absurd (omega arith)
four_of P (x ∷ []) e a b c d = absurd (omega arith)
four_of P (x ∷ y ∷ []) e a b c d = absurd (omega arith)
four_of P (x ∷ y ∷ z ∷ []) e a b c d = absurd (omega arith)
four_of P (x ∷ y ∷ z ∷ w ∷ []) e a b c d = (a, (b, (c, (d, tt))))
four_of P (x ∷ y ∷ z ∷ w ∷ v ∷ t) e a b c d = absurd (omega arith)

pub signer_text : (t : List ℕ) → Signer t → TextOf 4 t
signer_text t s = (
  s.size,
  four_of InChart t s.size (letter_in _ s.first.0 s.first.1) (letter_in _ s.second.0 s.second.1)
      (letter_or_digit_in _ s.third) (letter_or_digit_in _ s.fourth),
)

pub hexadecimal_references : (t : List ℕ) → All Hexadecimal t → All ReferenceCharacter t
hexadecimal_references t a = all_to Hexadecimal ReferenceCharacter hexadecimal_reference t a

pub reference_text : (t : List ℕ) → All ReferenceCharacter t → Text t
reference_text t a = all_to ReferenceCharacter InChart (λ c h. letter_or_digit_in c (reference_letter_or_digit c h)) t a

-- the two digits of a length: in the chart, and they give the length
hex_digit_in : (n : ℕ) → n < 16 → InChart (hex_digit n)
hex_digit_in n h =
    by_test (ltb n 10)
    (λ e. rw e (digit_in (48 + n) (omega arith) (omega (arith, ltb-true n 10 e))))
    (λ e. rw e (letter_in (55 + n) (omega (arith, ltb-false n 10 e)) (omega arith)))

pub hex_text : (n : ℕ) → n ≤ 255 → Text (hex_digits n)
hex_text n h = (hex_digit_in (n / 16) (omega arith), (hex_digit_in (n % 16) (omega arith), tt))

given : List ℕ → ℕ
given t = 16 * hex_value (get_or t 0 0) + hex_value (get_or t 1 0)

given_back : (n : ℕ) → n ≤ 255 → given (hex_digits n) ≡ n
unfolding given
given_back n h = omega (arith, digit_value (n / 16) (omega arith), digit_value (n % 16) (omega arith))

-- six characters in front are two triples in front
six_ahead : (p u : List ℕ) → length p ≡ 6 → c40 (p ++ u) ≡ c40 p ++ c40 u
six_ahead p u e =
    let a = take 3 p in
    let b = drop 3 p in
    let la : length a ≡ 3 = length-take-le 3 p (omega arith) in
    let lb : length b ≡ 3 = length-drop 3 p ∙ omega arith in
    let whole : a ++ b ≡ p = take-append-drop 3 p in
    ap (λ q. c40 (q ++ u)) (sym whole) ∙ ap c40 (append_assoc a b u) ∙ three_ahead a (b ++ u) la ∙ ap (λ q. c40 a ++ q) (three_ahead b u lb)
    ∙ sym (append_assoc (c40 a) (c40 b) (c40 u)) ∙ ap (λ q. q ++ c40 u) (sym (three_ahead a b la) ∙ ap c40 whole)

-- signer and reference together
pub record Names (v : Version) (p : List ℕ × List ℕ) : Type 0 where
  pub signer : Signer p.0
  pub reference : All ReferenceCharacter p.1
  pub size : ReferenceSize v (length p.1)

-- what stands in front is equal where the sizes are
fronts : (k : ℕ) (a b c d : List ℕ) → length a ≡ k → length c ≡ k → a ++ b ≡ c ++ d → (a ≡ c) × (b ≡ d)
fronts k a b c d la lc e =
    (sym (take_at a b k la) ∙ ap (take k) e ∙ take_at c d k lc, sym (drop_at a b k la) ∙ ap (drop k) e ∙ drop_at c d k lc)

cut_three : Cut (Names three) (λ p. names three p.0 p.1)
cut_three a b t u la lb e =
    let text : (p : List ℕ × List ℕ) → Names three p → TextOf 9 (p.0 ++ p.1) =
    λ p n. let s = signer_text p.0 n.signer in (
      length-append p.0 p.1 ∙ ap₂ (λ x y. x + y) s.0 n.size,
      all_append InChart p.0 p.1 s.1 (reference_text p.1 n.reference),
    )
    in
    let c = cut_text 9 (a.0 ++ a.1) (b.0 ++ b.1) t u (text a la) (text b lb) e in
    let d = fronts 4 a.0 a.1 b.0 b.1 la.signer.size lb.signer.size c.0 in
    (λ i. (d.0 i, d.1 i), c.1)

-- version 4: six characters, which give the reference's length, and then the reference
abbrev pub six : List ℕ × List ℕ → List ℕ
six p = p.0 ++ hex_digits (length p.1)

pub six_text : (p : List ℕ × List ℕ) → Names four p → TextOf 6 (six p)
six_text p n =
    let s = signer_text p.0 n.signer in (
      length-append p.0 (hex_digits (length p.1)) ∙ ap (λ x. x + 2) s.0,
      all_append InChart p.0 (hex_digits (length p.1)) s.1 (hex_text (length p.1) n.size.1),
    )

pub four_form : (p : List ℕ × List ℕ) → Names four p → names four p.0 p.1 ≡ c40 (six p) ++ c40 p.1
four_form p n = six_ahead (p.0 ++ hex_digits (length p.1)) p.1 (six_text p n).0

cut_four : Cut (Names four) (λ p. names four p.0 p.1)
cut_four a b t u la lb e =
    let f : c40 (six a) ++ (c40 a.1 ++ t) ≡ c40 (six b) ++ (c40 b.1 ++ u) =
    sym (append_assoc (c40 (six a)) (c40 a.1) t)
    ∙ ap (λ z. z ++ t) (sym (four_form a la))
    ∙ e
    ∙ ap (λ z. z ++ u) (four_form b lb)
    ∙ append_assoc (c40 (six b)) (c40 b.1) u in
    let c = cut_text 6 (six a) (six b) (c40 a.1 ++ t) (c40 b.1 ++ u) (six_text a la) (six_text b lb) f in
    let d = fronts 4 a.0 (hex_digits (length a.1)) b.0 (hex_digits (length b.1)) la.signer.size lb.signer.size c.0 in
    let same : length a.1 ≡ length b.1 =
    sym (given_back (length a.1) la.size.1) ∙ ap given d.1 ∙ given_back (length b.1) lb.size.1 in
    let r = cut_text (length a.1) a.1 b.1 t u (refl, reference_text a.1 la.reference)
    (sym same, reference_text b.1 lb.reference) c.1 in
    (λ i. (d.0 i, r.0 i), r.1)

pub cut_names : (v : Version) → Cut (Names v) (λ p. names v p.0 p.1)
cut_names three = cut_three
cut_names four = cut_four
