-- Country, signer and reference against the grammar: what is legal passes the tests, and its published form is read as it.
-- Assumes nothing.
use Rattle.std.specs.Prelude.{◌≡◌, refl, ◌⊎◌, Bool, true, ℕ, ◌+◌, ◌*◌, ◌/◌, ◌%◌, ◌≤◌, List, [], ◌∷◌, ◌++◌, map, ltb, eqb, length, take, drop}
use Rattle.std.proofs.Common.{ap, sym, subst, ◌∙◌, ⊎_elim, arith, lt-ltb, ne_eqb, append_assoc, length-append, take_at, drop_at}
use Rattle.std.proofs.Math.Option.{none}
use Rattle.format.specs.Choice.{pick, both, either}
use Rattle.format.specs.Hex.{hex_digit, hex_value}
use Rattle.format.proofs.Hex.Laws.{digit_value}
use Rattle.format.specs.Bytes.{All}
use Rattle.format.specs.Bytes.Laws.{all_append}
use Rattle.pairs.specs.Chart.{InChart}
use Rattle.c40.specs.Text.{TextOf, width, publish as c40}
use Rattle.c40.specs.Text.Laws.{length_publish as length_c40}
use Rattle.grammar.specs.Content.{Version, three, four}
use Rattle.grammar.specs.Publish.{carried, hex_digits}
use Rattle.grammar.specs.Publish as form
use Rattle.grammar.specs.Legal.{Letter, Filler, Country, Signer, ReferenceCharacter}
use Rattle.grammar.proofs.Parts.{country_text, signer_text, reference_text, Names as LegalNames, six, six_text, four_form}
use Rattle.fields.specs.Characters.Grammar.{letter, reference_passes, all_pass, signer_passes}
use Rattle.fields.specs.Characters.{is_letter, is_reference, all, is_country, is_signer, shown}
use Rattle.causes.specs.declared.Rule.TheVariants as rule
use Rattle.causes.specs.declared.Item.TheVariants as item
use Rattle.verdict.specs.Items.{is, next, pass, unless, field, in_country, country, in_nine, length_in, is_hex, in_six, in_reference, named}
use Rattle.verdict.specs.Items.{after, names}
use Rattle.verdict.proofs.Items.Laws.{field_there}

-- a letter is carried as it is and a filler as a space, and back
pub letter_carried : (c : ℕ) → Letter c → carried c ≡ c
letter_carried c l = ap (λ b. pick b 32 c) (ne_eqb c 60 (λ e. omega (arith, l.0)))

pub letter_shown : (c : ℕ) → Letter c → shown c ≡ c
letter_shown c l = ap (λ b. pick b 60 c) (ne_eqb c 32 (λ e. omega (arith, l.0)))

shown_carried : (c : ℕ) → Letter c ⊎ Filler c → shown (carried c) ≡ c
shown_carried c e =
    ⊎_elim (λ l. ap shown (letter_carried c l) ∙ letter_shown c l) (λ f. subst (λ x. shown (carried x) ≡ x) (sym f) refl) e

all_shown : (t : List ℕ) → All (λ c. Letter c ⊎ Filler c) t → map shown (map carried t) ≡ t
all_shown [] a = refl
all_shown (c ∷ t) a = ap (λ x. x ∷ map shown (map carried t)) (shown_carried c a.0) ∙ ap (λ u. c ∷ u) (all_shown t a.1)

-- the test of a country, by its three characters
abbrev third_in : ℕ → Bool
third_in c = either (is_letter c) (eqb c 32)

country_three :
    (a b c : ℕ) →
    Letter a →
    Letter b ⊎ Filler b →
    Letter c ⊎ Filler c →
    (Filler b → Filler c) →
    is_country 32 (carried a ∷ carried b ∷ carried c ∷ []) ≡ true
country_three a b c la eb ec f =
    ap (λ x. both x (rest (carried b) (carried c))) (ap is_letter (letter_carried a la) ∙ letter a la)
    ∙ ⊎_elim
    (λ lb.
    ap (λ x. rest x (carried c)) (letter_carried b lb)
    ∙ ap (λ x. either (both x (third_in (carried c))) (both (eqb b 32) (eqb (carried c) 32))) (letter b lb)
    ∙ ap (λ x. either x (both (eqb b 32) (eqb (carried c) 32))) (third ec))
    (λ fb. subst (λ x. rest (carried x) (carried c) ≡ true) (sym fb) (subst (λ x. rest 32 (carried x) ≡ true) (sym (f fb)) refl))
    eb
  where
    rest : ℕ → ℕ → Bool
    rest x y = either (both (is_letter x) (third_in y)) (both (eqb x 32) (eqb y 32))

    third : Letter c ⊎ Filler c → third_in (carried c) ≡ true
    third e =
        ⊎_elim (λ l. ap third_in (letter_carried c l) ∙ ap (λ x. either x (eqb c 32)) (letter c l))
        (λ g. subst (λ x. third_in (carried x) ≡ true) (sym g) refl) e

pub country_passes : (t : List ℕ) → Country t → is_country 32 (map carried t) ≡ true
country_passes [] l = let e = l.size in absurd (omega arith)
country_passes (a ∷ []) l = let e = l.size in absurd (omega arith)
country_passes (a ∷ b ∷ []) l = let e = l.size in absurd (omega arith)
country_passes (a ∷ b ∷ c ∷ []) l = country_three a b c l.first l.letters.1.0 l.letters.1.1.0 (l.filled 1 (omega arith))
country_passes (a ∷ b ∷ c ∷ d ∷ t) l = let e = l.size in absurd (omega arith)

pub country_there : (p t rest : List ℕ) → Country t → country (length p) (p ++ (c40 (map carried t) ++ rest)) ≡ is t (length p + 2)
country_there p t rest l =
    ap (λ i. pass i (λ t at. is (map shown t) at))
    (field_there 3 in_country p (map carried t) rest (country_text t l) (ap (λ b. unless b rule.CountryCode none) (country_passes t l)))
    ∙ ap (λ u. is u (length p + 2)) (all_shown t l.letters)

-- version 3: nine characters
pub names_three_there :
    (p s r rest : List ℕ) →
    LegalNames three (s, r) →
    names three (length p) (p ++ (c40 (s ++ r) ++ rest)) ≡ is (record { signer = s; reference = r }) (length p + 6)
names_three_there p s r rest l =
    let ss = signer_text s l.signer in
    let text : TextOf 9 (s ++ r) =
    (length-append s r ∙ omega (arith, ss.0, l.size), all_append InChart s r ss.1 (reference_text r l.reference)) in
    let first : is_signer (take 4 (s ++ r)) ≡ true = ap is_signer (take_at s r 4 ss.0) ∙ signer_passes s l.signer in
    let second : all is_reference (drop 4 (s ++ r)) ≡ true =
    ap (all is_reference) (drop_at s r 4 ss.0) ∙ all_pass ReferenceCharacter is_reference reference_passes r l.reference in
    let keeps : in_nine (s ++ r) ≡ none =
    ap (λ b. unless b rule.SignerCharacters (unless (all is_reference (drop 4 (s ++ r))) rule.ReferenceCharacters none)) first
    ∙ ap (λ b. unless b rule.ReferenceCharacters none) second in
    ap (λ i. next item.Names i (λ t at. is (record { signer = take 4 t; reference = drop 4 t }) at))
    (field_there 9 in_nine p (s ++ r) rest text keeps)
    ∙ ap (λ u. is (record { signer = u; reference = drop 4 (s ++ r) }) (length p + 6)) (take_at s r 4 ss.0)
    ∙ ap (λ u. is (record { signer = s; reference = u }) (length p + 6)) (drop_at s r 4 ss.0)

-- version 4: the first six characters, by the signer's four
pub six_length : (s : List ℕ) (n : ℕ) → length s ≡ 4 → n ≤ 255 → length_in (s ++ hex_digits n) ≡ n
six_length [] n e h = absurd (omega arith)
six_length (a ∷ []) n e h = absurd (omega arith)
six_length (a ∷ b ∷ []) n e h = absurd (omega arith)
six_length (a ∷ b ∷ c ∷ []) n e h = absurd (omega arith)
six_length (a ∷ b ∷ c ∷ d ∷ []) n e h =
    ap (λ x. x * 16 + hex_value (hex_digit (n % 16))) (digit_value (n / 16) (omega arith))
    ∙ ap (λ x. n / 16 * 16 + x) (digit_value (n % 16) (omega arith)) ∙ omega arith
six_length (a ∷ b ∷ c ∷ d ∷ x ∷ t) n e h = absurd (omega arith)

pub six_digits : (s : List ℕ) (n : ℕ) → length s ≡ 4 → n ≤ 255 → is_hex (s ++ hex_digits n) ≡ true
six_digits [] n e h = absurd (omega arith)
six_digits (a ∷ []) n e h = absurd (omega arith)
six_digits (a ∷ b ∷ []) n e h = absurd (omega arith)
six_digits (a ∷ b ∷ c ∷ []) n e h = absurd (omega arith)
six_digits (a ∷ b ∷ c ∷ d ∷ []) n e h =
    ap (λ x. both (ltb x 16) (ltb (hex_value (hex_digit (n % 16))) 16)) (digit_value (n / 16) (omega arith))
    ∙ ap (λ b. both b (ltb (hex_value (hex_digit (n % 16))) 16)) (lt-ltb (n / 16) 16 (omega arith))
    ∙ ap (λ x. ltb x 16) (digit_value (n % 16) (omega arith))
    ∙ lt-ltb (n % 16) 16 (omega arith)
six_digits (a ∷ b ∷ c ∷ d ∷ x ∷ t) n e h = absurd (omega arith)

six_keeps : (s : List ℕ) (n : ℕ) → Signer s → 1 ≤ n → n ≤ 255 → in_six (s ++ hex_digits n) ≡ none
six_keeps s n l some most =
    let t = s ++ hex_digits n in
    let length_rule_lem = unless (ltb 0 (length_in t)) rule.NotZero none in
    let signer : is_signer (take 4 t) ≡ true = ap is_signer (take_at s (hex_digits n) 4 l.size) ∙ signer_passes s l in
    let some_length : ltb 0 (length_in t) ≡ true = ap (λ k. ltb 0 k) (six_length s n l.size most) ∙ lt-ltb 0 n (omega arith) in
    ap (λ b. unless b rule.SignerCharacters (unless (is_hex t) rule.HexadecimalDigits length_rule_lem)) signer
    ∙ ap (λ b. unless b rule.HexadecimalDigits length_rule_lem) (six_digits s n l.size most)
    ∙ ap (λ b. unless b rule.NotZero none) some_length

pub names_four_there :
    (p s r rest : List ℕ) →
    LegalNames four (s, r) →
    names four (length p) (p ++ (form.names four s r ++ rest))
    ≡ is (record { signer = s; reference = r }) (length p + length (form.names four s r))
names_four_there p s r rest l =
    let n = length r in
    let x = six (s, r) in
    let text = six_text (s, r) l in
    let q = p ++ c40 x in
    let parts : p ++ (form.names four s r ++ rest) ≡ p ++ (c40 x ++ (c40 r ++ rest)) =
    ap (λ z. p ++ (z ++ rest)) (four_form (s, r) l) ∙ ap (λ z. p ++ z) (append_assoc (c40 x) (c40 r) rest) in
    let again : p ++ (c40 x ++ (c40 r ++ rest)) ≡ q ++ (c40 r ++ rest) = sym (append_assoc p (c40 x) (c40 r ++ rest)) in
    let wide : length q ≡ length p + 4 = length-append p (c40 x) ∙ ap (λ k. length p + k) (length_c40 x ∙ ap width text.0) in
    let all_wide : length p + 4 + width n ≡ length p + length (form.names four s r) =
    omega (arith, ap length (four_form (s, r) l), length-append (c40 x) (c40 r), length_c40 x, ap width text.0, length_c40 r) in
    let first = field_there 6 in_six p x (c40 r ++ rest) text (six_keeps s n l.signer l.size.0 l.size.1) in
    let second : field n in_reference (length p + 4) (p ++ (c40 x ++ (c40 r ++ rest))) ≡ is r (length p + 4 + width n) =
    ap (λ z. field n in_reference (length p + 4) z) again ∙ ap (λ k. field n in_reference k (q ++ (c40 r ++ rest))) (sym wide)
    ∙ field_there n in_reference q r rest (refl, reference_text r l.reference)
    (ap (λ b. unless b rule.ReferenceCharacters none) (all_pass ReferenceCharacter is_reference reference_passes r l.reference))
    ∙ ap (λ k. is r (k + width n)) wide in
    ap (names four (length p)) parts
    ∙ ap (λ i. next item.SignerAndLength i (after (p ++ (c40 x ++ (c40 r ++ rest))))) first
    ∙ ap (λ k. next (item.Reference (width k)) (field k in_reference (length p + 4) (p ++ (c40 x ++ (c40 r ++ rest)))) (named x))
    (six_length s n l.signer.size l.size.1)
    ∙ ap (λ i. next (item.Reference (width n)) i (named x)) second
    ∙ ap (λ u. is (record { signer = u; reference = r }) (length p + 4 + width n)) (take_at s (hex_digits n) 4 l.signer.size)
    ∙ ap (λ k. is (record { signer = s; reference = r }) k) all_wide

pub names_there :
    (v : Version) (p s r rest : List ℕ) →
    LegalNames v (s, r) →
    names v (length p) (p ++ (form.names v s r ++ rest)) ≡ is (record { signer = s; reference = r }) (length p + length (form.names v s r))
names_there three p s r rest l =
    let size : length (s ++ r) ≡ 9 = length-append s r ∙ omega (arith, l.signer.size, l.size) in
    names_three_there p s r rest l
    ∙ ap (λ k. is (record { signer = s; reference = r }) (length p + k)) (sym (length_c40 (s ++ r) ∙ ap width size))
names_there four p s r rest l = names_four_there p s r rest l
