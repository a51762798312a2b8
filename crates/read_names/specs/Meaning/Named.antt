-- Laws of country, signer and reference: each item from the fields that it has.
-- Assumes nothing.
use Rattle.std.specs.Prelude.{◌≡◌, true, ℕ, ◌+◌, ◌-◌, ◌*◌, ◌≤◌, ◌<◌, List, [], ◌∷◌, ◌++◌, map, ltb, length, take, drop, get_or, set}
use Rattle.std.proofs.Common.{ap, sym, subst, ◌∙◌, arith, ltb-true, length-drop, length-append, take_at, drop_at, length-take-le}
use Rattle.std.proofs.Math.Option.{none}
use Rattle.std.proofs.Math.ListN.{get_or-append}
use Rattle.std.proofs.lemmas.List.{take-append-le, drop-append-le}
use Rattle.c40.specs.Text.{width}
use Rattle.grammar.specs.Content.{three, four}
use Rattle.format.specs.Choice.Laws.{both_true, within_both}
use Rattle.format.specs.Hex.{hex_value}
use Rattle.fields.specs.Characters.{is_letter, is_signer, is_country, shown}
use Rattle.causes.specs.declared.Item.TheVariants as item
use Rattle.causes.specs.declared.Rule.{Rule}
use Rattle.causes.specs.declared.Rule.TheVariants as rule
use Rattle.verdict.specs.Items.{Way, is, not, why, next, pass, field, in_country, country, length_in, is_hex, in_six, in_nine, in_reference}
use Rattle.verdict.specs.Items.{named, after, names, Names}
use Rattle.verdict.proofs.Items.Fields.{letter_shown}
use Rattle.verdict.proofs.Items.FieldsSound.{field_keeps, kept_all}
use Rattle.read_items.specs.Meaning.{because, through}
use Rattle.read_items.specs.Meaning.Laws.{unread_on}
use Rattle.read_names.specs.Meaning.{measured}
use Rattle.read_items.specs.declared.cursor.Refusal.{Refusal}

-- the length that six characters give which were read: 1 to 255
six_size : (at : ℕ) (s t : List ℕ) (n : ℕ) → is t n ≡ field 6 in_six at s → (0 < length_in t) × (length_in t ≤ 255)
six_size at s t n e =
    let p = kept_all (is_signer (take 4 t)) rule.SignerCharacters _ (field_keeps 6 in_six at s t n (sym e)) in
    let q = kept_all (is_hex t) rule.HexadecimalDigits _ p.1 in
    let r = both_true (ltb (hex_value (get_or t 4 0)) 16) (ltb (hex_value (get_or t 5 0)) 16) q.0 in
    let some = kept_all (ltb 0 (length_in t)) rule.NotZero none q.1 in (
      ltb-true 0 (length_in t) some.0,
      omega (arith, ltb-true (hex_value (get_or t 4 0)) 16 r.0, ltb-true (hex_value (get_or t 5 0)) 16 r.1),
    )

-- the country, with fillers shown: the first character is a letter, and no filler
letter_in : (a b c : ℕ) → is_country 32 (a ∷ b ∷ c ∷ []) ≡ true → shown a ≡ a
letter_in a b c e = letter_shown a (within_both 65 90 a (both_true (is_letter a) _ e).0)

shown_three :
    (out : List ℕ) (x y : ℕ) →
    length out ≡ 3 →
    is_country 32 out ≡ true →
    x ≡ shown (get_or out 1 0) →
    y ≡ shown (get_or (set out 1 x) 2 0) →
    set (set out 1 x) 2 y ≡ map shown out
shown_three [] x y l p e f = absurd (omega arith)
shown_three (a ∷ []) x y l p e f = absurd (omega arith)
shown_three (a ∷ b ∷ []) x y l p e f = absurd (omega arith)
shown_three (a ∷ b ∷ c ∷ []) x y l p e f =
    ap (λ z. z ∷ x ∷ y ∷ []) (sym (letter_in a b c p)) ∙ ap (λ z. shown a ∷ z ∷ y ∷ []) e ∙ ap (λ z. shown a ∷ shown b ∷ z ∷ []) f
shown_three (a ∷ b ∷ c ∷ d ∷ t) x y l p e f = absurd (omega arith)

pub country_is : (at n : ℕ) (s out : List ℕ) (x y : ℕ) → length out ≡ 3 → is out n ≡ field 3 in_country at s → x ≡ shown (get_or out 1 0)
    → y ≡ shown (get_or (set out 1 x) 2 0) → is (set (set out 1 x) 2 y) n ≡ country at s
country_is at n s out x y l read e f =
    let p = (kept_all (is_country 32 out) rule.CountryCode none (field_keeps 3 in_country at s out n (sym read))).0 in
    ap (λ t. is t n) (shown_three out x y l p e f) ∙ ap (λ i. pass i (λ t at. is (map shown t) at)) read

pub country_not : (at : ℕ) (s : List ℕ) (rule : Rule) (place : ℕ) → not rule place ≡ field 3 in_country at s → not rule place ≡ country at s
country_not at s rule place e = ap (λ i. pass i (λ t at. is (map shown t) at)) e

-- names that were read, with the reference's length beside them
measured_is : (size n : ℕ) (names : Names) (i : Way Names) → length names.reference ≡ size → is names n ≡ i
    → is (record { length = size; names = names }) n ≡ through measured i
measured_is size n names i e read = ap (λ k. is (record { length = k; names = names }) n) (sym e) ∙ ap (through measured) read

-- version 3: nine characters at the start of a text
pub names_three : (at n : ℕ) (s t rest : List ℕ) → length t ≡ 9 → is t n ≡ field 9 in_nine at s
    → is (record { length = 5; names = record { signer = take 4 (t ++ rest); reference = take 5 (drop 4 (t ++ rest)) } }) n
    ≡ through measured (names three at s)
names_three at n s t rest l read =
    measured_is 5 n _ (names three at s)
    (length-take-le 5 (drop 4 (t ++ rest)) (omega (arith, length-drop 4 (t ++ rest), length-append t rest)))
    (ap (λ u. is (record { signer = u; reference = take 5 (drop 4 (t ++ rest)) }) n) (take-append-le 4 t rest (omega arith))
    ∙ ap (λ u. is (record { signer = take 4 t; reference = u }) n)
    (ap (take 5) (drop-append-le 4 t rest (omega arith)) ∙ take_at (drop 4 t) rest 5 (length-drop 4 t ∙ omega arith))
    ∙ ap (λ i. next item.Names i (λ t at. is (record { signer = take 4 t; reference = drop 4 t }) at)) read)

pub names_three_not : (at : ℕ) (s : List ℕ) (rule : Rule) (place : ℕ) (w : Refusal) → not rule place ≡ field 9 in_nine at s
    → w ≡ because (why item.Names rule) place
    → not w.why w.place ≡ through measured (names three at s)
names_three_not at s rule place w read e =
    ap (through measured)
    (unread_on item.Names (field 9 in_nine at s) (λ t at. is (record { signer = take 4 t; reference = drop 4 t }) at) rule place w e read)

-- version 4: six characters that were read at the start of a text, and the length that their digits give
pub record Six (at : ℕ) (s x : List ℕ) (m size : ℕ) : Type 0 where
  pub long : length x ≡ 6
  pub read : is x m ≡ field 6 in_six at s
  pub is_size_lem : size ≡ length_in x
  pub some : 0 < size
  pub most : size ≤ 255

pub six_there : (at : ℕ) (s x rest : List ℕ) (m h l : ℕ) → length x ≡ 6 → is x m ≡ field 6 in_six at s → h ≡ hex_value (get_or (x ++ rest) 4 0)
    → l ≡ hex_value (get_or (x ++ rest) 5 0) → Six at s x m (h * 16 + l)
six_there at s x rest m h l long read high low =
    let same : h * 16 + l ≡ length_in x =
    ap (λ k. k * 16 + l) (high ∙ ap hex_value (get_or-append x rest 0 4 (omega arith)))
    ∙ ap (λ k. hex_value (get_or x 4 0) * 16 + k) (low ∙ ap hex_value (get_or-append x rest 0 5 (omega arith))) in
    let size = six_size at s x m read in
    record {
      long = long;
      read = read;
      is_size_lem = same;
      some = subst (λ k. 0 < k) (sym same) size.0;
      most = subst (λ k. k ≤ 255) (sym same) size.1;
    }

-- the part of a text that the reference is put into
pub length_part : (t : List ℕ) (size : ℕ) → 4 + size ≤ length t → length (take (4 + size - 4) (drop 4 t)) ≡ size
length_part t size h =
    let e : 4 + size - 4 ≡ size = omega arith in
    ap (λ k. length (take k (drop 4 t))) e ∙ length-take-le size (drop 4 t) (omega (arith, length-drop 4 t))

module _ (at : ℕ) (s x : List ℕ) (m size : ℕ) (six : Six at s x m size) (k : ℕ) (asked : k ≡ size) where
  -- the reference's item is what is left of the names
  names_rest : next (item.Reference (width k)) (field k in_reference m s) (named x) ≡ names four at s
  names_rest =
      ap (λ j. next (item.Reference (width j)) (field j in_reference m s) (named x)) (asked ∙ six.is_size_lem)
      ∙ ap (λ i. next item.SignerAndLength i (after s)) six.read

  pub names_four : (y rest post : List ℕ) (n : ℕ) → length y ≡ size → is y n ≡ field k in_reference m s
      → is
      (record {
        length = size;
        names =
            record {
              signer = take 4 (take 4 (x ++ rest) ++ (y ++ post));
              reference = take size (drop 4 (take 4 (x ++ rest) ++ (y ++ post)));
            };
      })
      n
      ≡ through measured (names four at s)
  names_four y rest post n long read =
      let f = take 4 (x ++ rest) in
      let front : f ≡ take 4 x = take-append-le 4 x rest (omega (arith, six.long)) in
      let four_long : length f ≡ 4 = ap length front ∙ length-take-le 4 x (omega (arith, six.long)) in
      let back : take size (drop 4 (f ++ (y ++ post))) ≡ y =
      ap (take size) (drop_at f (y ++ post) 4 four_long) ∙ take_at y post size long in
      measured_is size n _ (names four at s) (ap length back ∙ long)
      (ap (λ u. is (record { signer = u; reference = take size (drop 4 (f ++ (y ++ post))) }) n) (take_at f (y ++ post) 4 four_long ∙ front)
      ∙ ap (λ u. is (record { signer = take 4 x; reference = u }) n) back
      ∙ ap (λ i. next (item.Reference (width k)) i (named x)) read
      ∙ names_rest)

  pub names_four_not : (rule : Rule) (place wide : ℕ) (w : Refusal) → not rule place ≡ field k in_reference m s
      → wide ≡ width size
      → w ≡ because (why (item.Reference wide) rule) place
      → not w.why w.place ≡ through measured (names four at s)
  names_four_not rule place wide w read same e =
      let item_is = ap (λ n. because (why (item.Reference n) rule) place) (same ∙ ap width (sym asked)) in
      ap (through measured)
      (unread_on (item.Reference (width k)) (field k in_reference m s) (named x) rule place w (e ∙ item_is) read ∙ names_rest)

pub names_six_not : (at : ℕ) (s : List ℕ) (rule : Rule) (place : ℕ) (w : Refusal) → not rule place ≡ field 6 in_six at s
    → w ≡ because (why item.SignerAndLength rule) place
    → not w.why w.place ≡ through measured (names four at s)
names_six_not at s rule place w read e =
    ap (through measured) (unread_on item.SignerAndLength (field 6 in_six at s) (after s) rule place w e read)
