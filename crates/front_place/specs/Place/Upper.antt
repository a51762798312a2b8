-- Where a rule of bytes that are there is broken, no seal has the bytes that are judged: by items and rules.
-- Assumes nothing.
use Rattle.std.specs.Prelude.{◌≡◌, refl, List, [], ◌∷◌, ◌++◌, ℕ, ◌+◌, ◌/◌, ◌%◌, ◌≤◌, ◌<◌, ltb, length, take, drop, get_or}
use Rattle.std.proofs.Common.{sym, ap, ◌∙◌, subst, append_assoc, arith, ltb-true, ltb-false, length-drop, take-add, length-take-le}
use Rattle.format.specs.Bytes.{All, Bytes}
use Rattle.format.specs.Choice.Laws.{by_test}
use Rattle.format.specs.Hex.{hex_digit, hex_value}
use Rattle.format.proofs.Hex.Laws.{digit_value}
use Rattle.c40.specs.Text.{width}
use Rattle.grammar.specs.Content.{three, four}
use Rattle.grammar.specs.Publish.{hex_digits}
use Rattle.grammar.specs.Legal.{LetterOrDigit, SignatureSize}
use Rattle.rules.specs.Rules.{Carries, Digits, Rule, Keeps, Placed, called, size_of, der_size}
use Rattle.rules.specs.Layout.{Item, rules_of, At}
use Rattle.front.specs.Front.{Sealed, Longest}
use Rattle.front.proofs.Front.Laws.{begins_take}
use Rattle.front_header.specs.Header.Languages.{Issued, Signed, Definition, Category, Rest}
use Rattle.front_place.specs.Place.{OfBytes}
use Rattle.front_place.specs.Place.State.{State}
use Rattle.front_place.specs.Place.Names.{both_carried}
use Rattle.front_place.specs.Place.Steps.{known_at, leaves_at}
use Rattle.front_place.specs.Place.Kept.{Ahead, Nine, Six, country_ahead, names_ahead, length_ahead, reference_ahead, part, Whole}
use Rattle.front_place.specs.Place.Kept.{mark_kept, version_kept, country_kept, day_kept, last_kept, text_kept}
use Rattle.front_place.specs.Place.Wrong.{not_wrong}
use Rattle.front_place.specs.Place.Forms.{Length, tagged_length, sig_length, begins_kept, shortest_kept, size_kept}
use Rattle.front_place.specs.Place.Forms.{tag_kept, end_none}

-- each rule of a list has a property, if those before it are kept
abbrev pub Each : (Rule → Type 0) → (Rule → Type 0) → List Rule → Type 0
Each K P [] = Unit
Each K P (r ∷ rules) = P r × (K r → Each K P rules)

-- and so has the rule behind some that are kept
pub each_at :
    (K P : Rule → Type 0) (earlier : List Rule) (rule : Rule) (later rules : List Rule) →
    earlier ++ (rule ∷ later) ≡ rules →
    All K earlier →
    Each K P rules →
    P rule
each_at K P [] rule later [] e a x = let z : ◌≡◌ {A = ℕ} 0 1 = cc in absurd (omega arith)
each_at K P [] rule later (r ∷ rules) e a x = let same : r ≡ rule = cc in subst P same x.0
each_at K P (y ∷ earlier) rule later [] e a x = let z : ◌≡◌ {A = ℕ} 0 1 = cc in absurd (omega arith)
each_at K P (y ∷ earlier) rule later (r ∷ rules) e a x =
    let same : y ≡ r = cc in
    each_at K P earlier rule later rules (cc) a.1 (x.1 (subst K same a.0))

-- two digits that are not 00
not_zero_lem : (n : ℕ) → 1 ≤ n → n ≤ 255 → hex_digits n ≡ hex_digits 0 → ⊥
not_zero_lem n low high e =
    let one : hex_digit (n / 16) ≡ hex_digit 0 = ap (λ (x : List ℕ). get_or x 0 0) e in
    let two : hex_digit (n % 16) ≡ hex_digit 0 = ap (λ (x : List ℕ). get_or x 1 0) e in
    let back : (m : ℕ) → m < 16 → hex_digit m ≡ hex_digit 0 → m ≡ 0 =
    λ m h f. sym (digit_value m h) ∙ ap hex_value f ∙ digit_value 0 (omega arith) in
    omega (arith, back (n / 16) (omega arith) one, back (n % 16) (omega arith) two)

-- the length that stands at a place is not 00
some_digits : (s : List ℕ) (p : ℕ) → Carries s p 6 Six → Carries s p 6 (Digits 0) → ⊥
some_digits s p c z =
    let both = (both_carried s p 6 Six (Digits 0) c z).3 in
    let six = both.0 in
    not_zero_lem six.1 six.2 six.3.0 (sym six.3.1 ∙ both.1.1)

-- what does not end here goes on
some_left : (s : List ℕ) (p : ℕ) → (length s ≤ p → ⊥) → p + 1 ≤ length s
some_left s p more =
    by_test (ltb p (length s)) (λ e. omega (arith, ltb-true p (length s) e)) (λ e. absurd (more (ltb-false p (length s) e)))

-- a rule is told rightly: the front part ends before the last byte judged, and the bytes judged are there
abbrev pub Right : List ℕ → ℕ → ℕ → Rule → Type 0
Right s k p rule =
    (place : ℕ) →
    Placed s p rule place →
    (Keeps s p rule → ⊥) →
    OfBytes (called rule) →
    (k < place + size_of s p rule) × (place + size_of s p rule ≤ length s)

module _ (s : List ℕ) (b : Bytes s) (k : ℕ) (l : Longest Sealed s k) where
  -- the front part goes on from an item
  goes_on_lem : {i : Item} {p : ℕ} → At s i p → (n : ℕ) → p + n ≤ k → (r : List ℕ) × State i p (part s p n ++ r)
  goes_on_lem {i} {p} w n h =
      let g = begins_take Sealed (p + n) k s h l.begun in
      let e : take (p + n) s ++ g.0 ≡ take p s ++ (part s p n ++ g.0) =
      ap (λ (x : List ℕ). x ++ g.0) (take-add p n s) ∙ append_assoc (take p s) (part s p n) g.0 in
      (g.0, (leaves_at s b w).to (part s p n ++ g.0) (subst Sealed e g.1))

  -- bytes that are there
  whole : (p n : ℕ) → p + n ≤ length s → Whole s p n
  whole p n h = length-take-le n (drop p s) (omega (arith, length-drop p s))

  -- where so many bytes cannot go on, the front part ends before
  short : {i : Item} {p : ℕ} → At s i p → (n : ℕ) → (Whole s p n → (r : List ℕ) → State i p (part s p n ++ r) → ⊥) → k < p + n
  short {i} {p} w n never =
      by_test (ltb k (p + n))
      (λ e. ltb-true k (p + n) e)
      (λ e.
      let h = ltb-false k (p + n) e in
      let g = goes_on_lem w n h in
      absurd (never (whole p n (omega (arith, l.within))) g.0 g.1))

  -- a rule that bytes keep which go on, of bytes from the item's first on
  here :
      {i : Item} {p : ℕ} {K : Type 0} →
      At s i p →
      (n : ℕ) →
      p + n ≤ length s →
      (Whole s p n → (r : List ℕ) → State i p (part s p n ++ r) → K) →
      (K → ⊥) →
      (place : ℕ) →
      place ≡ p →
      (k < place + n) × (place + n ≤ length s)
  here w n t keep broken place e = let h = short w n (λ h r x. broken (keep h r x)) in (omega arith, omega arith)

  -- text that is wrongly coded
  coded :
      {i : Item} {p : ℕ} →
      At s i p →
      (n : ℕ) (P : List ℕ → Type 0) →
      ((t : List ℕ) → State i p t → Ahead n P t) →
      p + width n ≤ length s →
      Right s k p (Rule.well_coded n)
  coded {i} {p} w n P text t place (j, e, f) broken of =
      let size = whole p (width n) t in
      let h = short w (j + 2) (λ h r x. not_wrong s p n j P size f h r (text (part s p (j + 2) ++ r) x)) in
      (omega arith, omega (arith, f.inside))

  -- bytes are missing, or there are too many
  missing : (p n : ℕ) → Right s k p (Rule.there n)
  missing p n place e broken of = absurd (of.0 refl)

  -- the lengths of version 4: what goes on begins with one
  module _ {i : Item} {p : ℕ} (w : At s i p) (P : ℕ → Type 0) (length_of_lem : (t : List ℕ) → State i p t → Length P t) where
    begins_right : p + 1 ≤ length s → Right s k p Rule.begins_length
    begins_right t place e broken of = here w 1 t (λ h r x. begins_kept s p P h r (length_of_lem (part s p 1 ++ r) x)) broken place e

    shortest_right : p + der_size s p ≤ length s → Right s k p Rule.shortest
    shortest_right t place e broken of =
        here w (der_size s p) t (λ h r x. shortest_kept s p P h r (length_of_lem (part s p (der_size s p) ++ r) x)) broken place e

  -- each rule of each item is told rightly
  pub right_of : (i : Item) (p : ℕ) → At s i p → Each (Keeps s p) (Right s k p) (rules_of i)
  right_of Item.seal p w = (λ place e broken of. absurd (of.2 refl), λ _. tt)
  right_of Item.mark p w = (missing p 1, λ t. (λ place e broken of. here w 1 t (mark_kept s p) broken place e, λ _. tt))
  right_of Item.version p w = (missing p 1, λ t. (λ place e broken of. here w 1 t (version_kept s p) broken place e, λ _. tt))
  right_of (Item.country v) p w = (
    missing p 2,
    λ t. (
      coded w 3 (λ u. Unit) (country_ahead v) t,
      λ _. (λ place e broken of. here w 2 t (country_kept s p v) broken place e, λ _. tt),
    ),
  )
  right_of Item.names p w =
      let nine : Whole s p 6 → (r : List ℕ) → State Item.names p (part s p 6 ++ r) → Carries s p 9 Nine =
      λ h r x. text_kept s p 9 Nine h r (names_ahead (part s p 6 ++ r) x) in (
        missing p 6,
        λ t. (
          coded w 9 Nine names_ahead t,
          λ _. (
            λ place e broken of. here w 6 t (λ h r x. let c = nine h r x in (c.0, c.1, c.2, c.3.0)) broken place e,
            λ _. (λ place e broken of. here w 6 t (λ h r x. let c = nine h r x in (c.0, c.1, c.2, c.3.1)) broken place e, λ _. tt),
          ),
        ),
      )
  right_of Item.signer_and_length p w =
      let six : Whole s p 4 → (r : List ℕ) → State Item.signer_and_length p (part s p 4 ++ r) → Carries s p 6 Six =
      λ h r x. text_kept s p 6 Six h r (length_ahead (part s p 4 ++ r) x) in (
        missing p 4,
        λ t. (
          coded w 6 Six length_ahead t,
          λ _. (
            λ place e broken of. here w 4 t (λ h r x. let c = six h r x in (c.0, c.1, c.2, c.3.0)) broken place e,
            λ _. (
              λ place e broken of. here w 4 t (λ h r x. let c = six h r x in (c.0, c.1, c.2, (c.3.1, c.3.3))) broken place e,
              λ _. (λ place e broken of. here w 4 t (λ h r x. some_digits s p (six h r x)) broken place e, λ _. tt),
            ),
          ),
        ),
      )
  right_of (Item.reference n) p w = (
    missing p (width n),
    λ t. (
      coded w n (All LetterOrDigit) (reference_ahead n (Issued four (16 + width n))) t,
      λ _. (
        λ place e broken of.
            here w (width n) t
            (λ h r x. text_kept s p n (All LetterOrDigit) h r (reference_ahead n (Issued four (16 + width n)) (part s p (width n) ++ r) x))
            broken place e,
        λ _. tt,
      ),
    ),
  )
  right_of (Item.issued v) p w =
      (missing p 3, λ t. (λ place e broken of. here w 3 t (day_kept s p (Signed v (p + 8))) broken place e, λ _. tt))
  right_of (Item.signed v) p w =
      (missing p 3, λ t. (λ place e broken of. here w 3 t (day_kept s p (Definition v (p + 5))) broken place e, λ _. tt))
  right_of (Item.definition v) p w =
      (missing p 1, λ t. (λ place e broken of. here w 1 t (last_kept s p (Category v (p + 2))) broken place e, λ _. tt))
  right_of (Item.category v) p w =
      (missing p 1, λ t. (λ place e broken of. here w 1 t (last_kept s p (Rest v (p + 1))) broken place e, λ _. tt))
  right_of (Item.tag v tags) p w = (
    missing p 1,
    λ t. (λ place e broken of. here w 1 t (λ h r x. tag_kept s p v tags (known_at w) h r x.0) broken place e, λ _. tt),
  )
  right_of (Item.value_length three tags) p w = (missing p 1, λ t. tt)
  right_of (Item.value_length four tags) p w = (
    missing p 1,
    λ t. (
      begins_right w (λ n. Unit) (tagged_length p tags) t,
      λ _. (λ place e broken of. absurd (of.1 refl), λ q. (shortest_right w (λ n. Unit) (tagged_length p tags) q, λ _. tt)),
    ),
  )
  right_of (Item.value v tags n) p w = (missing p n, λ t. tt)
  right_of Item.signature_length p w =
      let size : (t : List ℕ) → State Item.signature_length p t → Length SignatureSize t = λ t x. sig_length t x.0 in (
        missing p 1,
        λ t. (
          begins_right w SignatureSize size t,
          λ _. (
            λ place e broken of. absurd (of.1 refl),
            λ q. (
              shortest_right w SignatureSize size q,
              λ _. (
                λ place e broken of.
                    here w (der_size s p) q (λ h r x. size_kept s p h r (size (part s p (der_size s p) ++ r) x)) broken place e,
                λ _. tt,
              ),
            ),
          ),
        ),
      )
  right_of (Item.signature n) p w = (missing p n, λ t. tt)
  right_of Item.end p w = (
    λ place e broken of. here w 1 (some_left s p broken) (λ h r x. absurd (end_none s p h r x.0)) broken place e,
    λ _. tt,
  )
