-- An item of a fixed width, by its values and their form: how far some bytes can be completed to one, and what that
-- says of a language whose strings begin with one; and the items of a header (document 01, Layout).
-- Assumes nothing.
use Rattle.std.specs.Prelude.{◌≡◌, refl, List, [], ◌∷◌, ◌++◌, map, ℕ, suc, ◌<◌, ◌≤◌, length, get_or, take, drop}
use Rattle.std.proofs.Common.{sym, ap, ap₂, ◌∙◌, subst, append_assoc, append-nil, arith, length-append, take-append-drop, take_at, length-take-le}
use Rattle.std.proofs.lemmas.List.{take-append-le}
use Rattle.format.specs.Bytes.{Bytes, All}
use Rattle.c40.specs.Text.{publish as c40}
use Rattle.versions.specs.Versions.{version_byte}
use Rattle.grammar.specs.Content.{Version}
use Rattle.grammar.specs.Publish.{carried, hex_digits}
use Rattle.grammar.specs.Legal.{Letter, LetterOrDigit}
use Rattle.front.specs.Front.{Begins, Longest}

-- the form of a legal value
pub record Item {A : Type 0} (L : A → Type 0) (p : A → List ℕ) (t : List ℕ) : Type 0 where
  pub a : A
  pub legal : L a
  pub is : p a ≡ t

-- what `item` is held to: each form has w bytes, and of any bytes as many can be completed to one as `item` says
pub record Reader {A : Type 0} (L : A → Type 0) (p : A → List ℕ) (w : ℕ) (item : List ℕ → ℕ) : Type 0 where
  pub size : (a : A) → L a → length (p a) ≡ w
  pub front : (s : List ℕ) → Bytes s → Longest (Item L p) s (item s)

-- of two lists that go on alike, the longer begins with the shorter
begins_with : (x r y q : List ℕ) → x ++ r ≡ y ++ q → length y ≤ length x → y ++ drop (length y) x ≡ x
begins_with x r y q e h =
    let t : take (length y) x ≡ y = sym (take-append-le (length y) x r h) ∙ ap (take (length y)) e ∙ take_at y q (length y) refl in
    ap (λ (z : List ℕ). z ++ drop (length y) x) (sym t) ∙ take-append-drop (length y) x

-- a list of no elements
none_left : (z : List ℕ) → length z ≡ 0 → z ≡ []
none_left [] h = refl
none_left (x ∷ z) h = absurd (omega arith)

module _ {A : Type 0} (L : A → Type 0) (p : A → List ℕ) (w : ℕ) (width : (a : A) → L a → length (p a) ≡ w) where
  -- an item at the front, and no byte behind it belongs to it
  pub longest_item : (s : List ℕ) → w ≤ length s → Item L p (take w s) → Longest (Item L p) s w
  longest_item s h i = record {
    within = h;
    begun = ([], subst (Item L p) (sym (append-nil (take w s))) i);
    no_more = λ g b.
        let t = take (suc w) s in
        omega (arith, width b.1.a b.1.legal, ap length b.1.is, length-append t b.0, length-take-le (suc w) s g);
  }

  -- what begins with w bytes or more is those w bytes
  pub item_whole :
      (s : List ℕ) (k : ℕ) →
      w ≤ k →
      k ≤ length s →
      Begins (Item L p) (take k s) →
      (a : A) × L a × (p a ≡ take w s)
  item_whole s k h g b =
      let z = b.0 in
      let i = b.1 in
      let n = width i.a i.legal in
      let m : length (p i.a) ≡ length (take k s ++ z) = ap length i.is in
      let size = length-take-le k s g in
      let all = length-append (take k s) z in
      let e : k ≡ w = omega arith in
      let none = none_left z (omega arith) in
      (i.a, i.legal, i.is ∙ ap₂ (λ (x : ℕ) (y : List ℕ). take x s ++ y) e none ∙ append-nil (take w s))

  -- a language whose strings begin with an item, each of which goes on: up to a whole item, the item alone counts
  module _ (P : List ℕ → Type 0)
      (starts : (t : List ℕ) → P t → (a : A) × L a × (rest : List ℕ) × (p a ++ rest ≡ t))
      (goes_on_lem : (a : A) → L a → Begins P (p a)) where
    pub longest_part : (s : List ℕ) (k : ℕ) → k < w → Longest (Item L p) s k → Longest P s k
    longest_part s k h l = record { within = l.within; begun = begun; no_more = no_more }
      where
        begun : Begins P (take k s)
        begun =
            let b = l.begun in
            let g = goes_on_lem b.1.a b.1.legal in
            (b.0 ++ g.0, subst P (ap (λ (x : List ℕ). x ++ g.0) b.1.is ∙ append_assoc (take k s) b.0 g.0) g.1)

        no_more : k < length s → Begins P (take (suc k) s) → ⊥
        no_more i b =
            let r = starts (take (suc k) s ++ b.0) b.1 in
            let n = width r.0 r.1 in
            let m = length-take-le (suc k) s i in
            let e = begins_with (p r.0) r.2 (take (suc k) s) b.0 r.3 (omega arith) in
            l.no_more i (drop (length (take (suc k) s)) (p r.0), record { a = r.0; legal = r.1; is = sym e })

-- The items of a header. A number as one byte, and the mark:
abbrev pub byte : ℕ → List ℕ
byte n = n ∷ []

abbrev pub Mark : ℕ → Type 0
Mark n = 0xDC ≡ n

-- a version, by its byte
abbrev pub AnyVersion : Version → Type 0
AnyVersion v = Unit

abbrev pub version_item : Version → List ℕ
version_item v = version_byte v ∷ []

-- a country, with its fillers as spaces
abbrev pub country_item : List ℕ → List ℕ
country_item t = c40 (map carried t)

-- the signer's first three characters
pub record First (t : List ℕ) : Type 0 where
  pub size : length t ≡ 3
  pub first : Letter (get_or t 0 0)
  pub second : Letter (get_or t 1 0)
  pub third : LetterOrDigit (get_or t 2 0)

-- so many letters and digits
abbrev pub Characters : ℕ → List ℕ → Type 0
Characters n t = (length t ≡ n) × All LetterOrDigit t

-- the signer's last character and the reference's length, in two digits
abbrev pub Counted : ℕ × ℕ → Type 0
Counted x = LetterOrDigit x.0 × (1 ≤ x.1) × (x.1 ≤ 255)

abbrev pub counted_item : ℕ × ℕ → List ℕ
counted_item x = c40 (x.0 ∷ hex_digits x.1)
