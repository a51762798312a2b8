-- Sizes (document 01): a legal seal has 76 to 4,096 bytes, a header 18 or 18 to 186, and there are at most 255 features.
-- Assumes nothing.
use Rattle.std.specs.Prelude.{◌≡◌, refl, Bool, false, ℕ, zero, suc, ◌+◌, ◌*◌, ◌/◌, ◌<◌, ◌≤◌, List, [], ◌∷◌, ◌++◌, map, eqb, length}
use Rattle.std.proofs.Common.{ap, subst, ◌∙◌, arith, ne_eqb, eqb-true, length-append}
use Rattle.std.proofs.lemmas.Bool.{eqb-false}
use Rattle.std.proofs.lemmas.List.{length-map}
use Rattle.format.specs.Choice.{pick, either}
use Rattle.format.specs.Choice.Laws.{by_test}
use Rattle.c40.specs.Text.{width, publish as c40}
use Rattle.c40.specs.Text.Laws.{length_publish}
use Rattle.dates.proofs.Days.Laws.{length_publish as length_date}
use Rattle.der.specs.Length.{form}
use Rattle.der.proofs.Lengths.Exact.{form_some}
use Rattle.grammar.specs.Content.{Version, three, four, Header, Feature, Content}
use Rattle.grammar.specs.Publish.{carried, hex_digits, names, header_zone, signature_zone, publish}
use Rattle.grammar.specs.Legal.{ReferenceSize, LegalHeader, Unused, LegalFeatures, SignatureSize, n28, n32, n48, n64, n66, Legal}
use Rattle.grammar.proofs.Theorems.{zones_add_up}

-- "signer and reference: version 4: 2 x ceil((6 + L) / 3) bytes"
pub length_names : (s r : List ℕ) → length s ≡ 4 → length (names four s r) ≡ 2 * ((6 + length r + 2) / 3)
length_names s r hs =
    let e = length_publish (s ++ hex_digits (length r) ++ r) in
    let l = length-append (s ++ hex_digits (length r)) r in
    let m = length-append s (hex_digits (length r)) in
    omega arith

-- names: 6 bytes in version 3, 6 to 174 in version 4
names_size_lem :
    (v : Version) (s r : List ℕ) →
    length s ≡ 4 →
    ReferenceSize v (length r) →
    (6 ≤ length (names v s r)) × (length (names v s r) ≤ 174)
names_size_lem three s r hs hr =
    let e = length_publish (s ++ r) in
    let l = length-append s r in
    (omega arith, omega arith)
names_size_lem four s r hs hr = let e = length_names s r hs in (omega arith, omega arith)

length_header : (h : Header) → LegalHeader h → length (header_zone h) ≡ 12 + length (names h.version h.signer h.reference)
unfolding header_zone
length_header h l =
    let country : length (c40 (map carried h.country)) ≡ 2 =
    length_publish (map carried h.country) ∙ ap width (length-map h.country carried ∙ l.country.size) in
    simp (length-append, country, length_date) (omega arith)

-- "header: version 3: 18 bytes; version 4: 18 to 186"
pub header_size : (h : Header) → LegalHeader h → (18 ≤ length (header_zone h)) × (length (header_zone h) ≤ 186)
header_size h l =
    let e = length_header h l in
    let n = names_size_lem h.version h.signer h.reference l.signer.size l.size in
    (omega arith, omega arith)

pub header_three : (h : Header) → LegalHeader h → h.version ≡ three → length (header_zone h) ≡ 18
header_three h l v =
    let size : length h.reference ≡ 5 = subst (λ w. ReferenceSize w (length h.reference)) v l.size in
    length_header h l
    ∙ ap (λ w. 12 + length (names w h.signer h.reference)) v
    ∙ ap (λ n. 12 + n) (length_publish (h.signer ++ h.reference))
    ∙ omega (arith, length-append h.signer h.reference, l.signer.size)

signature_least : (n : ℕ) → SignatureSize n → 56 ≤ n
signature_least n n28 = omega arith
signature_least n n32 = omega arith
signature_least n n48 = omega arith
signature_least n n64 = omega arith
signature_least n n66 = omega arith

-- "seal: 76 to 4,096 bytes": the upper end is a rule, the lower one follows
pub seal_size_lem : (c : Content) → Legal c → (76 ≤ length (publish c)) × (length (publish c) ≤ 4096)
unfolding signature_zone
seal_size_lem c l =
    let e = zones_add_up c in
    let h = header_size c.header l.header in
    let f = form_some (length c.signature) in
    let z = length-append (form (length c.signature)) c.signature in
    let s = signature_least (length c.signature) l.signature in
    (omega arith, l.size)

-- whether a tag is among these, and how many numbers below n are not
unfoldable pub has : ℕ → List ℕ → Bool
has k [] = false
has k (t ∷ used) = either (eqb k t) (has k used)

unfoldable pub free : ℕ → List ℕ → ℕ
free zero used = 0
free (suc k) used = pick (has k used) 0 1 + free k used

pub free_most : (n : ℕ) (used : List ℕ) → free n used ≤ n
unfolding free
free_most zero used = omega arith
free_most (suc k) used =
    let ih = free_most k used in
    by_test (has k used) (λ e. simp e (omega arith)) (λ e. simp e (omega arith))

pub unused_not : (k : ℕ) (used : List ℕ) → Unused k used → has k used ≡ false
unfolding has
unused_not k [] u = refl
unused_not k (t ∷ used) u = let ih = unused_not k used u.1 in simp (ne_eqb k t u.0, ih)

-- a number from n on takes none away
free_above : (n tag : ℕ) (used : List ℕ) → n ≤ tag → free n (tag ∷ used) ≡ free n used
unfolding free has
free_above zero tag used h = refl
free_above (suc k) tag used h =
    let ih = free_above k tag used (omega arith) in
    simp (ne_eqb k tag (λ e. omega arith), ih)

-- one below n that was free takes one away
pub free_less : (n tag : ℕ) (used : List ℕ) → tag < n → has tag used ≡ false → free n used ≡ suc (free n (tag ∷ used))
unfolding free has
free_less zero tag used h e = absurd (omega arith)
free_less (suc k) tag used h e =
    by_test (eqb k tag)
    (λ f.
    let same = eqb-true k tag f in
    let above = free_above k tag used (omega arith) in
    let not_in : has k used ≡ false = ap (λ x. has x used) same ∙ e in
    simp (f, not_in, above) (omega arith))
    (λ f.
    let ih = free_less k tag used (omega (arith, eqb-false k tag f)) e in
    by_test (has k used) (λ g. simp (f, g) (omega arith)) (λ g. simp (f, g) (omega arith)))

few : (n : ℕ) (v : Version) (used : List ℕ) (fs : List Feature) → 254 < n → LegalFeatures v used fs → length fs ≤ free n used
few n v used [] h l = omega arith
few n v used (f ∷ fs) h l =
    let ih = few n v (f.tag ∷ used) fs h l.4 in
    let less = free_less n f.tag used (omega (arith, l.0)) (unused_not f.tag used l.1) in
    omega arith

-- "features: 0 to 255"
pub features_most : (c : Content) → Legal c → length c.features ≤ 255
features_most c l = most 255 (omega arith)
  where
    most : (n : ℕ) → 254 < n → length c.features ≤ n
    most n h = omega (arith, few n c.header.version [] c.features h l.features, free_most n [])
