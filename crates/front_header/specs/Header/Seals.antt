-- An accepted seal is a string of the items of a header, one behind another, with features and a signature; and back.
-- Assumes nothing.
use Rattle.std.specs.Prelude.{◌≡◌, refl, List, ◌∷◌, ◌++◌, map, ℕ, ◌+◌, ◌-◌, length}
use Rattle.std.proofs.Common.{sym, ap, ◌∙◌, subst, append_assoc, arith, length-append}
use Rattle.std.proofs.lemmas.List.{length-map}
use Rattle.format.specs.Cut.{counted}
use Rattle.c40.specs.Text.{width, publish as c40}
use Rattle.c40.specs.Text.Laws.{length_publish}
use Rattle.dates.specs.Days.{publish as date}
use Rattle.dates.proofs.Days.Laws.{length_publish as length_date}
use Rattle.der.specs.Length.{form}
use Rattle.versions.specs.Versions.{version_byte}
use Rattle.grammar.specs.Content.{Version, three, four, Header, Content}
use Rattle.grammar.specs.Publish.{carried, names, header_zone, message_zone, signature_zone, signed_bytes, publish}
use Rattle.grammar.specs.Legal.{LegalHeader, Legal}
use Rattle.grammar.proofs.Zones.{header_parts, legal_names}
use Rattle.grammar.proofs.Sizes.{length_names, header_size, header_three}
use Rattle.front.specs.Front.{Sealed}
use Rattle.front.specs.Items.{byte, version_item, country_item}
use Rattle.front_header.specs.Header.Chain.{put}
use Rattle.front_header.specs.Header.Languages.{Rest, Category, Definition, Signed, Issued, header_length}
use Rattle.front_header.specs.Header.Languages.{AfterCountry, AfterVersion, AfterMark, Start}
use Rattle.front_header.specs.Header.Names.{name_to, name_from}

-- the parts of a header from its issue date on, and behind its country
abbrev dates : Header → List ℕ → List ℕ
dates h X = date h.issued ++ (date h.signed ++ (h.definition ∷ h.category ∷ X))

abbrev tail : Header → List ℕ → List ℕ
tail h X = names h.version h.signer h.reference ++ dates h X

-- the bytes of a version 4 header, by the length of its reference
length_four : (h : Header) → LegalHeader h → h.version ≡ four → length (header_zone h) ≡ 16 + width (length h.reference)
unfolding header_zone
length_four h l v =
    let country : length (c40 (map carried h.country)) ≡ 2 =
    length_publish (map carried h.country) ∙ ap width (length-map h.country carried ∙ l.country.size) in
    let n : length (names h.version h.signer h.reference) ≡ 4 + width (length h.reference) =
    ap (λ (w : Version). length (names w h.signer h.reference)) v
    ∙ length_names h.signer h.reference l.signer.size
    ∙ omega arith in
    simp (length-append, country, length_date, n) (omega arith)

-- of any header
pub length_header : (h : Header) → LegalHeader h → length (header_zone h) ≡ header_length h.version (length h.reference)
length_header h l = by_version h.version refl
  where
    by_version : (v : Version) → h.version ≡ v → length (header_zone h) ≡ header_length v (length h.reference)
    by_version three e = header_three h l e
    by_version four e = length_four h l e

-- what stands behind the header of an accepted seal
abbrev rest : Content → List ℕ
rest c = message_zone c.header.version c.features ++ signature_zone c.signature

-- a seal is its header and that
publish_rest : (c : Content) → publish c ≡ header_zone c.header ++ rest c
unfolding publish signed_bytes
publish_rest c = append_assoc (header_zone c.header) (message_zone c.header.version c.features) (signature_zone c.signature)

-- and that is legal features and a signature, in the room that is left
rest_of : (c : Content) → Legal c → Rest c.header.version (length (header_zone c.header)) (rest c)
unfolding signature_zone
rest_of c l = (
  record {
    fs = c.features;
    legal = l.features;
    tail = counted form c.signature;
    sig = record { sig = c.signature; size = l.signature; bytes = l.bytes; is = refl };
    is = refl;
  },
  omega (arith, l.size, ap length (publish_rest c), length-append (header_zone c.header) (rest c)),
)

-- the two dates and the two last bytes of a header
module _ (v : Version) (n : ℕ) (h : Header) (l : LegalHeader h) (X : List ℕ) (w : Rest v n X) where
  definition_of : Definition v n (h.definition ∷ h.category ∷ X)
  definition_of =
      let c : Category v n (h.category ∷ X) = put byte h.category l.category X w in
      put byte h.definition l.definition (h.category ∷ X) c

  issued_of : Issued v n (dates h X)
  issued_of =
      let s : Signed v n (date h.signed ++ (h.definition ∷ h.category ∷ X)) = put date h.signed l.signed _ definition_of in
      put date h.issued l.issued _ s

-- a header with what may stand behind it, as its items
start_of :
    (h : Header) →
    LegalHeader h →
    (X : List ℕ) →
    Rest h.version (header_length h.version (length h.reference)) X →
    Start (header_zone h ++ X)
start_of h l X w =
    let v = h.version in
    let n : AfterCountry v (tail h X) =
    name_to v (tail h X) (record {
      signer = h.signer;
      reference = h.reference;
      legal = legal_names h l;
      rest = dates h X;
      more = issued_of v (header_length v (length h.reference)) h l X w;
      is = refl;
    }) in
    let c : AfterVersion v (country_item h.country ++ tail h X) = put country_item h.country l.country (tail h X) n in
    let a : AfterMark (version_byte v ∷ (country_item h.country ++ tail h X)) = put version_item v tt _ c in
    subst Start (sym (header_parts h X)) (put byte 0xDC refl _ a)

-- an accepted seal is a string of the items
pub seal_start : (t : List ℕ) → Sealed t → Start t
seal_start t s =
    let c = s.content in
    let h = c.header in
    let w = rest_of c s.legal in
    subst Start (sym (publish_rest c) ∙ s.is)
    (start_of h s.legal.header (rest c)
    (subst (λ (n : ℕ). Rest h.version n (rest c)) (length_header h s.legal.header) w))

-- a legal header and what may stand behind it are an accepted seal
sealed_by : (h : Header) → LegalHeader h → (X : List ℕ) → Rest h.version (length (header_zone h)) X → Sealed (header_zone h ++ X)
unfolding signature_zone
sealed_by h l X w =
    let m = w.0 in
    let c : Content = record { header = h; features = m.fs; signature = m.sig.sig } in
    let most = header_size h l in
    let e : rest c ≡ X = ap (λ (x : List ℕ). message_zone h.version m.fs ++ 0xFF ∷ x) m.sig.is ∙ m.is in
    let is = publish_rest c ∙ ap (λ (x : List ℕ). header_zone h ++ x) e in
    record {
      content = c;
      legal = record {
        header = l;
        features = m.legal;
        signature = m.sig.size;
        bytes = m.sig.bytes;
        size = omega (arith, ap length is, length-append (header_zone h) X, w.1);
      };
      is = is;
    }

-- a header's mark and version in front of the rest
from_start :
    (h : Header) (X y x : List ℕ) (m : ℕ) (t : List ℕ) →
    country_item h.country ++ tail h X ≡ y →
    version_byte h.version ∷ y ≡ x →
    0xDC ≡ m →
    m ∷ x ≡ t →
    header_zone h ++ X ≡ t
from_start h X y x m t e f g i = header_parts h X ∙ (λ j. g j ∷ version_byte h.version ∷ e j) ∙ ap (λ (u : List ℕ). m ∷ u) f ∙ i

-- and a string of the items is an accepted seal
pub start_seal : (t : List ℕ) → Start t → Sealed t
start_seal t x =
    let y = x.more in
    let z = y.more in
    let n = name_from y.a z.rest z.more in
    let p = n.more in
    let q = p.more in
    let d = q.more in
    let c = d.more in
    let h : Header = record {
      version = y.a;
      country = z.a;
      signer = n.signer;
      reference = n.reference;
      issued = p.a;
      signed = q.a;
      definition = d.a;
      category = c.a;
    } in
    let l : LegalHeader h = record {
      country = z.legal;
      signer = n.legal.signer;
      reference = n.legal.reference;
      size = n.legal.size;
      issued = p.legal;
      signed = q.legal;
      definition = d.legal;
      category = c.legal;
    } in
    let w : Rest y.a (length (header_zone h)) c.rest =
    subst (λ (k : ℕ). Rest y.a k c.rest) (sym (length_header h l)) c.more in
    let e4 : h.definition ∷ h.category ∷ c.rest ≡ q.rest = ap (λ (u : List ℕ). d.a ∷ u) c.is ∙ d.is in
    let e3 : date q.a ++ (h.definition ∷ h.category ∷ c.rest) ≡ p.rest = ap (λ (u : List ℕ). date q.a ++ u) e4 ∙ q.is in
    let e2 : dates h c.rest ≡ n.rest = ap (λ (u : List ℕ). date p.a ++ u) e3 ∙ p.is in
    let e1 : tail h c.rest ≡ z.rest = ap (λ (u : List ℕ). names y.a n.signer n.reference ++ u) e2 ∙ n.is in
    let e0 : country_item z.a ++ tail h c.rest ≡ y.rest = ap (λ (u : List ℕ). country_item z.a ++ u) e1 ∙ z.is in
    subst Sealed (from_start h c.rest y.rest x.rest x.a t e0 y.is x.legal x.is) (sealed_by h l c.rest w)
