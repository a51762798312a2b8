-- The published form of a legal content is a byte string.
-- Assumes nothing.
use Rattle.std.proofs.Common.{subst, sym, ◌∙◌, arith, ltb-true, append-nil}
use Rattle.std.specs.Prelude.{ℕ, List, [], ◌∷◌, ◌++◌, map, ltb, length}
use Rattle.format.specs.BigEndian.{be}
use Rattle.format.specs.BigEndian.Laws.{bytes_be}
use Rattle.format.specs.Bytes.{Byte, Bytes}
use Rattle.format.specs.Bytes.Laws.{bytes_nil, bytes_cons, bytes_append, all_append}
use Rattle.format.specs.Choice.Laws.{by_test}
use Rattle.pairs.specs.Chart.{InChart}
use Rattle.c40.specs.Text.{publish as c40}
use Rattle.c40.specs.Text.Laws.{bytes_publish}
use Rattle.dates.specs.Days.{publish as date}
use Rattle.der.specs.Length.{form}
use Rattle.grammar.specs.Content.{Version, three, four, Header, Feature, Content}
use Rattle.versions.specs.Versions.{version_byte}
use Rattle.grammar.specs.Publish.{carried, names, header_zone, length_of, feature, message_zone, signature_zone, signed_bytes, publish}
use Rattle.grammar.specs.Legal.{LegalHeader, ValueSize, LegalFeatures, Legal}
use Rattle.grammar.proofs.Parts.{country_text, signer_text, reference_text, Names, six_text, four_form, six}
use Rattle.grammar.proofs.Zones.{legal_names, header_parts}

byte : (x : ℕ) → Byte x → Bytes (x ∷ [])
byte x h = bytes_cons x [] h bytes_nil

bytes_date : (d : _) → Bytes (date d)
unfolding date
bytes_date d = bytes_be 3 _

bytes_form : (n : ℕ) → Bytes (form n)
unfolding form
bytes_form n =
    by_test (ltb n 0x80) (λ e. simp e (byte n (omega (arith, ltb-true n 0x80 e))))
    (λ a. by_test (ltb n 0x100) (λ e. simp (a, e) (bytes_cons 0x81 (be 1 n) (omega arith) (bytes_be 1 n)))
    (λ b. by_test (ltb n 0x10000) (λ e. simp (a, b, e) (bytes_cons 0x82 (be 2 n) (omega arith) (bytes_be 2 n)))
    (λ c. by_test (ltb n 0x1000000) (λ e. simp (a, b, c, e) (bytes_cons 0x83 (be 3 n) (omega arith) (bytes_be 3 n)))
    (λ d. simp (a, b, c, d) (bytes_cons 0x84 (be 4 n) (omega arith) (bytes_be 4 n))))))

version_byte_lem : (v : Version) → Byte (version_byte v)
version_byte_lem three = omega arith
version_byte_lem four = omega arith

bytes_names : (v : Version) (s r : List ℕ) → Names v (s, r) → Bytes (names v s r)
bytes_names three s r n = bytes_publish (s ++ r) (all_append InChart s r (signer_text s n.signer).1 (reference_text r n.reference))
bytes_names four s r n =
    subst Bytes (sym (four_form (s, r) n))
    (bytes_append (c40 (six (s, r))) (c40 r) (bytes_publish (six (s, r)) (six_text (s, r) n).1)
    (bytes_publish r (reference_text r n.reference)))

bytes_header : (h : Header) → LegalHeader h → Bytes (header_zone h)
bytes_header h l =
    let p7 : List ℕ = h.definition ∷ h.category ∷ [] in
    let p6 = date h.signed ++ p7 in
    let p5 = date h.issued ++ p6 in
    let p4 = names h.version h.signer h.reference ++ p5 in
    let p3 = c40 (map carried h.country) ++ p4 in
    let b7 : Bytes p7 =
    bytes_cons h.definition (h.category ∷ []) (omega (arith, l.definition.1)) (byte h.category (omega (arith, l.category.1))) in
    let b6 : Bytes p6 = bytes_append (date h.signed) p7 (bytes_date h.signed) b7 in
    let b5 : Bytes p5 = bytes_append (date h.issued) p6 (bytes_date h.issued) b6 in
    let b4 : Bytes p4 =
    bytes_append (names h.version h.signer h.reference) p5 (bytes_names h.version h.signer h.reference (legal_names h l))
    b5 in
    let b3 : Bytes p3 =
    bytes_append (c40 (map carried h.country)) p4 (bytes_publish (map carried h.country) (country_text h.country l.country).1)
    b4 in
    subst Bytes (sym (sym (append-nil (header_zone h)) ∙ header_parts h []))
    (bytes_cons 0xDC (version_byte h.version ∷ p3) (omega arith)
    (bytes_cons (version_byte h.version) p3 (version_byte_lem h.version) b3))

bytes_length : (v : Version) (n : ℕ) → ValueSize v n → Bytes (length_of v n)
bytes_length three n h = byte n (omega arith)
bytes_length four n h = bytes_form n

bytes_message : (v : Version) (used : List ℕ) (fs : List Feature) → LegalFeatures v used fs → Bytes (message_zone v fs)
unfolding message_zone
bytes_message v used [] l = bytes_nil
bytes_message v used (f ∷ fs) l =
    bytes_append (feature v f) (message_zone v fs)
    (bytes_cons f.tag (length_of v (length f.value) ++ f.value) (omega (arith, l.0))
    (bytes_append (length_of v (length f.value)) f.value (bytes_length v (length f.value) l.2) l.3))
    (bytes_message v (f.tag ∷ used) fs l.4)

pub bytes_published : (c : Content) → Legal c → Bytes (publish c)
unfolding publish signed_bytes signature_zone
bytes_published c l =
    bytes_append (signed_bytes c) (signature_zone c.signature)
    (bytes_append (header_zone c.header) (message_zone c.header.version c.features) (bytes_header c.header l.header)
    (bytes_message c.header.version [] c.features l.features))
    (bytes_cons 0xFF (form (length c.signature) ++ c.signature) (omega arith)
    (bytes_append (form (length c.signature)) c.signature (bytes_form (length c.signature)) l.bytes))
