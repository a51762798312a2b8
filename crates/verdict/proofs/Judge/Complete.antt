-- Complete: the published form of a legal content is accepted, and what is reported is that content.
-- Assumes nothing.
use Rattle.std.specs.Prelude.{◌≡◌, refl, true, false, ℕ, ◌+◌, ◌≤◌, List, [], ◌∷◌, ◌++◌, map, ltb, length}
use Rattle.std.proofs.Common.{ap, sym, ◌∙◌, arith, le-ltb, append_assoc, append-nil, length-append}
use Rattle.std.proofs.lemmas.List.{length-map}
use Rattle.format.specs.Choice.{pick}
use Rattle.format.specs.Cut.{counted}
use Rattle.c40.specs.Text.{width, publish as c40}
use Rattle.c40.specs.Text.Laws.{length_publish as length_c40}
use Rattle.dates.specs.Days.{publish as date_form}
use Rattle.dates.proofs.Days.Laws.{length_publish as length_date}
use Rattle.der.specs.Length.{form as der_form}
use Rattle.grammar.specs.Content.{Header, Content}
use Rattle.grammar.specs.Publish as form
use Rattle.versions.specs.Versions.{version_byte}
use Rattle.grammar.specs.Publish.{carried, header_zone, message_zone, signature_zone, signed_bytes, publish}
use Rattle.grammar.specs.Legal.{LegalHeader, SignatureSize, n28, n32, n48, n64, n66, Legal}
use Rattle.grammar.proofs.Sizes.{features_most}
use Rattle.grammar.proofs.Zones.{header_parts, legal_names}
use Rattle.causes.specs.declared.Rule.TheVariants as rule
use Rattle.causes.specs.declared.Item.TheVariants as item
use Rattle.verdict.specs.Items.{Read, is, not, why, next, whole, mark, version, country, names, date, last, der_length}
use Rattle.verdict.proofs.Items.Laws.{whole_there, der_there, mark_there, version_there, last_there, date_there}
use Rattle.verdict.proofs.Items.Fields.{country_there, names_there}
use Rattle.verdict.specs.Judge.{Report, accepted, header, features, raw_in, end_in, size_in, signature, reading}
use Rattle.fields.specs.Signature.{is_signature}
use Rattle.verdict.specs.Judge.{judging, judge}
use Rattle.verdict.proofs.Judge.Features.{rows_of, features_there}

-- an item read after p is read at its place in the whole
placed : {R A : Type 0} (f : ℕ → List ℕ → Read R A) (p q s : List ℕ) (k w : ℕ) (a : A) → s ≡ p ++ q → length p ≡ k
    → f (length p) (p ++ q) ≡ is a (length p + w) → f k s ≡ is a (k + w)
placed f p q s k w a e l r =
    ap (λ z. f k z) e ∙ ap (λ n. f n (p ++ q)) (sym l) ∙ r ∙ ap (λ n. is a (n + w)) l

pub header_there : (h : Header) (t : List ℕ) → LegalHeader h → header (header_zone h ++ t) ≡ is h (length (header_zone h))
unfolding header
header_there h t l =
    let v = h.version in
    let c = c40 (map carried h.country) in
    let n = form.names v h.signer h.reference in
    let d1 = date_form h.issued in
    let d2 = date_form h.signed in
    let p2 : List ℕ = 0xDC ∷ version_byte v ∷ [] in
    let p3 = p2 ++ c in
    let p4 = p3 ++ n in
    let p5 = p4 ++ d1 in
    let p6 = p5 ++ d2 in
    let r7 : List ℕ = h.category ∷ t in
    let r6 : List ℕ = h.definition ∷ r7 in
    let r2 = c ++ (n ++ (d1 ++ (d2 ++ r6))) in
    let s = header_zone h ++ t in
    let e2 : s ≡ p2 ++ (c ++ (n ++ (d1 ++ (d2 ++ r6)))) = header_parts h t in
    let e3 : s ≡ p3 ++ (n ++ (d1 ++ (d2 ++ r6))) = e2 ∙ sym (append_assoc p2 c (n ++ (d1 ++ (d2 ++ r6)))) in
    let e4 : s ≡ p4 ++ (d1 ++ (d2 ++ r6)) = e3 ∙ sym (append_assoc p3 n (d1 ++ (d2 ++ r6))) in
    let e5 : s ≡ p5 ++ (d2 ++ r6) = e4 ∙ sym (append_assoc p4 d1 (d2 ++ r6)) in
    let e6 : s ≡ p6 ++ r6 = e5 ∙ sym (append_assoc p5 d2 r6) in
    let e7 : s ≡ (p6 ++ (h.definition ∷ [])) ++ r7 = e6 ∙ sym (append_assoc p6 (h.definition ∷ []) r7) in
    let w = length n in
    let country_wide : length c ≡ 2 =
    length_c40 (map carried h.country) ∙ ap width (length-map h.country carried ∙ l.country.size) in
    let l3 : length p3 ≡ 4 = omega (arith, length-append p2 c, country_wide) in
    let l4 : length p4 ≡ 4 + w = omega (arith, length-append p3 n, l3) in
    let l5 : length p5 ≡ 4 + w + 3 = omega (arith, length-append p4 d1, l4, length_date h.issued) in
    let l6 : length p6 ≡ 4 + w + 3 + 3 = omega (arith, length-append p5 d2, l5, length_date h.signed) in
    let l7 : length (p6 ++ (h.definition ∷ [])) ≡ 4 + w + 3 + 3 + 1 = omega (arith, length-append p6 (h.definition ∷ []), l6) in
    let i0 = placed mark [] _ s 0 1 tt (header_parts h t) refl (mark_there [] (version_byte v ∷ r2)) in
    let i1 = placed version (0xDC ∷ []) _ s 1 1 v (header_parts h t) refl (version_there (0xDC ∷ []) v r2) in
    let i2 = placed country p2 _ s 2 2 h.country e2 refl (country_there p2 h.country _ l.country) in
    let i3 = placed (names v) p3 _ s 4 w (record { signer = h.signer; reference = h.reference }) e3 l3
    (names_there v p3 h.signer h.reference _ (legal_names h l)) in
    let i4 = placed date p4 _ s (4 + w) 3 h.issued e4 l4 (date_there p4 h.issued _ l.issued) in
    let i5 = placed date p5 _ s (4 + w + 3) 3 h.signed e5 l5 (date_there p5 h.signed _ l.signed) in
    let i6 = placed last p6 _ s (4 + w + 3 + 3) 1 h.definition e6 l6 (last_there p6 h.definition _ l.definition) in
    let i7 = placed last (p6 ++ (h.definition ∷ [])) _ s (4 + w + 3 + 3 + 1) 1 h.category e7 l7
    (last_there (p6 ++ (h.definition ∷ [])) h.category _ l.category) in
    let end : 4 + w + 3 + 3 + 1 + 1 ≡ length (header_zone h) =
    omega (arith, l7, ap length e7, length-append (p6 ++ (h.definition ∷ [])) r7, length-append (header_zone h) t) in
    rw (i0, i1, i2, i3, i4, i5, i6, i7) (ap (is h) end)

-- the five sizes pass the test
pub size_passes : (n : ℕ) → SignatureSize n → is_signature n ≡ true
size_passes n n28 = refl
size_passes n n32 = refl
size_passes n n48 = refl
size_passes n n64 = refl
size_passes n n66 = refl

pub size_small : (n : ℕ) → SignatureSize n → n ≤ 132
size_small n n28 = omega arith
size_small n n32 = omega arith
size_small n n48 = omega arith
size_small n n64 = omega arith
size_small n n66 = omega arith

pub signature_there :
    (p z : List ℕ) →
    SignatureSize (length z) →
    signature (length p) (p ++ (counted der_form z)) ≡ is (length z) (length p + length (der_form (length z)))
unfolding signature
signature_there p z size =
    let n = length z in
    let w = length (der_form n) in
    let q = p ++ der_form n in
    let s = p ++ (der_form n ++ z) in
    let e1 : s ≡ q ++ (z ++ []) = sym (append_assoc p (der_form n) z) ∙ ap (λ u. q ++ u) (sym (append-nil z)) in
    let l1 : length q ≡ length p + w = length-append p (der_form n) in
    let whole_length : length s ≡ length p + w + n = omega (arith, length-append p (der_form n ++ z), length-append (der_form n) z) in
    let i0 : der_length (length p) s ≡ is n (length p + w) = der_there p n z (omega (arith, size_small n size)) in
    let raw = raw_in n (length p + w) in
    let end = end_in (length p + w) s in
    let i1 : whole n (length p + w) s raw ≡ is n (length p + w + n) =
    ap (λ u. whole n (length p + w) u raw) e1 ∙ ap (λ k. whole n k (q ++ (z ++ [])) raw) (sym l1) ∙ whole_there n q z [] raw refl in
    ap (λ i. next item.SignatureLength i (size_in (length p) s)) i0
    ∙ ap
    (λ b. pick b (next item.Signature (whole n (length p + w) s raw) end) (not (why item.SignatureLength rule.SignatureSize) (length p)))
    (size_passes n size)
    ∙ ap (λ i. next item.Signature i end) i1
    ∙ ap (λ b. pick b (not (why item.End rule.NothingAfter) (length p + w + n)) (is n (length p + w)))
    (le-ltb (length p + w + n) (length s) (omega arith))

-- what is reported of a content
unfoldable pub report_of : Content → Report
report_of c =
    let header_end = length (header_zone c.header) in
    let message_end = header_end + length (message_zone c.header.version c.features) in
    record {
      header = c.header;
      rows = rows_of c.header.version header_end c.features;
      header_end = header_end;
      message_end = message_end;
      seal_end = length (publish c);
      signature_place = message_end + 1 + length (der_form (length c.signature));
      signature_size_lem = length c.signature;
    }

-- the published form of a legal content is accepted, and that is what is reported
pub published_accepted : (c : Content) → Legal c → judge (publish c) ≡ accepted (report_of c)
unfolding judge judging reading report_of publish signed_bytes signature_zone
published_accepted c l =
    let v = c.header.version in
    let h = header_zone c.header in
    let m = message_zone v c.features in
    let z = c.signature in
    let g = counted der_form z in
    let s = (h ++ m) ++ (0xFF ∷ g) in
    let e0 : s ≡ h ++ (m ++ (0xFF ∷ g)) = append_assoc h m (0xFF ∷ g) in
    let q = (h ++ m) ++ (0xFF ∷ []) in
    let e1 : s ≡ q ++ g = sym (append_assoc (h ++ m) (0xFF ∷ []) g) in
    let lq : length q ≡ length h + length m + 1 = omega (arith, length-append (h ++ m) (0xFF ∷ []), length-append h m) in
    let small : length m ≤ length s = omega (arith, length-append (h ++ m) (0xFF ∷ g), length-append h m) in
    let fits : ltb 4096 (length s) ≡ false = le-ltb 4096 (length s) l.size in
    let i0 : header s ≡ is c.header (length h) = ap header e0 ∙ header_there c.header (m ++ (0xFF ∷ g)) l.header in
    let i1 : features 256 v [] (length h) s ≡ is (rows_of v (length h) c.features) (length h + length m) =
    ap (features 256 v [] (length h)) e0
    ∙ features_there 256 v c.features [] [] h g l.features (λ x u. refl) refl (omega (arith, features_most c l))
    (omega (arith, l.size)) in
    let i2 : signature (length h + length m + 1) s ≡ is (length z) (length h + length m + 1 + length (der_form (length z))) =
    ap (signature (length h + length m + 1)) e1
    ∙ ap (λ k. signature k (q ++ g)) (sym lq)
    ∙ signature_there q z l.signature
    ∙ ap (λ k. is (length z) (k + length (der_form (length z)))) lq in
    rw (fits, i0, i1, i2) refl
