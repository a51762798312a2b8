-- The law `Cut` of header, features and seal, by peeling the parts off the left in the order of the Layout.
-- Assumes nothing.
use Rattle.std.specs.Prelude.{◌≡◌, ℕ, ◌^◌, ◌<◌, ◌≤◌, List, [], ◌∷◌, ◌++◌, map, length}
use Rattle.std.proofs.Common.{ap, sym, subst, ◌∙◌, arith, append_assoc, length-append}
use Rattle.format.specs.Bytes.{All}
use Rattle.format.specs.Cut.{Cut, counted, each, NotFrom}
use Rattle.format.proofs.Cut.Laws.{cut_byte, cut_counted, cut_until}
use Rattle.c40.specs.Text.{publish as c40}
use Rattle.dates.specs.Days.{publish as date}
use Rattle.dates.proofs.Days.Laws.{cut_date}
use Rattle.der.specs.Length.{Sized, form}
use Rattle.der.proofs.Lengths.Exact.{cut_form}
use Rattle.grammar.specs.Content.{Version, three, four, Header, Feature, Content}
use Rattle.versions.specs.Versions.{version_byte}
use Rattle.versions.proofs.Versions.Laws.{one_version}
use Rattle.grammar.specs.Publish.{carried, names, header_zone, length_of, feature, message_zone, signature_zone, signed_bytes, publish}
use Rattle.grammar.specs.Legal.{LegalHeader, LegalFeatures, SignatureSize, n28, n32, n48, n64, n66, Legal}
use Rattle.grammar.proofs.Parts.{cut_country, Names, cut_names}

-- the header's parts, bracketed to the right
pub header_parts :
    (h : Header) (t : List ℕ) →
    header_zone h ++ t
    ≡ 0xDC ∷ version_byte h.version
    ∷ (c40 (map carried h.country)
    ++ (names h.version h.signer h.reference ++ (date h.issued ++ (date h.signed ++ (h.definition ∷ h.category ∷ t)))))
unfolding header_zone
header_parts h t = simp append_assoc

pub legal_names : (h : Header) → LegalHeader h → Names h.version (h.signer, h.reference)
legal_names h l = record { signer = l.signer; reference = l.reference; size = l.size }

pub cut_header : Cut LegalHeader header_zone
cut_header a b t u la lb e =
    let e0 = sym (header_parts a t) ∙ e ∙ header_parts b u in
    let c0 = cut_byte 0xDC 0xDC _ _ tt tt e0 in
    let c1 = cut_byte (version_byte a.version) (version_byte b.version) _ _ tt tt c0.1 in
    let v = one_version a.version b.version c1.0 in
    let c2 = cut_country a.country b.country _ _ la.country lb.country c1.1 in
    let nb : Names a.version (b.signer, b.reference) = subst (λ w. Names w (b.signer, b.reference)) (sym v) (legal_names b lb) in
    let e3 = c2.1
    ∙ ap (λ w. names w b.signer b.reference ++ (date b.issued ++ (date b.signed ++ (b.definition ∷ b.category ∷ u))))
    (sym v) in
    let c3 = cut_names a.version (a.signer, a.reference) (b.signer, b.reference) _ _ (legal_names a la) nb e3 in
    let c4 = cut_date a.issued b.issued _ _ la.issued lb.issued c3.1 in
    let c5 = cut_date a.signed b.signed _ _ la.signed lb.signed c4.1 in
    let c6 = cut_byte a.definition b.definition _ _ tt tt c5.1 in
    let c7 = cut_byte a.category b.category t u tt tt c6.1 in (
      (λ i. record {
        version = v i;
        country = c2.0 i;
        signer = (c3.0 i).0;
        reference = (c3.0 i).1;
        issued = c4.0 i;
        signed = c5.0 i;
        definition = c6.0 i;
        category = c7.0 i;
      }),
      c7.1,
    )

-- a feature: its tag, then its value after its length
pub LengthLegal : Version → ℕ → Type 0
LengthLegal three n = Unit
LengthLegal four n = Sized n

cut_length : (v : Version) → Cut (LengthLegal v) (length_of v)
unfolding LengthLegal
cut_length three = cut_byte
cut_length four = cut_form

pub FeatureLegal : Version → Feature → Type 0
FeatureLegal v f = (f.tag ≤ 254) × LengthLegal v (length f.value)

cut_feature : (v : Version) → Cut (FeatureLegal v) (feature v)
unfolding FeatureLegal
cut_feature v a b t u la lb e =
    let c = cut_byte a.tag b.tag (counted (length_of v) a.value ++ t) (counted (length_of v) b.value ++ u) tt tt e in
    let d = cut_counted (LengthLegal v) (length_of v) (cut_length v) a.value b.value t u la.1 lb.1 c.1 in
    (λ i. record { tag = c.0 i; value = d.0 i }, d.1)

not_mark : (v : Version) (f : Feature) → FeatureLegal v f → NotFrom 0xFF (feature v f)
unfolding FeatureLegal
not_mark v f l e = omega (arith, l.0)

-- features up to FF
pub cut_features : (v : Version) → Cut (All (FeatureLegal v)) (λ fs. message_zone v fs ++ (0xFF ∷ []))
unfolding message_zone
cut_features v = cut_until (FeatureLegal v) (feature v) (cut_feature v) 0xFF (not_mark v)

-- legal features of a seal that is not too long
pub features_legal :
    (v : Version) (used : List ℕ) (fs : List Feature) →
    LegalFeatures v used fs →
    length (message_zone v fs) < 2 ^ 32 →
    All (FeatureLegal v) fs
unfolding message_zone FeatureLegal LengthLegal
features_legal v used [] l h = tt
features_legal v used (f ∷ fs) l h =
    let whole = length-append (feature v f) (each (feature v) fs) in
    let part = length-append (length_of v (length f.value)) f.value in
    ((l.0, sized v (omega arith)), features_legal v (f.tag ∷ used) fs l.4 (omega arith))
  where
    sized : (w : Version) → length f.value < 2 ^ 32 → LengthLegal w (length f.value)
    sized three s = tt
    sized four s = s

signature_sized : (n : ℕ) → SignatureSize n → Sized n
signature_sized n n28 = omega arith
signature_sized n n32 = omega arith
signature_sized n n48 = omega arith
signature_sized n n64 = omega arith
signature_sized n n66 = omega arith

-- the seal's zones, bracketed to the right
seal_parts :
    (c : Content) (t : List ℕ) →
    publish c ++ t
    ≡ header_zone c.header ++ ((message_zone c.header.version c.features ++ (0xFF ∷ [])) ++ (counted form c.signature ++ t))
unfolding publish signed_bytes signature_zone
seal_parts c t = simp append_assoc

-- a message is shorter than its seal
message_short : (c : Content) → length (message_zone c.header.version c.features) ≤ length (publish c)
unfolding publish signed_bytes
message_short c =
    let h = header_zone c.header in
    let m = message_zone c.header.version c.features in
    let z = signature_zone c.signature in
    omega (arith, length-append (h ++ m) z, length-append h m)

pub legal_features : (c : Content) → Legal c → All (FeatureLegal c.header.version) c.features
legal_features c l = features_legal c.header.version [] c.features l.features (omega (arith, message_short c, l.size))

-- header and features, from bytes in which FF follows them
pub cut_front :
    (a b : Content) (t u : List ℕ) →
    Legal a →
    Legal b →
    header_zone a.header ++ ((message_zone a.header.version a.features ++ (0xFF ∷ [])) ++ t)
    ≡ header_zone b.header ++ ((message_zone b.header.version b.features ++ (0xFF ∷ [])) ++ u) →
    (a.header ≡ b.header) × (a.features ≡ b.features) × (t ≡ u)
cut_front a b t u la lb e =
    let v = a.header.version in
    let h = cut_header a.header b.header _ _ la.header lb.header e in
    let same : b.header.version ≡ v = ap (λ (x : Header). x.version) (sym h.0) in
    let fb : All (FeatureLegal v) b.features = subst (λ w. All (FeatureLegal w) b.features) same (legal_features b lb) in
    let e2 = h.1 ∙ ap (λ w. (message_zone w b.features ++ (0xFF ∷ [])) ++ u) same in
    let f = cut_features v a.features b.features t u (legal_features a la) fb e2 in
    (h.0, f.0, f.1)

pub cut_seal : Cut Legal publish
cut_seal a b t u la lb e =
    let c = cut_front a b (counted form a.signature ++ t) (counted form b.signature ++ u) la lb
    (sym (seal_parts a t) ∙ e ∙ seal_parts b u) in
    let s = cut_counted Sized form cut_form a.signature b.signature t u (signature_sized _ la.signature)
    (signature_sized _ lb.signature) c.2 in
    (λ i. record { header = c.0 i; features = c.1 i; signature = s.0 i }, s.1)
