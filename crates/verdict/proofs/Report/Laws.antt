-- What is reported of a published form is its content.
-- Assumes nothing.
use Rattle.std.specs.Prelude.{◌≡◌, refl, ℕ, ◌+◌, List, [], ◌∷◌, ◌++◌, map, length, take}
use Rattle.std.proofs.Common.{ap, sym, ◌∙◌, arith, append_assoc, append-nil, length-append, take_at, drop_at}
use Rattle.der.specs.Length.{form as der_form}
use Rattle.grammar.specs.Content.{Version, Feature, Content}
use Rattle.grammar.specs.Publish.{length_of, header_zone, message_zone, signature_zone, signed_bytes, publish}
use Rattle.verdict.proofs.Judge.Features.{rows_of, to_value, to_next, parts}
use Rattle.verdict.proofs.Judge.Complete.{report_of}
use Rattle.verdict.specs.Report.{part, feature_of, content_of}

-- a part that stands after p
pub part_there : (p b t s : List ℕ) (k : ℕ) → s ≡ p ++ (b ++ t) → length p ≡ k → part k (length b) s ≡ b
part_there p b t s k e l = ap (λ z. part k (length b) z) e ∙ ap (take (length b)) (drop_at p (b ++ t) k l) ∙ take_at b t (length b) refl

rows_back :
    (v : Version) (fs : List Feature) (p t s : List ℕ) (at : ℕ) →
    s ≡ p ++ (message_zone v fs ++ t) →
    length p ≡ at →
    map (feature_of s) (rows_of v at fs) ≡ fs
unfolding rows_of
rows_back v [] p t s at e l = refl
rows_back v (f ∷ fs) p t s at e l =
    let n = length f.value in
    let w = length (length_of v n) in
    let q = parts v f fs p t s e in
    let ih = rows_back v fs (to_next v f p) t s (at + 1 + w + n) q.next (omega (arith, q.next_place, l)) in
    ap (λ b. record { tag = f.tag; value = b } ∷ map (feature_of s) (rows_of v (at + 1 + w + n) fs))
    (part_there (to_value v f p) f.value (message_zone v fs ++ t) s (at + 1 + w) q.value (omega (arith, q.value_place, l)))
    ∙ ap (λ u. f ∷ u) ih

-- "and it is what the reader reports"
pub reported : (c : Content) → content_of (publish c) (report_of c) ≡ c
unfolding content_of report_of publish signed_bytes signature_zone
reported c =
    let v = c.header.version in
    let h = header_zone c.header in
    let m = message_zone v c.features in
    let z = c.signature in
    let d = der_form (length z) in
    let s = (h ++ m) ++ (0xFF ∷ (d ++ z)) in
    let q = ((h ++ m) ++ (0xFF ∷ [])) ++ d in
    let e : s ≡ q ++ (z ++ []) =
    sym (append_assoc (h ++ m) (0xFF ∷ []) (d ++ z))
    ∙ sym (append_assoc ((h ++ m) ++ (0xFF ∷ [])) d z)
    ∙ ap (λ u. q ++ u) (sym (append-nil z)) in
    let lq : length q ≡ length h + length m + 1 + length d =
    omega (arith, length-append ((h ++ m) ++ (0xFF ∷ [])) d, length-append (h ++ m) (0xFF ∷ []), length-append h m) in
    ap (λ fs. record { header = c.header; features = fs; signature = part (length h + length m + 1 + length d) (length z) s })
    (rows_back v c.features h (0xFF ∷ (d ++ z)) s (length h) (append_assoc h m (0xFF ∷ (d ++ z))) refl)
    ∙ ap (λ b. record { header = c.header; features = c.features; signature = b })
    (part_there q z [] s (length h + length m + 1 + length d) e lq)

-- the tags and value bytes that its rows say are its features
pub features_reported : (c : Content) → map (feature_of (publish c)) (report_of c).rows ≡ c.features
unfolding content_of
features_reported c = ap (λ d. d.features) (reported c)
