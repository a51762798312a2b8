-- How long a listing can be: 8,562 bytes are room for every one. 255 features of at most 32 bytes, and 402 for the other lines.
-- Assumes nothing.
use Rattle.std.specs.Prelude.{ℕ, suc, ◌+◌, ◌*◌, ◌^◌, ◌≤◌, ◌<◌, ◌≡◌, refl, List, [], ◌∷◌, ◌++◌, length}
use Rattle.std.proofs.Common.{arith, ap, sym, subst, length-append}
use Rattle.format.specs.Bytes.{Bytes}
use Rattle.der.specs.Length.{form}
use Rattle.grammar.specs.Content.{Version, three, four, Feature, Content}
use Rattle.grammar.specs.Publish.{length_of, header_zone, message_zone, signature_zone}
use Rattle.grammar.specs.Legal.{ReferenceSize, LegalFeatures, Legal}
use Rattle.grammar.proofs.Sizes.{features_most}
use Rattle.grammar.proofs.Theorems.{zones_add_up}
use Rattle.versions.specs.Versions.{version_number}
use Rattle.verdict.specs.Judge.{Verdict, accepted, refused, judge}
use Rattle.verdict.proofs.Judge.Complete.{report_of, size_small}
use Rattle.verdict.proofs.Judge.Features.{rows_of, feature_parts}
use Rattle.verdict.specs.Judge.Listed.{FromList, from_list}
use Rattle.verdict.proofs.Judge.Seals.{accepted_only}
use Rattle.lines.specs.Line.{decimal_of, ◌then◌}
use Rattle.list_lines.specs.ListLine.{line, day}
use Rattle.list_lines.specs.LineSize.{decimal_size, day_size}
use Rattle.listing.specs.Listed.{part, feature, feature_lines, listed}

-- where a part stands, by the digits of its length, and the line of a feature
part_size : (k place size : ℕ) → place < 10000 → size < 10 ^ suc k → length (part place size) ≤ 16 + suc k
part_size k place size h g = simp length-append (omega (arith, decimal_size 3 place h, decimal_size k size g))

feature_size : (tag place size : ℕ) → tag < 1000 → place < 10000 → size < 10000 → length (feature tag place size) ≤ 32
feature_size tag place size h g f = simp length-append (omega (arith, decimal_size 2 tag h, decimal_size 3 place g, decimal_size 3 size f))

rows_size_lem :
    (v : Version) (fs : List Feature) (tags t : List ℕ) (at : ℕ) →
    LegalFeatures v tags fs →
    at + length (message_zone v fs ++ t) ≤ 4096 →
    length (feature_lines (rows_of v at fs)) ≤ 32 * length fs
unfolding feature_lines rows_of
rows_size_lem v [] tags t at l h = omega arith
rows_size_lem v (f ∷ fs) tags t at l h =
    let n = length f.value in
    let w = length_of v n in
    let rest = message_zone v fs ++ t in
    let place = at + 1 + length w in
    let long = ap length (feature_parts v f fs t) in
    let one = length-append w (f.value ++ rest) in
    let two = length-append f.value rest in
    let ih = rows_size_lem v fs (f.tag ∷ tags) t (place + n) l.4 (omega arith) in
    let here = feature_size f.tag place n (omega (arith, l.0)) (omega arith) (omega arith) in
    let both = length-append (feature f.tag place n) (feature_lines (rows_of v (place + n) fs)) in
    omega arith

version_size : (v : Version) → length (decimal_of (version_number v)) ≤ 1
version_size three = decimal_size 0 3 (omega arith)
version_size four = decimal_size 0 4 (omega arith)

reference_size : (v : Version) (n : ℕ) → ReferenceSize v n → n ≤ 255
reference_size three n h = omega arith
reference_size four n h = h.1

-- the eleven parts of a listing
abbrev joint : List ℕ → List ℕ → List ℕ → List ℕ → List ℕ → List ℕ → List ℕ → List ℕ → List ℕ → List ℕ → List ℕ
joint v c s r i g d k f z =
    line "accepted" []
    then line "version " v
    then line "country " c
    then line "signer " s
    then line "reference " r
    then line "issued " i
    then line "signed " g
    then line "definition " d
    then line "category " k
    then f
    then line "signature" z

eleven :
    (v c s r i g d k f z : List ℕ) →
    length v ≤ 1 → length c ≤ 3 → length s ≤ 4 → length r ≤ 255 → length i ≤ 10 → length g ≤ 10 → length d ≤ 3 → length k ≤ 3 →
    length f ≤ 8160 →
    length z ≤ 19 →
    length (joint v c s r i g d k f z) ≤ 8562
eleven v c s r i g d k f z p0 p1 p2 p3 p4 p5 p6 p7 p8 p9 = simp length-append (omega arith)

accepted_size : (c : Content) → Legal c → length (listed (accepted (report_of c))) ≤ 8562
unfolding listed report_of signature_zone
accepted_size c l =
    let h = c.header in
    let at = length (header_zone h) in
    let zone = message_zone h.version c.features in
    let start = at + length zone + 1 + length (form (length c.signature)) in
    let whole = zones_add_up c in
    let z = length-append (form (length c.signature)) c.signature in
    let none = length-append zone [] in
    let size = l.size in
    let few = features_most c l in
    let rows = rows_size_lem h.version c.features [] [] at l.features (omega arith) in
    eleven (decimal_of (version_number h.version)) h.country h.signer h.reference (day h.issued) (day h.signed)
    (decimal_of h.definition) (decimal_of h.category)
    (feature_lines (rows_of h.version at c.features)) (part start (length c.signature))
    (version_size h.version)
    (omega (arith, l.header.country.size))
    (omega (arith, l.header.signer.size))
    (reference_size h.version (length h.reference) l.header.size)
    (day_size h.issued l.header.issued)
    (day_size h.signed l.header.signed)
    (decimal_size 2 h.definition (omega (arith, l.header.definition.1)))
    (decimal_size 2 h.category (omega (arith, l.header.category.1)))
    (omega arith)
    (part_size 2 start (length c.signature) (omega arith) (omega (arith, size_small (length c.signature) l.signature)))

-- the place of a refusal is a number of 64 bits, as the code's answer is
abbrev pub Word : Verdict → Type 0
Word (accepted r) = Unit
Word (refused number place) = place < 18446744073709551616

verdict_size : (s : List ℕ) → Bytes s → (v : Verdict) → judge s ≡ v → FromList v → Word v → length (listed v) ≤ 8562
unfolding listed
verdict_size s bytes (accepted r) e l w =
    let seal = accepted_only s bytes r e in
    subst (λ q. length (listed (accepted q)) ≤ 8562) (sym seal.report_is) (accepted_size seal.content seal.legal)
verdict_size s bytes (refused number place) e l w =
    simp length-append
    (omega (arith, decimal_size 1 number (omega (arith, l.1)), decimal_size 19 place (omega arith)))

pub room : (s : List ℕ) → Bytes s → Word (judge s) → length (listed (judge s)) ≤ 8562
room s bytes w = verdict_size s bytes (judge s) refl (from_list s) w
