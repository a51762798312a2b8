-- How long a text can be: 11,730 bytes are room for every one: 255 features of at most 46 bytes.
-- Assumes nothing.
use Rattle.std.specs.Prelude.{ℕ, ◌+◌, ◌*◌, ◌≤◌, ◌<◌, ◌≡◌, refl, List, [], ◌∷◌, ◌++◌, length}
use Rattle.std.proofs.Common.{arith, ap, sym, subst, length-append}
use Rattle.format.specs.Bytes.{Bytes, All}
use Rattle.grammar.specs.Content.{Version, Feature, Content}
use Rattle.grammar.specs.Publish.{length_of, header_zone, message_zone}
use Rattle.grammar.specs.Legal.{LegalFeatures, Legal}
use Rattle.grammar.proofs.Sizes.{features_most}
use Rattle.grammar.proofs.Theorems.{zones_add_up}
use Rattle.rows.specs.declared.Row.{Row}
use Rattle.verdict.specs.Judge.{Verdict, accepted, refused, judge}
use Rattle.verdict.proofs.Judge.Complete.{report_of}
use Rattle.verdict.proofs.Judge.Features.{rows_of, feature_parts}
use Rattle.verdict.specs.Judge.Listed.{FromList, from_list}
use Rattle.verdict.proofs.Judge.Seals.{accepted_only}
use Rattle.reading.specs.Calls.Reads.{length_rows_of}
use Rattle.list_lines.specs.LineSize.{decimal_size}
use Rattle.walk_steps.specs.Steps.{start_of}
use Rattle.walk_lines.specs.Lines.{feature, feature_lines, text_of}

-- the numbers of a row have so many digits
record Small (r : Row) : Type 0 where
  tag : r.tag < 1000
  start : r.start < 10000
  place : r.place < 10000
  size : r.size < 10000

feature_size : (r : Row) → Small r → length (feature r) ≤ 46
unfolding feature
feature_size r s =
    simp length-append
    (omega (
      arith,
      decimal_size 2 r.tag s.tag,
      decimal_size 3 r.start s.start,
      decimal_size 3 r.place s.place,
      decimal_size 3 r.size s.size,
    ))

lines_size : (rows : List Row) → All Small rows → length (feature_lines rows) ≤ 46 * length rows
unfolding feature_lines
lines_size [] all = omega arith
lines_size (r ∷ rows) all =
    let ih = lines_size rows all.1 in
    omega (arith, length-append (feature r) (feature_lines rows), feature_size r all.0)

rows_small :
    (v : Version) (fs : List Feature) (tags t : List ℕ) (at : ℕ) →
    LegalFeatures v tags fs →
    at + length (message_zone v fs ++ t) ≤ 4096 →
    All Small (rows_of v at fs)
unfolding rows_of
rows_small v [] tags t at l h = tt
rows_small v (f ∷ fs) tags t at l h =
    let n = length f.value in
    let w = length_of v n in
    let rest = message_zone v fs ++ t in
    let long = ap length (feature_parts v f fs t) in
    let one = length-append w (f.value ++ rest) in
    let two = length-append f.value rest in
    let ih = rows_small v fs (f.tag ∷ tags) t (at + 1 + length w + n) l.4 (omega arith) in
    (record { tag = omega (arith, l.0); start = omega arith; place = omega arith; size = omega arith }, ih)

accepted_size : (c : Content) → Legal c → length (text_of (accepted (report_of c))) ≤ 11730
unfolding text_of report_of
accepted_size c l =
    let v = c.header.version in
    let at = length (header_zone c.header) in
    let none = length-append (message_zone v c.features) [] in
    let small = rows_small v c.features [] [] at l.features (omega (arith, zones_add_up c, l.size)) in
    omega (arith, lines_size (rows_of v at c.features) small, length_rows_of v at c.features, features_most c l)

-- the place of a refusal is a number of 64 bits, as the code's answer is
abbrev pub Word : Verdict → Type 0
Word v = (start_of v).place < 18446744073709551616

verdict_size : (s : List ℕ) → Bytes s → (v : Verdict) → judge s ≡ v → FromList v → Word v → length (text_of v) ≤ 11730
unfolding text_of
verdict_size s bytes (accepted r) e l w =
    let seal = accepted_only s bytes r e in
    subst (λ q. length (text_of (accepted q)) ≤ 11730) (sym seal.report_is) (accepted_size seal.content seal.legal)
verdict_size s bytes (refused number place) e l w =
    simp length-append (omega (arith, decimal_size 1 number (omega (arith, l.1)), decimal_size 19 place (omega arith)))

pub room : (s : List ℕ) → Bytes s → Word (judge s) → length (text_of (judge s)) ≤ 11730
room s bytes w = verdict_size s bytes (judge s) refl (from_list s) w
