-- Every row that is reported of an accepted seal frames its feature, and the features lie one after another.
-- Assumes nothing.
use Rattle.std.specs.Prelude.{◌≡◌, refl, ℕ, ◌+◌, List, [], ◌∷◌, ◌++◌, length}
use Rattle.std.proofs.Common.{ap, sym, subst, ◌∙◌, arith, append_assoc, length-append}
use Rattle.format.specs.Bytes.{Bytes, All}
use Rattle.grammar.specs.Content.{Version, Feature, Content}
use Rattle.grammar.specs.Publish.{length_of, feature, header_zone, message_zone, signature_zone, signed_bytes, publish}
use Rattle.rows.specs.Rows.{row_of}
use Rattle.verdict.specs.Judge.{Row, Report, accepted, judge}
use Rattle.verdict.proofs.Judge.Complete.{report_of}
use Rattle.verdict.proofs.Judge.Features.{rows_of, to_length, to_value, to_next, Parts, parts, zone_size}
use Rattle.verdict.proofs.Judge.Seals.{accepted_only}
use Rattle.verdict.specs.Report.{feature_of}
use Rattle.verdict.proofs.Report.Laws.{part_there}
use Rattle.verdict.specs.Frames.{Between, end_of, Framed, Chain, Frames}

-- bytes that stand after p
between : (p b t s : List ℕ) (at end : ℕ) → s ≡ p ++ (b ++ t) → length p ≡ at → at + length b ≡ end → Between at end s b
between p b t s at end e l f = (part_there p b t s at e l, f)

-- the row of a feature that stands after p
module _ (v : Version) (f : Feature) (rest p s : List ℕ) (at : ℕ) (q : Parts v f rest p s) (l : length p ≡ at) where
  abbrev coded : List ℕ
  coded = length_of v (length f.value)

  abbrev here : Row
  here = row_of f.tag at (at + 1 + length coded) (length f.value)

  -- the value that it says
  said : f.value ≡ (feature_of s here).value
  said = sym (part_there (to_value v f p) f.value rest s here.place q.value (omega (arith, q.value_place, l)))

  row_framed : Framed v s here
  row_framed =
      let together : s ≡ p ++ (feature v f ++ rest) = q.tag ∙ ap (λ z. p ++ (f.tag ∷ z)) (sym (append_assoc coded f.value rest)) in
      record {
        tag = between p (f.tag ∷ []) (coded ++ (f.value ++ rest)) s at (at + 1) q.tag l refl;
        sized =
            between (to_length f p) coded (f.value ++ rest) s (at + 1) here.place q.sized (omega (arith, q.sized_place, l)) refl;
        value =
            subst (Between here.place (end_of here) s) said
            (between (to_value v f p) f.value rest s here.place (end_of here) q.value (omega (arith, q.value_place, l)) refl);
        whole =
            subst (λ b. Between at (end_of here) s (feature v (record { tag = f.tag; value = b }))) said
            (between p (feature v f) rest s at (end_of here) together l (omega (arith, length-append coded f.value)));
      }

rows_framed : (v : Version) (fs : List Feature) (p t s : List ℕ) (at : ℕ) → s ≡ p ++ (message_zone v fs ++ t) → length p ≡ at →
    All (Framed v s) (rows_of v at fs) × Chain at (rows_of v at fs) (at + length (message_zone v fs))
unfolding rows_of message_zone
rows_framed v [] p t s at e l = (tt, omega arith)
rows_framed v (f ∷ fs) p t s at e l =
    let rest = message_zone v fs ++ t in
    let q = parts v f fs p t s e in
    let next = end_of (here v f rest p s at q l) in
    let ih = rows_framed v fs (to_next v f p) t s next q.next (omega (arith, q.next_place, l)) in
    let end : next + length (message_zone v fs) ≡ at + length (message_zone v (f ∷ fs)) = omega (arith, zone_size v f fs) in
    ((row_framed v f rest p s at q l, ih.0), (refl, subst (Chain next (rows_of v next fs)) end ih.1))

content_frames : (c : Content) → Frames (publish c) (report_of c)
unfolding report_of publish signed_bytes
content_frames c =
    let h = header_zone c.header in
    let m = message_zone c.header.version c.features in
    let z = signature_zone c.signature in
    let g = rows_framed c.header.version c.features h z ((h ++ m) ++ z) (length h) (append_assoc h m z) refl in
    record { each = g.0; chain = g.1 }

pub frames : (s : List ℕ) → Bytes s → (r : Report) → judge s ≡ accepted r → Frames s r
frames s bytes r e =
    let a = accepted_only s bytes r e in
    subst (Frames s) (sym a.report_is) (subst (λ u. Frames u (report_of a.content)) a.form_is (content_frames a.content))
