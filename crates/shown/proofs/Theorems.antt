-- What is proved of the look-up, in the sentences of document 02, Ticket 2, each before its theorem. `Has`, `seen`, `seen_in`: Values.antt.
-- Assumes nothing.
use Rattle.std.specs.Prelude.{◌≡◌, refl, ◌⊎◌, ℕ, ◌+◌, ◌≤◌, ◌<◌, List, [], ◌∷◌, map, Result, Ok, Err, eqb, length}
use Rattle.std.proofs.Common.{ap, sym, subst, ◌∙◌, inl, inr, ⊎_elim, arith}
use Rattle.std.proofs.Math.Option.{Option, none, some, some-injective}
use Rattle.std.specs.Borrow.{Bor}
use Rattle.format.specs.Bytes.{Bytes, All}
use Rattle.format.specs.Choice.{pick}
use Rattle.format.specs.Choice.Laws.{by_test}
use Rattle.grammar.specs.Content.{Version, Feature, Content}
use Rattle.grammar.specs.Legal.{LegalFeatures, Legal}
use Rattle.grammar.specs.Publish.{publish}
use Rattle.verdict.specs.Judge.{Row, Report, Verdict, accepted, refused, judge}
use Rattle.verdict.proofs.Judge.Complete.{report_of, published_accepted}
use Rattle.verdict.specs.Judge.Listed.{FromList, from_list}
use Rattle.verdict.specs.Frames.{end_of}
use Rattle.verdict.specs.Report.{feature_of}
use Rattle.verdict.proofs.Report.Laws.{features_reported}
use Rattle.reading.specs.declared.Part.{Part}
use Rattle.walk_steps.proofs.Rows.Laws.{rows_found, rows_inside}
use Rattle.shown.specs.declared.Where.{Where}
use Rattle.shown.specs.declared.Where.TheVariants.{Extension, Main}
use Rattle.shown.specs.declared.NotShown.{NotShown}
use Rattle.shown.specs.Where.{value_in, first_of, look_up, where_is, empty, answer_of, IsShown}
use Rattle.shown.specs.Values.{Has, value_of, Seen, bytes_of, seen, seen_of, seen_in}
use Rattle.shown.proofs.Values.Laws.{none_some, value_has, none_has, has_value, seen_rows}

-- "For a given tag number, show the value out of the extension seal if it has that feature, otherwise out of the main seal": what is seen
-- of two seals is what their contents say
pub shown_contents : (main extension : Content) → Legal main → Legal extension → (tag : ℕ)
    → seen (publish main) (publish extension) (where_is (publish main) (publish extension) tag) ≡ seen_in main extension tag
unfolding where_is
shown_contents c d lc ld tag =
    ap (λ v. seen (publish c) (publish d) (look_up tag v (judge (publish d)))) (published_accepted c lc)
    ∙ ap (λ w. seen (publish c) (publish d) (look_up tag (accepted (report_of c)) w)) (published_accepted d ld)
    ∙ seen_rows (publish c) (publish d) tag (report_of c).rows (report_of d).rows
    ∙ ap (λ fs. seen_of (value_of tag fs) (value_of tag (map (feature_of (publish c)) (report_of c).rows))) (features_reported d)
    ∙ ap (λ fs. seen_of (value_of tag d.features) (value_of tag fs)) (features_reported c)

-- nothing is found where nothing is had
nothing_found : (tag : ℕ) (fs : List Feature) → ((value : List ℕ) → Has tag value fs → ⊥) → value_of tag fs ≡ none
nothing_found tag fs h = by (value_of tag fs) refl
  where
    by : (o : Option (List ℕ)) → value_of tag fs ≡ o → value_of tag fs ≡ none
    by none e = e
    by (some value) e = absurd (h value (value_has tag value fs e))

-- a legal feature's tag is at most 254
too_great : (v : Version) (used : List ℕ) (fs : List Feature) → LegalFeatures v used fs → (tag : ℕ) (value : List ℕ) → 254 < tag
    → Has tag value fs → ⊥
too_great v used [] l tag value over h = h
too_great v used (f ∷ fs) l tag value over h =
    ⊎_elim (λ g. omega (arith, l.0, g.0)) (too_great v (f.tag ∷ used) fs l.4 tag value over) h

-- the same by which feature the contents have, in each case
module _ (main extension : Content) (lm : Legal main) (lx : Legal extension) (tag : ℕ) where
  abbrev shown_here : Seen
  shown_here = seen (publish main) (publish extension) (where_is (publish main) (publish extension) tag)

  abbrev HasNone : Content → Type 0
  HasNone c = (value : List ℕ) → Has tag value c.features → ⊥

  pub out_of_extension : (value : List ℕ) → Has tag value extension.features
      → shown_here ≡ record { number = 0; which = 2; bytes = value }
  out_of_extension value h =
      shown_contents main extension lm lx tag
      ∙ ap (λ o. seen_of o (value_of tag main.features))
      (has_value extension.header.version [] extension.features lx.features tag value h)

  pub out_of_main : HasNone extension → (value : List ℕ) → Has tag value main.features
      → shown_here ≡ record { number = 0; which = 1; bytes = value }
  out_of_main lacks value h =
      shown_contents main extension lm lx tag
      ∙ ap (λ o. seen_of o (value_of tag main.features)) (nothing_found tag extension.features lacks)
      ∙ ap (seen_of none) (has_value main.header.version [] main.features lm.features tag value h)

  -- "50 feature in neither seal", exactly then
  pub in_neither : HasNone extension → HasNone main → shown_here ≡ record { number = 50; which = 0; bytes = [] }
  in_neither lacks others =
      shown_contents main extension lm lx tag
      ∙ ap (λ o. seen_of o (value_of tag main.features)) (nothing_found tag extension.features lacks)
      ∙ ap (seen_of none) (nothing_found tag main.features others)

  pub only_in_neither : shown_here.number ≡ 50 → HasNone extension × HasNone main
  only_in_neither e =
      let f : (seen_in main extension tag).number ≡ 50 = sym (ap (λ z. z.number) (shown_contents main extension lm lx tag)) ∙ e in
      fifty (value_of tag extension.features) (value_of tag main.features) refl refl f
    where
      fifty : (o p : Option (List ℕ)) → value_of tag extension.features ≡ o → value_of tag main.features ≡ p
          → (seen_of o p).number ≡ 50 → HasNone extension × HasNone main
      fifty (some value) p e f z = absurd (omega arith)
      fifty none (some value) e f z = absurd (omega arith)
      fifty none none e f z =
          (λ value. none_has tag value extension.features e, λ value. none_has tag value main.features f)

  -- a tag over 254 is in no seal
  pub no_such_tag : 254 < tag → shown_here ≡ record { number = 50; which = 0; bytes = [] }
  no_such_tag over =
      let lacks : HasNone extension =
      λ value. too_great extension.header.version [] extension.features lx.features tag value over in
      let others : HasNone main = λ value. too_great main.header.version [] main.features lm.features tag value over in
      in_neither lacks others

-- "A refused seal gives its number and place, the main one's first ... and shows an empty part", whatever the other seal has
pub main_first : (main extension : List ℕ) (tag number place : ℕ) → judge main ≡ refused number place
    → answer_of (where_is main extension tag) ≡ empty number place 1
unfolding where_is
main_first main extension tag number place e = ap (λ v. answer_of (look_up tag v (judge extension))) e

pub then_extension : (main extension : List ℕ) (tag : ℕ) (r : Report) (number place : ℕ) → judge main ≡ accepted r
    → judge extension ≡ refused number place → answer_of (where_is main extension tag) ≡ empty number place 2
unfolding where_is
then_extension main extension tag r number place e f =
    ap (λ v. answer_of (look_up tag v (judge extension))) e ∙ ap (λ v. answer_of (look_up tag (accepted r) v)) f

-- "12 is not given here": a number from 0 to 11, or 50
first_listed : (p q : Option Part) → ((answer_of (first_of p q)).number ≤ 11) ⊎ ((answer_of (first_of p q)).number ≡ 50)
first_listed (some p) q = inl (omega arith)
first_listed none (some q) = inl (omega arith)
first_listed none none = inr refl

look_listed : (tag : ℕ) (v w : Verdict) → FromList v → FromList w
    → ((answer_of (look_up tag v w)).number ≤ 11) ⊎ ((answer_of (look_up tag v w)).number ≡ 50)
look_listed tag (refused number place) w l m = inl l.1
look_listed tag (accepted r) (refused number place) l m = inl m.1
look_listed tag (accepted r) (accepted q) l m = first_listed (value_in tag q.rows) (value_in tag r.rows)

pub shown_listed : (main extension : List ℕ) (tag : ℕ)
    → ((answer_of (where_is main extension tag)).number ≤ 11) ⊎ ((answer_of (where_is main extension tag)).number ≡ 50)
unfolding where_is
shown_listed main extension tag = look_listed tag (judge main) (judge extension) (from_list main) (from_list extension)

-- "as that part of the lent bytes": what is shown has the bytes that are seen
pub shown_bytes : (main extension r : Bor (List ℕ)) (w : Result Where NotShown) → IsShown main extension w r
    → r.now ≡ bytes_of main.now extension.now w
shown_bytes main extension r (Ok (Extension value)) s = s.bytes
shown_bytes main extension r (Ok (Main value)) s = s.bytes
shown_bytes main extension r (Err e) s = s.bytes

-- and it lies whole in the seal that has it
value_inside : (s : List ℕ) (tag : ℕ) (rows : List Row) → All (λ r. end_of r ≤ length s) rows → (p : Part) → value_in tag rows ≡ some p
    → p.place + p.length ≤ length s
value_inside s tag [] all p e = absurd (none_some p e)
value_inside s tag (r ∷ rows) all p e =
    let here : Part = record { place = r.place; length = r.size } in
    by_test (eqb r.tag tag)
    (λ t.
    let same : here ≡ p = some-injective here p (sym (ap (λ b. pick b (some here) (value_in tag rows)) t) ∙ e) in
    subst (λ q. q.place + q.length ≤ length s) same all.0)
    (λ t. value_inside s tag rows all.1 p (sym (ap (λ b. pick b (some here) (value_in tag rows)) t) ∙ e))

abbrev pub Inside : List ℕ → List ℕ → Result Where NotShown → Type 0
Inside main extension (Ok (Extension value)) = value.place + value.length ≤ length extension
Inside main extension (Ok (Main value)) = value.place + value.length ≤ length main
Inside main extension (Err e) = Unit

first_inside : (main extension : List ℕ) (p q : Option Part)
    → ((a : Part) → p ≡ some a → a.place + a.length ≤ length extension)
    → ((a : Part) → q ≡ some a → a.place + a.length ≤ length main) → Inside main extension (first_of p q)
first_inside main extension (some p) q f g = f p refl
first_inside main extension none (some q) f g = g q refl
first_inside main extension none none f g = tt

look_inside : (main extension : List ℕ) → Bytes main → Bytes extension → (tag : ℕ) (v w : Verdict) → judge main ≡ v → judge extension ≡ w
    → Inside main extension (look_up tag v w)
look_inside main extension bytes more tag (refused number place) w e f = tt
look_inside main extension bytes more tag (accepted r) (refused number place) e f = tt
look_inside main extension bytes more tag (accepted r) (accepted q) e f =
    first_inside main extension (value_in tag q.rows) (value_in tag r.rows)
    (value_inside extension tag q.rows (rows_inside extension q.header_end q.rows (rows_found extension more q f)))
    (value_inside main tag r.rows (rows_inside main r.header_end r.rows (rows_found main bytes r e)))

pub shown_inside : (main extension : List ℕ) → Bytes main → Bytes extension → (tag : ℕ) → Inside main extension (where_is main extension tag)
unfolding where_is
shown_inside main extension bytes more tag = look_inside main extension bytes more tag (judge main) (judge extension) refl refl
