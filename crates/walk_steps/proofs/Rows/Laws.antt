-- The walk over an accepted seal finds the rows that the judging reports.
-- Assumes nothing.
use Rattle.std.proofs.Math.Path.{◌≡◌, sym}
use Rattle.std.specs.Prelude.{refl, Bool, true, false, List, [], ◌∷◌, ◌++◌, Result, Ok, Err, eqb, length}
use Rattle.std.proofs.Common.{ap, subst, ◌∙◌, eqb-true, append_assoc, append-nil}
use Prim.Native.Nat.{ℕ, zero, suc, ◌+◌, ◌≤◌, ◌<◌}
use native.Mathlib.Omega.{arith}
use Rattle.std.proofs.lemmas.Bool.{eqb-false}
use Rattle.format.specs.Bytes.{Bytes, All}
use Rattle.format.specs.Choice.{pick}
use Rattle.format.specs.Choice.Laws.{by_test}
use Rattle.der.specs.Length.{read_length}
use Rattle.der.specs.declared.Fault.{Fault}
use Rattle.der.specs.declared.Length.{Length}
use Rattle.versions.specs.Versions.{version_byte}
use Rattle.grammar.specs.Content.{Version, three, four, Content}
use Rattle.grammar.specs.Publish.{header_zone, message_zone, signature_zone, signed_bytes, publish}
use Rattle.grammar.proofs.Sizes.{header_size}
use Rattle.grammar.proofs.Zones.{header_parts}
use Rattle.causes.specs.declared.Item.TheVariants as item
use Rattle.causes.specs.declared.Rule.TheVariants as rule
use Rattle.rows.specs.Rows.{row_of}
use Rattle.verdict.specs.Items.{Read, Way, is, not, why, next, pass, whole, byte, version, plain_in, der_of, feature_length, length_rule}
use Rattle.verdict.proofs.Items.Laws.{unread, whole_read, version_there}
use Rattle.verdict.proofs.Items.Sound.{steps, steps_on, same_value, same_place}
use Rattle.verdict.specs.Judge.{Row, Report, accepted, judge, value_in, tag, row, features}
use Rattle.verdict.proofs.Judge.Complete.{report_of}
use Rattle.verdict.proofs.Judge.Seals.{accepted_only}
use Rattle.verdict.specs.Frames.{end_of}
use Rattle.read_items.specs.Meaning.Laws.{read_byte}
use Rattle.reading.specs.FeatureRows.Laws.{tag_plain}
use Rattle.reading.specs.Calls.Reads.{judged_features}
use Rattle.walk_steps.specs.declared.Step.{Step}
use Rattle.walk_steps.specs.Steps.{no_more, found, unless, feature_at, step_at}
use Rattle.walk_steps.proofs.Steps.Laws.{at_mark, at_row, step_versioned}
use Rattle.walk_steps.specs.Rows.{Finds}

-- a feature's value begins behind its length's place
der_on : (at : ℕ) (l : Result Length Fault) (n value : ℕ) → der_of at l ≡ is n value → at ≤ value
der_on at (Ok l) n value e = omega (arith, same_place l.size n (at + l.width) value e)
der_on at (Err fault) n value e = absurd (unread (length_rule fault) at n value e)

length_on : (v : Version) (at : ℕ) (s : List ℕ) (n value : ℕ) → feature_length v at s ≡ is n value → at ≤ value
length_on three at s n value e = omega (arith, (read_byte at s n value (sym e)).reached)
length_on four at s n value e = der_on at (read_length _) n value e

-- a row that was read ends at the place after it, which is behind its length's and in the seal
record Ends (at : ℕ) (s : List ℕ) (r : Row) (after : ℕ) : Type 0 where
  end : after ≡ end_of r
  on : at ≤ after
  inside : after ≤ length s

row_ends : (v : Version) (x start at : ℕ) (s : List ℕ) (r : Row) (after : ℕ) → row v x start at s ≡ is r after → Ends at s r after
unfolding row
row_ends v x start at s r after e =
    let k = steps_on item.Length (feature_length v at s) (λ n at. next item.Value (whole n at s (value_in x start n at)) is) r after e in
    let n = k.value in
    let m = k.at in
    let j = steps_on item.Value (whole n m s (value_in x start n m)) is r after k.goes_on_lem in
    let w = whole_read n m s (value_in x start n m) j.value j.at j.read in
    let q : Row = row_of x start m n in
    let is_row : q ≡ r = same_value q j.value (m + n) j.at w.read ∙ same_value j.value r j.at after j.goes_on_lem in
    let reached : m + n ≡ after = same_place q j.value (m + n) j.at w.read ∙ same_place j.value r j.at after j.goes_on_lem in
    record {
      end = sym reached ∙ ap end_of is_row;
      on = omega (arith, length_on v at s n m k.read, reached);
      inside = omega (arith, w.there, reached);
    }

-- A step that finds a feature goes on, and stays in the seal, from whatever place it is made.
pub record Goes (s : List ℕ) (at : ℕ) (step : Step) : Type 0 where
  pub on : at < step.at
  pub inside : step.at ≤ length s

abbrev GoesOn : List ℕ → ℕ → Step → Type 0
GoesOn s at step = step.number ≡ 0 → Goes s at step

none_goes : (s : List ℕ) (at : ℕ) → GoesOn s at no_more
none_goes s at e = absurd (omega arith)

read_goes : {R A : Type 0} (s : List ℕ) (at : ℕ) (i : Read R A) (rest : A → ℕ → Step)
    → ((a : A) (after : ℕ) → i ≡ is a after → GoesOn s at (rest a after)) → GoesOn s at (unless i rest)
read_goes s at (is a after) rest f = f a after refl
read_goes s at (not why place) rest f = none_goes s at

choice_goes : (s : List ℕ) (at : ℕ) (b : Bool) (step : Step) → GoesOn s at step → GoesOn s at (pick b no_more step)
choice_goes s at true step f = none_goes s at
choice_goes s at false step f = f

pub step_goes : (s : List ℕ) (at : ℕ) (step : Step) → step ≡ step_at s at → step.number ≡ 0 → Goes s at step
unfolding step_at feature_at
step_goes s at step e z =
    let goes : GoesOn s at (step_at s at) =
    choice_goes s at (eqb at 0) _
    (read_goes s at (version 1 s) _
    (λ v second i. read_goes s at (byte at s (plain_in at)) _
    (λ x mid j. choice_goes s at (eqb x 0xFF) _
    (read_goes s at (row v x at mid s) found
    (λ r after k z.
    let ends = row_ends v x at mid s r after k in
    record { on = omega (arith, (read_byte at s x mid (sym j)).reached, ends.on); inside = ends.inside }))))) in
    subst (Goes s at) (sym e) (goes (sym (ap (λ q. q.number) e) ∙ z))

-- features that were judged, after those before, are found
record Found (s : List ℕ) (before : List Row) (at : ℕ) (rows : List Row) : Type 0 where
  added : List Row
  all : rows ≡ before ++ added
  finds : Finds s at added

one_more : (s : List ℕ) (before : List Row) (at : ℕ) (r : Row) (after : ℕ) (rows : List Row)
    → step_at s at ≡ found r (end_of r) → after ≡ end_of r → Found s (before ++ (r ∷ [])) after rows → Found s before at rows
one_more s before at r after rows here end f = record {
  added = r ∷ f.added;
  all = f.all ∙ append_assoc before (r ∷ []) f.added;
  finds = (here, subst (λ k. Finds s k f.added) end f.finds);
}

module _ (s : List ℕ) (v : Version) (second : ℕ) (is_version_lem : is v second ≡ version 1 s) where
  -- a row that was read is what a step finds
  row_here : (at x mid : ℕ) (r : Row) (after : ℕ) → (at ≡ 0 → ⊥) → byte at s (plain_in at) ≡ is x mid → (x ≡ 0xFF → ⊥)
      → row v x at mid s ≡ is r after → after ≡ end_of r → step_at s at ≡ found r (end_of r)
  row_here at x mid r after on plain other e end =
      sym (at_row v s at x mid (sym plain) other ∙ step_versioned s at on v second is_version_lem)
      ∙ ap (λ i. unless i found) e
      ∙ ap (found r) end

  features_found : (more : ℕ) (before : List Row) (at : ℕ) (rows : List Row) (end : ℕ) → 0 < at → features more v before at s ≡ is rows end
      → Found s before at rows
  unfolding features
  features_found zero before at rows end some e = absurd (unread (why item.Tag rule.NotUsedBefore) at rows end e)
  features_found (suc more) before at rows end some e =
      let on : at ≡ 0 → ⊥ = λ z. omega arith in
      let i = steps_on item.Tag (tag before at s) _ rows end e in
      let x = i.value in
      let plain = tag_plain before at s x i.at i.read in
      let rest = pass (row v x at i.at s) (λ r at. features more v (before ++ (r ∷ [])) at s) in
      by_test (eqb x 0xFF)
      (λ f.
      let g : ◌≡◌ {A = Way (List Row)} (is before at) (is rows end) = sym (ap (λ b. pick b (is before at) rest) f) ∙ i.goes_on_lem in
      record {
        added = [];
        all = sym (same_value before rows at end g) ∙ sym (append-nil before);
        finds = sym (at_mark v s at x i.at (sym plain) (eqb-true x 0xFF f) ∙ step_versioned s at on v second is_version_lem);
      })
      (λ f.
      let g : rest ≡ is rows end = sym (ap (λ b. pick b (is before at) rest) f) ∙ i.goes_on_lem in
      let j = steps (row v x at i.at s) (λ r at. features more v (before ++ (r ∷ [])) at s) rows end g in
      let r = j.value in
      let ends = row_ends v x at i.at s r j.at j.read in
      let mid = (read_byte at s x i.at (sym plain)).reached in
      let ih = features_found more (before ++ (r ∷ [])) j.at rows end (omega (arith, ends.on, mid)) j.goes_on_lem in
      let here = row_here at x i.at r j.at on plain (eqb-false x 0xFF f) j.read ends.end in
      one_more s before at r j.at rows here ends.end ih)

-- the version stands in the second byte
second_byte : (v : Version) (s : List ℕ) {t : List ℕ} → s ≡ 0xDC ∷ version_byte v ∷ t → is v 2 ≡ version 1 s
second_byte v s {t} e = sym (ap (version 1) e ∙ version_there (0xDC ∷ []) v t)

version_second : (c : Content) → is c.header.version 2 ≡ version 1 (publish c)
unfolding publish signed_bytes
version_second c =
    let h = header_zone c.header in
    let m = message_zone c.header.version c.features in
    let z = signature_zone c.signature in
    second_byte c.header.version ((h ++ m) ++ z) (append_assoc h m z ∙ header_parts c.header (m ++ z))

pub rows_found : (s : List ℕ) → Bytes s → (r : Report) → judge s ≡ accepted r → Finds s r.header_end r.rows
unfolding report_of
rows_found s bytes r e =
    let seal = accepted_only s bytes r e in
    let c = seal.content in
    let header : r.header ≡ c.header = ap (λ q. q.header) seal.report_is in
    let long : r.header_end ≡ length (header_zone c.header) = ap (λ q. q.header_end) seal.report_is in
    let second : is r.header.version 2 ≡ version 1 s =
    ap (λ h. is h.version 2) header ∙ version_second c ∙ ap (version 1) seal.form_is in
    let f = features_found s r.header.version 2 second 256 [] r.header_end r.rows r.message_end
    (omega (arith, long, header_size c.header seal.legal.header)) (judged_features s r e) in
    subst (Finds s r.header_end) (sym f.all) f.finds

-- every feature that is found lies in the seal
pub rows_inside : (s : List ℕ) (at : ℕ) (rows : List Row) → Finds s at rows → All (λ r. end_of r ≤ length s) rows
rows_inside s at [] f = tt
rows_inside s at (r ∷ rows) f = ((step_goes s at (found r (end_of r)) (sym f.0) refl).inside, rows_inside s (end_of r) rows f.1)

pub record Ahead (s : List ℕ) (step : Step) (rest : List Row) : Type 0 where
  pub others : List Row
  pub is_rest : rest ≡ step.row ∷ others
  pub finds : Finds s step.at others

-- what a step says of the rows that are still to be found: none, or its own and others behind it
module _ (s : List ℕ) (at : ℕ) (step : Step) (e : step ≡ step_at s at) where
  pub none_ahead : (step.number ≡ 0 → ⊥) → (rest : List Row) → Finds s at rest → rest ≡ []
  none_ahead h [] f = refl
  none_ahead h (r ∷ rest) f = absurd (h (ap (λ q. q.number) (e ∙ f.0)))

  pub one_ahead : step.number ≡ 0 → (rest : List Row) → Finds s at rest → Ahead s step rest
  one_ahead z [] f = let y : ◌≡◌ {A = ℕ} 0 51 = sym z ∙ ap (λ q. q.number) (e ∙ f) in absurd (omega arith)
  one_ahead z (r ∷ rest) f = record {
    others = rest;
    is_rest = ap (λ q. q ∷ rest) (sym (ap (λ q. q.row) (e ∙ f.0)));
    finds = subst (λ k. Finds s k rest) (sym (ap (λ q. q.at) (e ∙ f.0))) f.1;
  }
