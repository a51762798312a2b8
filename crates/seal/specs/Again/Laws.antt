-- A seal made anew says what was read, and the call has a sound shape.
-- Assumes nothing.
use Rattle.std.specs.Prelude.{◌≡◌, ℕ, ◌+◌, ◌*◌, ◌≤◌, List, [], ◌∷◌, map, length, drop}
use Rattle.std.proofs.Common.{ap, sym, subst, ◌∙◌, arith, length-append, take_at, drop_at}
use Rattle.std.proofs.Math.Option.{some}
use Rattle.format.specs.Bytes.{All}
use Rattle.grammar.specs.Content.{Version, Feature, Content}
use Rattle.grammar.specs.Publish.{header_zone, message_zone, publish, length_of}
use Rattle.grammar.proofs.Theorems.{zones_add_up}
use Rattle.versions.proofs.Versions.Laws.{number_back_lem}
use Rattle.rows.specs.Rows.{width, table}
use Rattle.rows.proofs.Rows.Laws.{rows_of_table, length_table, table_whole}
use Rattle.verdict.specs.Judge.{Report, accepted}
use Rattle.verdict.proofs.Judge.Complete.{report_of}
use Rattle.verdict.proofs.Judge.Features.{rows_of as rows_from, zone_size}
use Rattle.verdict.specs.Report.{part, feature_of, content_of as content_read}
use Rattle.reading.specs.Calls.{answer_of, text, then}
use Rattle.write_given.specs.Given.{content_as, content_of}
use Rattle.write_given.specs.Given.Laws.{said}
use Rattle.writer.specs.Legal.{Sound}
use Rattle.writer.specs.Legal.Names.{three_of_lem}
use Rattle.writer.specs.Legal.Features.{Inside}
use Rattle.seal.specs.Again.{again_from, again}

-- what the caller holds gives the same call
pub again_held :
    (s : List ℕ) (r : Report) (rows names : List ℕ) →
    length r.header.signer ≡ 4 →
    again_from s (answer_of (accepted r)) (then (table r.rows) rows) (then (text r) names) ≡ again s r
again_held s r rows names long =
    let h = r.header in
    let t = take_at (text r) (drop (length (text r)) names) (4 + length h.reference)
    (length-append h.signer h.reference ∙ ap (λ n. n + length h.reference) long) in
    let u = take_at (table r.rows) (drop (length (table r.rows)) rows) (width * length r.rows) (length_table r.rows) in
    λ i.
    record {
      header = (answer_of (accepted r)).header;
      text = t i;
      table = u i;
      values = s;
      signature = part r.signature_place r.signature_size_lem s;
    }

content_as_lem :
    (s : List ℕ) (r : Report) →
    length r.header.signer ≡ 4 →
    length r.header.country ≡ 3 →
    content_as (again s r) r.header.version ≡ content_read s r
unfolding content_as content_read
content_as_lem s r long three_long =
    let h = r.header in
    let signer = take_at h.signer h.reference 4 long in
    let reference = drop_at h.signer h.reference 4 long in
    let country = three_of_lem h.country three_long in
    λ i. record {
      header = record {
        version = h.version;
        country = country i;
        signer = signer i;
        reference = reference i;
        issued = h.issued;
        signed = h.signed;
        definition = h.definition;
        category = h.category;
      };
      features = map (feature_of s) (rows_of_table r.rows i);
      signature = part r.signature_place r.signature_size_lem s;
    }

pub content_again :
    (s : List ℕ) (r : Report) →
    length r.header.signer ≡ 4 →
    length r.header.country ≡ 3 →
    content_of (again s r) ≡ some (content_read s r)
content_again s r long three_long =
    said (again s r) r.header.version (number_back_lem r.header.version) ∙ ap some (content_as_lem s r long three_long)

-- each value read stands inside the seal
rows_inside : (v : Version) (at n : ℕ) (fs : List Feature) → at + length (message_zone v fs) ≤ n → All (Inside n) (rows_from v at fs)
unfolding rows_from
rows_inside v at n [] h = tt
rows_inside v at n (f ∷ fs) h =
    let z = zone_size v f fs in
    let ih = rows_inside v (at + 1 + length (length_of v (length f.value)) + length f.value) n fs (omega arith) in
    (omega arith, ih)

inside_again : (c : Content) → All (Inside (length (publish c))) (report_of c).rows
unfolding report_of
inside_again c =
    rows_inside c.header.version (length (header_zone c.header)) (length (publish c)) c.features (omega (arith, zones_add_up c))

pub sound_again :
    (s : List ℕ) (r : Report) (c : Content) →
    publish c ≡ s →
    r ≡ report_of c →
    length r.header.signer ≡ 4 →
    length r.header.country ≡ 3 →
    Sound (again s r)
sound_again s r c form same long three_long =
    let h = r.header in
    record {
      country = three_long;
      measured = omega (arith, length-append h.signer h.reference);
      whole = table_whole r.rows;
      inside =
          subst (All (Inside (length s))) (sym (rows_of_table r.rows))
          (subst (λ u. All (Inside (length u)) r.rows) form
          (subst (λ q. All (Inside (length (publish c))) q.rows) (sym same) (inside_again c)));
    }
