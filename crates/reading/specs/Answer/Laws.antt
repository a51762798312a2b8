-- What a caller holds is what is reported.
-- Assumes nothing.
use Rattle.std.specs.Prelude.{◌≡◌, refl, ℕ, List, ◌++◌, map, length, take, drop}
use Rattle.std.proofs.Common.{ap, ◌∙◌, append_assoc, take_at, drop_at}
use Rattle.std.proofs.Math.Option
use Rattle.std.proofs.Math.Option.{some}
use Rattle.versions.proofs.Versions.Laws.{number_back_lem}
use Rattle.rows.specs.Rows.{table, rows_of}
use Rattle.rows.proofs.Rows.Laws.{rows_taken}
use Rattle.verdict.specs.Judge.{Report, accepted}
use Rattle.verdict.specs.Report.{content_of, feature_of}
use Rattle.reading.specs.Calls.{answer_of, text, then}
use Rattle.reading.specs.Answer.{content_as, content_in}

-- given that the signer has four characters
pub held :
    (s : List ℕ) (r : Report) (numbers bytes : List ℕ) →
    length r.header.signer ≡ 4 →
    content_in s (answer_of (accepted r)) (then (table r.rows) numbers) (then (text r) bytes) ≡ some (content_of s r)
unfolding content_in content_as content_of
held s r numbers bytes four_long =
    let h = r.header in
    let rest = drop (length (text r)) bytes in
    let parts : then (text r) bytes ≡ h.signer ++ (h.reference ++ rest) = append_assoc h.signer h.reference rest in
    let signer : take 4 (then (text r) bytes) ≡ h.signer = ap (take 4) parts ∙ take_at h.signer (h.reference ++ rest) 4 four_long in
    let reference : take (length h.reference) (drop 4 (then (text r) bytes)) ≡ h.reference =
    ap (λ u. take (length h.reference) (drop 4 u)) parts
    ∙ ap (take (length h.reference)) (drop_at h.signer (h.reference ++ rest) 4 four_long)
    ∙ take_at h.reference rest (length h.reference) refl in
    let rows : take (length r.rows) (rows_of (then (table r.rows) numbers)) ≡ r.rows =
    rows_taken r.rows (drop (length (table r.rows)) numbers) in
    let same : content_as s (answer_of (accepted r)) (then (table r.rows) numbers) (then (text r) bytes) h.version ≡ content_of s r =
    λ i. record {
      header = record {
        version = h.version;
        country = h.country;
        signer = signer i;
        reference = reference i;
        issued = h.issued;
        signed = h.signed;
        definition = h.definition;
        category = h.category;
      };
      features = map (feature_of s) (rows i);
      signature = (content_of s r).signature;
    } in
    ap (Option.map (content_as s (answer_of (accepted r)) (then (table r.rows) numbers) (then (text r) bytes))) (number_back_lem h.version)
    ∙ ap some same
