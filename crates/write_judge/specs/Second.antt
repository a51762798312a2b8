-- "The writer takes these rows and ignores the second number" (document 02, Ticket 10): two calls whose tables differ in second
-- numbers alone are answered alike, number, count and every byte.
-- Assumes nothing.
use Rattle.std.specs.Prelude.{◌≡◌, ℕ, ◌+◌, ◌%◌, false, true, leb, length}
use Rattle.std.proofs.Math.Path.{refl, ap₂}
use Rattle.std.proofs.Common.{ap, sym, ◌∙◌}
use mathlib.Core.List.{List, [], ◌∷◌, map}
use Rattle.std.proofs.Math.Dec.{eqb}
use Rattle.format.specs.Choice.{pick, both, either}
use Rattle.fields.specs.declared.Header.{Header}
use Rattle.versions.specs.declared.Version.{Version}
use Rattle.versions.specs.Versions.{version_of}
use Rattle.grammar.specs.Content.{three, four}
use Rattle.rows.specs.declared.Row.{Row}
use Rattle.rows.specs.Rows.{width, rows_of}
use Rattle.rows.proofs.Told.{told_of, ButSecond, same_told}
use Rattle.verdict.specs.Judge.{used}
use Rattle.verdict.specs.Report.{feature_of}
use Rattle.write_given.specs.Given.{given, content_as}
use Rattle.write_rows.specs.Tests.{are_rows, is_table, are_short, are_sized, are_values}
use Rattle.write_judge.specs.Calls.{in_version, writing_as, writing}

-- The tests of rows, and the features that they say, go by what each row tells.

used_told : (x : ℕ) (rows : List Row) → used x rows ≡ used x (map told_of rows)
used_told x [] = refl
used_told x (r ∷ rows) = let ih = used_told x rows in ap (either (eqb x r.tag)) ih

rows_told : (n : ℕ) (before rows : List Row) → are_rows n before rows ≡ are_rows n (map told_of before) (map told_of rows)
unfolding are_rows
rows_told n before [] = refl
rows_told n before (r ∷ rows) =
    let ih = rows_told n (r ∷ before) rows in
    ap₂ (λ u more. both (both (leb r.tag 254) (both (pick u false true) (leb (r.place + r.size) n))) more)
    (used_told r.tag before) ih

short_told : (rows : List Row) → are_short rows ≡ are_short (map told_of rows)
unfolding are_short
short_told [] = refl
short_told (r ∷ rows) = let ih = short_told rows in ap (both (leb r.size 255)) ih

sized_told : (v : Version) (rows : List Row) → are_sized v rows ≡ are_sized v (map told_of rows)
sized_told three rows = short_told rows
sized_told four rows = refl

features_told : (values : List ℕ) (rows : List Row) → map (feature_of values) rows ≡ map (feature_of values) (map told_of rows)
features_told values [] = refl
features_told values (r ∷ rows) = let ih = features_told values rows in ap (λ fs. feature_of values r ∷ fs) ih

-- so what says the same by what rows tell says the same of such tables
alike :
    {A : Type 0} (f : List Row → A) →
    ((rows : List Row) → f rows ≡ f (map told_of rows)) →
    (t u : List ℕ) →
    ButSecond t u →
    f (rows_of t) ≡ f (rows_of u)
alike f told t u b = told (rows_of t) ∙ ap f (same_told t u b) ∙ sym (told (rows_of u))

module _ (header : Header) (text values signature t u : List ℕ) (b : ButSecond t u) (room : ℕ) where
  in_version_lem : (v : Version) →
      writing_as (given header text t values signature) room v ≡ writing_as (given header text u values signature) room v
  unfolding writing_as content_as
  in_version_lem v =
      let whole : is_table (length values) t ≡ is_table (length values) u =
      ap₂ both (ap (λ n. eqb (n % width) 0) b.size) (alike (are_rows (length values) []) (rows_told (length values) []) t u b) in
      let sized : are_values v t ≡ are_values v u = alike (are_sized v) (sized_told v) t u b in
      let said : map (feature_of values) (rows_of t) ≡ map (feature_of values) (rows_of u) =
      alike (map (feature_of values)) (features_told values) t u b in
      rw (whole, sized, said) refl

  pub second_ignored : writing (given header text t values signature) room ≡ writing (given header text u values signature) room
  unfolding writing
  second_ignored = λ i. in_version (version_of header.version) (λ v. in_version_lem v i)
