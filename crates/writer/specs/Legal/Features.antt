-- The tests of 24, 25 and 26 against the grammar: rows, sizes of values and the signature, both ways.
-- Assumes nothing.
use Rattle.std.specs.Prelude.{◌≡◌, refl, Bool, true, false, ℕ, ◌+◌, ◌≤◌, leb, eqb, drop}
use Rattle.std.proofs.Common.{ap, sym, ◌∙◌, leb-true, le-leb, ne_eqb}
use Rattle.std.proofs.Math.Path.{subst}
use Rattle.std.proofs.lemmas.Bool.{eqb-false}
use mathlib.Core.List.{List, [], ◌∷◌, map}
use Rattle.std.proofs.Math.ListN.{length}
use Rattle.format.specs.Choice.{pick, both, either}
use Rattle.format.specs.Choice.Laws.{by_test, not_true, both_true, both_are}
use Rattle.format.specs.Bytes.{Bytes, All}
use Rattle.format.specs.Bytes.Laws.{bytes_take, bytes_drop}
use Rattle.grammar.specs.Content.{Version}
use Rattle.grammar.specs.Legal.{ValueSize, Unused, LegalFeatures}
use Rattle.verdict.specs.Report.{feature_of}
use Rattle.rows.specs.declared.Row.{Row}
use Rattle.verdict.specs.Judge.{used}
use Rattle.verdict.proofs.Items.Sound.{length_taken}
use Rattle.write_rows.specs.Tests.{is_row, are_rows, are_sized}
use Rattle.write_rows.specs.Tests.Laws.{sized_head, sized_cons, sized_none}

-- a value inside the values buffer, of so many bytes
abbrev pub Inside : ℕ → Row → Type 0
Inside n r = r.place + r.size ≤ n

abbrev tags : List Row → List ℕ
tags rows = map (λ r. r.tag) rows

-- no row before has the tag
unused_of : (tag : ℕ) (rows : List Row) → used tag rows ≡ false → Unused tag (tags rows)
unused_of tag [] e = tt
unused_of tag (r ∷ rows) e =
    by_test (eqb tag r.tag)
    (λ f. absurd (not_true (sym e ∙ ap (λ b. either b (used tag rows)) f)))
    (λ f. (eqb-false tag r.tag f, unused_of tag rows (sym (ap (λ b. either b (used tag rows)) f) ∙ e)))

used_none : (tag : ℕ) (rows : List Row) → Unused tag (tags rows) → used tag rows ≡ false
used_none tag [] u = refl
used_none tag (r ∷ rows) u = ap (λ b. either b (used tag rows)) (ne_eqb tag r.tag u.0) ∙ used_none tag rows u.1

picked : (b : Bool) → pick b false true ≡ true → b ≡ false
picked true e = absurd (not_true e)
picked false e = refl

-- one row
row_is : (n : ℕ) (before : List Row) (r : Row) → is_row n before r ≡ true → (r.tag ≤ 254) × (Unused r.tag (tags before) × Inside n r)
row_is n before r e =
    let p = both_true (leb r.tag 254) (both (pick (used r.tag before) false true) (leb (r.place + r.size) n)) e in
    let q = both_true (pick (used r.tag before) false true) (leb (r.place + r.size) n) p.1 in (
      leb-true r.tag 254 p.0,
      (unused_of r.tag before (picked (used r.tag before) q.0), leb-true (r.place + r.size) n q.1),
    )

row_passes : (n : ℕ) (before : List Row) (r : Row) → r.tag ≤ 254 → Unused r.tag (tags before) → Inside n r → is_row n before r ≡ true
row_passes n before r h u i =
    both_are (leb r.tag 254) (both (pick (used r.tag before) false true) (leb (r.place + r.size) n)) (le-leb r.tag 254 h)
    (both_are (pick (used r.tag before) false true) (leb (r.place + r.size) n)
    (ap (λ b. pick b false true) (used_none r.tag before u)) (le-leb (r.place + r.size) n i))

module _ (values : List ℕ) where
  -- a value inside has its row's size
  length_value : (r : Row) → Inside (length values) r → length (feature_of values r).value ≡ r.size
  length_value r h = length_taken r.size r.place values h

  pub rows_legal :
      (v : Version) (before rows : List Row) →
      Bytes values →
      are_rows (length values) before rows ≡ true →
      (are_sized v rows ≡ true) →
      LegalFeatures v (tags before) (map (feature_of values) rows) × All (Inside (length values)) rows
  unfolding are_rows
  rows_legal v before [] bytes e s = (tt, tt)
  rows_legal v before (r ∷ rows) bytes e s =
      let n = length values in
      let p = both_true (is_row n before r) (are_rows n (r ∷ before) rows) e in
      let q = row_is n before r p.0 in
      let t = sized_head v r rows s in
      let ih = rows_legal v (r ∷ before) rows bytes p.1 t.1 in (
        (
          q.0,
          q.1.0,
          subst (ValueSize v) (sym (length_value r q.1.1)) t.0,
          bytes_take r.size (drop r.place values) (bytes_drop r.place values bytes),
          ih.0,
        ),
        (q.1.1, ih.1),
      )

  pub legal_rows :
      (v : Version) (before rows : List Row) →
      LegalFeatures v (tags before) (map (feature_of values) rows) →
      All (Inside (length values)) rows →
      (are_rows (length values) before rows ≡ true) × (are_sized v rows ≡ true)
  unfolding are_rows
  legal_rows v before [] l i = (refl, sized_none v)
  legal_rows v before (r ∷ rows) l i =
      let n = length values in
      let ih = legal_rows v (r ∷ before) rows l.4 i.1 in (
        both_are (is_row n before r) (are_rows n (r ∷ before) rows) (row_passes n before r l.0 l.1 i.0) ih.0,
        sized_cons v r rows (subst (ValueSize v) (length_value r i.0) l.2) ih.1,
      )
