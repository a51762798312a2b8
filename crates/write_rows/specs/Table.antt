-- Laws of the rows of a table, by place: what each test of the row there makes of the judging.
-- Assumes nothing.
use Rattle.std.specs.Prelude.{◌≡◌, refl, Bool, true, false, ℕ, ◌+◌, ◌%◌, ◌<◌, ◌≤◌, List, [], ◌∷◌, leb, eqb, length, get_or, drop, set, replicate}
use Rattle.std.proofs.Common.{ap, ap₂, sym, ◌∙◌, arith, le-leb, ne_eqb, eqb-true, length-set, get_or-set_same, get_or-set_other}
use Rattle.std.proofs.lemmas.Bool.{lt-leb, eqb-false}
use Rattle.std.proofs.lemmas.List.{length-replicate, get_or-replicate}
use Rattle.format.specs.Choice.Laws.{by_test}
use Rattle.format.specs.Choice.{both, either}
use Rattle.grammar.specs.Content.{Version, three, four}
use Rattle.rows.specs.declared.Row.{Row}
use Rattle.rows.specs.Rows.{width, row_at, rows_of, Whole, is_whole}
use Rattle.rows.proofs.Rows.Laws.{rows_here, rows_end, whole_is}
use Rattle.verdict.specs.Judge.{used}
use Rattle.write_rows.specs.Tests.{is_row, are_rows, is_table, are_short, are_values}

-- a row, by its tests
module _ (n : ℕ) (before : List Row) (r : Row) where
  row_tag : 254 < r.tag → is_row n before r ≡ false
  row_tag h = rw (lt-leb r.tag 254 h) refl

  module _ (small : r.tag ≤ 254) where
    row_used : used r.tag before ≡ true → is_row n before r ≡ false
    row_used e = rw (le-leb r.tag 254 small, e) refl

    module _ (new : used r.tag before ≡ false) where
      row_outside : n < r.place + r.size → is_row n before r ≡ false
      row_outside h = rw (le-leb r.tag 254 small, new, lt-leb (r.place + r.size) n h) refl

      row_good : r.place + r.size ≤ n → is_row n before r ≡ true
      row_good h = rw (le-leb r.tag 254 small, new, le-leb (r.place + r.size) n h) refl

are_none : (n : ℕ) (before : List Row) → are_rows n before [] ≡ true
unfolding are_rows
are_none n before = refl

are_cons :
    (n : ℕ) (before : List Row) (r : Row) (rows : List Row) →
    are_rows n before (r ∷ rows) ≡ both (is_row n before r) (are_rows n (r ∷ before) rows)
unfolding are_rows
are_cons n before r rows = refl

-- the mark of a tag: 1 where it is used, 0 where it is not
abbrev mark_of : Bool → ℕ
mark_of true = 1
mark_of false = 0

mark_used : (b : Bool) → mark_of b ≡ 1 → b ≡ true
mark_used true e = refl
mark_used false e = absurd (omega arith)

mark_new : (b : Bool) → (mark_of b ≡ 1 → ⊥) → b ≡ false
mark_new true e = absurd (e refl)
mark_new false e = refl

-- the marks are those of the rows before
abbrev Marks : List Row → List ℕ → Type 0
Marks before marks = (x : ℕ) → x < 255 → get_or marks x 0 ≡ mark_of (used x before)

marks_start : Marks [] (replicate 255 0)
marks_start x h = let z : ℕ = 0 in get_or-replicate 255 x z z h

marks_more :
    (before : List Row) (marks : List ℕ) → Marks before marks → length marks ≡ 255 → (r : Row) → r.tag ≤ 254 →
    Marks (r ∷ before) (set marks r.tag 1)
marks_more before marks m long r small x h =
    by_test (eqb x r.tag)
    (λ s.
    ap (λ z. get_or (set marks r.tag 1) z 0) (eqb-true x r.tag s)
    ∙ get_or-set_same marks r.tag 1 0 (omega arith)
    ∙ ap (λ b. mark_of (either b (used x before))) (sym s))
    (λ s.
    get_or-set_other marks r.tag x 1 0 (eqb-false x r.tag s)
    ∙ m x h
    ∙ ap (λ b. mark_of (either b (used x before))) (sym s))

-- how far the judging of the rows has come: to the end of a row inside the table, with the marks of their tags
pub record Judged (n : ℕ) (t : List ℕ) (at : ℕ) (marks : List ℕ) : Type 0 where
  pub before : List Row
  pub inside : at ≤ length t
  pub whole : at % width ≡ 0
  pub same : are_rows n [] (rows_of t) ≡ are_rows n before (rows_of (drop at t))
  pub long : length marks ≡ 255
  pub each : (x : ℕ) → x < 255 → get_or marks x 0 ≡ mark_of (used x before)

pub judged_start : (n : ℕ) (t : List ℕ) → Judged n t 0 (replicate 255 0)
judged_start n t =
    let z : ℕ = 0 in
    record { before = []; inside = omega arith; whole = refl; same = refl; long = length-replicate 255 z; each = marks_start }

none_both : (b : Bool) → both b false ≡ false
none_both true = refl
none_both false = refl

module _ (n : ℕ) (t : List ℕ) (at : ℕ) (marks : List ℕ) (j : Judged n t at marks) where
  -- no row is left: the table is in whole rows where it ends here
  pub judged_end : length t < at + width → eqb at (length t) ≡ is_table n t
  judged_end h =
      let good : are_rows n [] (rows_of t) ≡ true = j.same ∙ ap (are_rows n j.before) (rows_end t at h) ∙ are_none n j.before in
      by_test (eqb at (length t))
      (λ s.
      let all : Whole t = omega (arith, j.whole, eqb-true at (length t) s) in
      s ∙ sym (ap₂ both (whole_is t all) good))
      (λ s.
      let over : Whole t → ⊥ = λ w. eqb-false at (length t) s (omega (arith, j.whole, j.inside, w)) in
      s ∙ sym (ap (λ b. both b (are_rows n [] (rows_of t))) (ne_eqb (length t % width) 0 over)))

  -- the row that stands here
  module _ (here : at + width ≤ length t) (r : Row) (e : r ≡ row_at t at) where
    abbrev rest : Bool
    rest = are_rows n (r ∷ j.before) (rows_of (drop (at + width) t))

    on : are_rows n [] (rows_of t) ≡ both (is_row n j.before r) rest
    on =
        j.same ∙ ap (are_rows n j.before) (rows_here t at here ∙ ap (λ q. q ∷ rows_of (drop (at + width) t)) (sym e))
        ∙ are_cons n j.before r (rows_of (drop (at + width) t))

    stops : is_row n j.before r ≡ false → false ≡ is_table n t
    stops f = sym (ap (both (is_whole t)) (on ∙ ap (λ b. both b rest) f) ∙ none_both (is_whole t))

    pub judged_tag : 254 < r.tag → false ≡ is_table n t
    judged_tag h = stops (row_tag n j.before r h)

    module _ (small : r.tag ≤ 254) where
      mark : get_or marks r.tag 0 ≡ mark_of (used r.tag j.before)
      mark = j.each r.tag (omega arith)

      pub judged_used : get_or marks r.tag 0 ≡ 1 → false ≡ is_table n t
      judged_used f = stops (row_used n j.before r small (mark_used (used r.tag j.before) (sym mark ∙ f)))

      module _ (unmarked : get_or marks r.tag 0 ≡ 1 → ⊥) where
        new : used r.tag j.before ≡ false
        new = mark_new (used r.tag j.before) (λ f. unmarked (mark ∙ f))

        pub judged_outside : n < r.place + r.size → false ≡ is_table n t
        judged_outside h = stops (row_outside n j.before r small new h)

        pub judged_more : r.place + r.size ≤ n → Judged n t (at + width) (set marks r.tag 1)
        judged_more h = record {
          before = r ∷ j.before;
          inside = here;
          whole = omega (arith, j.whole);
          same = on ∙ ap (λ b. both b rest) (row_good n j.before r small new h);
          long = length-set marks r.tag 1 ∙ j.long;
          each = marks_more j.before marks j.each j.long r small;
        }

-- values of version 3
short_none : are_short [] ≡ true
unfolding are_short
short_none = refl

short_cons : (r : Row) (rows : List Row) → are_short (r ∷ rows) ≡ both (leb r.size 255) (are_short rows)
unfolding are_short
short_cons r rows = refl

pub values_four : (v : Version) (t : List ℕ) → v ≡ four → true ≡ are_values v t
values_four v t e = sym (ap (λ w. are_values w t) e)

module _ (v : Version) (t : List ℕ) (left : List Row) (is_three : v ≡ three) (same : are_short (rows_of t) ≡ are_short left) where
  values_is : (b : Bool) → are_short (rows_of t) ≡ b → b ≡ are_values v t
  values_is b e = sym (ap (λ w. are_values w t) is_three ∙ e)

  pub short_end : left ≡ [] → true ≡ are_values v t
  short_end none = values_is true (same ∙ ap are_short none ∙ short_none)

  -- the first of the rows left
  module _ (r : Row) (more : List Row) (first : left ≡ r ∷ more) where
    short_on : are_short (rows_of t) ≡ both (leb r.size 255) (are_short more)
    short_on = same ∙ ap are_short first ∙ short_cons r more

    pub short_stops : 255 < r.size → false ≡ are_values v t
    short_stops h = values_is false (short_on ∙ ap (λ b. both b (are_short more)) (lt-leb r.size 255 h))

    pub short_more : r.size ≤ 255 → are_short (rows_of t) ≡ are_short more
    short_more h = short_on ∙ ap (λ b. both b (are_short more)) (le-leb r.size 255 h)
