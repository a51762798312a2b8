-- Laws of rows and their table: there and back, the rows from a place on, what is found and put at a place, and their sizes.
-- Assumes nothing.
use Rattle.std.proofs.Math.Path.{◌≡◌, ap, sym}
use Rattle.std.specs.Prelude.{refl, true, ℕ, zero, suc, ◌+◌, ◌*◌, ◌/◌, ◌%◌, ◌<◌, ◌≤◌, List, [], ◌∷◌, ◌++◌, Some, None, ltb, length, get_or, take, drop}
use Rattle.std.proofs.Common.{ap₂, ◌∙◌, arith, append_assoc, append-nil, length-append, length-drop, take_at}
use borrow.Author.Tests.{eq-eqb, eqb-true, lt-ltb, le-ltb, ltb-true, ltb-false}
use Rattle.format.specs.Places.{at_place, past_end}
use Rattle.format.specs.Choice.{pick}
use Rattle.format.specs.Choice.Laws.{by_test}
use Rattle.format.specs.Buffer.{over}
use Rattle.rows.specs.declared.Row.{Row}
use Rattle.rows.specs.Rows.{width, numbers, row_at, found_at, row_put, table, first_rows, rows_of, Whole, is_whole}

-- What knows the numbers of a row and their order: these four laws, and none below. (What a writer is told by them: Told.antt.)

pub length_numbers : (r : Row) → length (numbers r) ≡ width
unfolding numbers
length_numbers r = refl

-- the row whose numbers stand first, and what stands past them
first_row : (r : Row) (t : List ℕ) → row_at (numbers r ++ t) 0 ≡ r
unfolding numbers row_at
first_row r t = refl

past_row : (r : Row) (t : List ℕ) → drop width (numbers r ++ t) ≡ t
unfolding numbers
past_row r t = refl

-- the numbers of a row that is there
row_there : (t : List ℕ) (at : ℕ) → at + width ≤ length t → drop at t ≡ numbers (row_at t at) ++ drop (at + width) t
unfolding numbers row_at
row_there t at h =
    let here : (i k : ℕ) → at + i < length t → at + i + 1 ≡ k → drop (at + i) t ≡ get_or t (at + i) 0 ∷ drop k t =
    λ i k below next. at_place t (at + i) 0 below ∙ ap (λ k. get_or t (at + i) 0 ∷ drop k t) next in
    at_place t at 0 (omega arith)
    ∙ ap (λ l. get_or t at 0 ∷ l)
    (here 1 (at + 2) (omega arith) (omega arith)
    ∙ ap (λ l. get_or t (at + 1) 0 ∷ l)
    (here 2 (at + 3) (omega arith) (omega arith) ∙ ap (λ l. get_or t (at + 2) 0 ∷ l) (here 3 (at + width) (omega arith) (omega arith))))

-- The rows of a table: a row in front, and none.

rows_cons : (r : Row) (t : List ℕ) → rows_of (numbers r ++ t) ≡ r ∷ rows_of t
unfolding rows_of first_rows
rows_cons r t =
    let more : length (numbers r ++ t) / width ≡ suc (length t / width) = omega (arith, length-append (numbers r) t, length_numbers r) in
    ap (λ k. first_rows k (numbers r ++ t)) more ∙ ap₂ ◌∷◌ (first_row r t) (ap (first_rows (length t / width)) (past_row r t))

rows_none : (t : List ℕ) → length t < width → rows_of t ≡ []
unfolding rows_of first_rows
rows_none t h = let none : length t / width ≡ 0 = omega arith in ap (λ k. first_rows k t) none

-- and those from a place on, by which a walk goes
module _ (t : List ℕ) (at : ℕ) where
  pub rows_here : at + width ≤ length t → rows_of (drop at t) ≡ row_at t at ∷ rows_of (drop (at + width) t)
  rows_here h = ap rows_of (row_there t at h) ∙ rows_cons (row_at t at) (drop (at + width) t)

  pub rows_end : length t < at + width → rows_of (drop at t) ≡ []
  rows_end h = rows_none (drop at t) (omega (arith, length-drop at t))

-- What is found at a place, and what is put there, each way.

module _ (t : List ℕ) (at : ℕ) where
  pub no_row : length t < at + width → None ≡ found_at t at
  unfolding found_at
  no_row h = sym (ap (λ b. pick b None (Some (row_at t at))) (lt-ltb (length t) (at + width) h))

  pub one_row : at + width ≤ length t → Some (row_at t at) ≡ found_at t at
  unfolding found_at
  one_row h = sym (ap (λ b. pick b None (Some (row_at t at))) (le-ltb (length t) (at + width) h))

  pub found_none : None ≡ found_at t at → length t < at + width
  unfolding found_at
  found_none e =
      by_test (ltb (length t) (at + width))
      (λ s. ltb-true (length t) (at + width) s)
      (λ s.
      let f : None ≡ Some (row_at t at) = e ∙ ap (λ b. pick b None (Some (row_at t at))) s in
      let z : ◌≡◌ {A = ℕ} 0 1 = cc in
      absurd (omega arith))

  pub found_row_lem : (r : Row) → Some r ≡ found_at t at → (at + width ≤ length t) × (r ≡ row_at t at)
  unfolding found_at
  found_row_lem r e =
      by_test (ltb (length t) (at + width))
      (λ s.
      let f : Some r ≡ None = e ∙ ap (λ b. pick b None (Some (row_at t at))) s in
      let z : ◌≡◌ {A = ℕ} 0 1 = cc in
      absurd (omega arith))
      (λ s.
      let f : Some r ≡ Some (row_at t at) = e ∙ ap (λ b. pick b None (Some (row_at t at))) s in
      (ltb-false (length t) (at + width) s, cc))

  pub put_none : (r : Row) → length t < at + width → t ≡ row_put r t at
  unfolding row_put
  put_none r h = sym (ap (λ b. pick b t (over t at (numbers r))) (lt-ltb (length t) (at + width) h))

  pub put_row : (r : Row) → at + width ≤ length t → over t at (numbers r) ≡ row_put r t at
  unfolding row_put
  put_row r h = sym (ap (λ b. pick b t (over t at (numbers r))) (le-ltb (length t) (at + width) h))

-- There: the rows of a table are those it was made of, and then those of what follows.

pub rows_first : (rows : List Row) (rest : List ℕ) → rows_of (table rows ++ rest) ≡ rows ++ rows_of rest
unfolding table
rows_first [] rest = refl
rows_first (r ∷ rows) rest =
    let ih = rows_first rows rest in
    ap rows_of (append_assoc (numbers r) (table rows) rest) ∙ rows_cons r (table rows ++ rest) ∙ ap (λ u. r ∷ u) ih

pub rows_of_table : (rows : List Row) → rows_of (table rows) ≡ rows
rows_of_table rows =
    ap rows_of (sym (append-nil (table rows))) ∙ rows_first rows [] ∙ ap (λ u. rows ++ u) (rows_none [] (omega arith)) ∙ append-nil rows

-- so many rows as it was made of, whatever follows them
pub rows_taken : (rows : List Row) (rest : List ℕ) → take (length rows) (rows_of (table rows ++ rest)) ≡ rows
rows_taken rows rest = ap (take (length rows)) (rows_first rows rest) ∙ take_at rows (rows_of rest) (length rows) refl

-- And back: a table with no number over is that of its rows.

table_in : (count : ℕ) (t : List ℕ) → length t ≡ width * count → table (first_rows count t) ≡ t
unfolding table first_rows
table_in zero t e = sym (past_end t 0 (omega arith))
table_in (suc count) t e =
    let ih = table_in count (drop width t) (omega (arith, length-drop width t)) in
    ap (λ u. numbers (row_at t 0) ++ u) ih ∙ sym (row_there t 0 (omega arith))

pub table_of_rows : (t : List ℕ) → Whole t → table (rows_of t) ≡ t
unfolding rows_of
table_of_rows t whole = table_in (length t / width) t (omega arith)

-- Their sizes, and a row more at the end.

pub length_table : (rows : List Row) → length (table rows) ≡ width * length rows
unfolding table
length_table [] = refl
length_table (r ∷ rows) = let ih = length_table rows in length-append (numbers r) (table rows) ∙ omega (arith, length_numbers r)

pub table_whole : (rows : List Row) → Whole (table rows)
table_whole rows = omega (arith, length_table rows)

length_rows : (count : ℕ) (t : List ℕ) → length (first_rows count t) ≡ count
unfolding first_rows
length_rows zero t = refl
length_rows (suc count) t = let ih = length_rows count (drop width t) in ap suc ih

-- a table has room for its rows
pub rows_most : (t : List ℕ) → width * length (rows_of t) ≤ length t
unfolding rows_of
rows_most t = omega (arith, length_rows (length t / width) t)

pub table_end : (rows : List Row) (r : Row) → table (rows ++ (r ∷ [])) ≡ table rows ++ numbers r
unfolding table
table_end [] r = append-nil (numbers r)
table_end (q ∷ rows) r =
    let ih = table_end rows r in
    ap (λ u. numbers q ++ u) ih ∙ sym (append_assoc (numbers q) (table rows) (numbers r))

-- test and rule

pub whole_true : (t : List ℕ) → is_whole t ≡ true → Whole t
whole_true t e = eqb-true (length t % width) 0 e

pub whole_is : (t : List ℕ) → Whole t → is_whole t ≡ true
whole_is t e = eq-eqb (length t % width) 0 e
