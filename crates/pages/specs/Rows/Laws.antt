-- Laws of a table of words, by tests of its rows that the checker computes.
-- Assumes nothing.
use Rattle.std.specs.Prelude.{◌≡◌, refl, Bool, true, false, ℕ, zero, suc, ◌<◌, ◌≤◌, List, [], ◌∷◌, leb, ltb, eqb, length}
use Rattle.std.proofs.Common.{ap, sym, subst, ◌∙◌, leb-true, ltb-true, eqb-true, ne_eqb, arith}
use Rattle.std.proofs.lemmas.Bool.{eqb-false}
use Rattle.format.specs.Choice.{pick, both, within}
use Rattle.format.specs.Choice.Laws.{both_true, within_both, by_test}
use Rattle.lines.specs.Line.{ascii}
use Rattle.pages.specs.Rows.{Row, sought, EachItsOwn}

-- no row has more bytes than so many
abbrev pub short : ℕ → List Row → Bool
short size [] = true
short size (r ∷ rows) = both (leb (length (ascii r.words)) size) (short size rows)

chosen : (b : Bool) (x y : List ℕ) (size : ℕ) → length x ≤ size → length y ≤ size → length (pick b x y) ≤ size
chosen true x y size h l = h
chosen false x y size h l = l

pub short_all : (size n : ℕ) (rows : List Row) → short size rows ≡ true → length (sought n rows) ≤ size
unfolding sought
short_all size n [] e = omega arith
short_all size n (r ∷ rows) e =
    let p = both_true (leb (length (ascii r.words)) size) (short size rows) e in
    chosen (eqb n r.number) (ascii r.words) (sought n rows) size (leb-true _ _ p.0) (short_all size n rows p.1)

-- every number from 1 to the last has words
abbrev pub filled_to : ℕ → List Row → Bool
filled_to zero rows = true
filled_to (suc k) rows = both (ltb 0 (length (sought (suc k) rows))) (filled_to k rows)

pub some_to :
    (last : ℕ) (rows : List Row) → filled_to last rows ≡ true → (n : ℕ) → 1 ≤ n → n ≤ last → 0 < length (sought n rows)
some_to zero rows e n l h = absurd (omega arith)
some_to (suc k) rows e n l h =
    let p = both_true (ltb 0 (length (sought (suc k) rows))) (filled_to k rows) e in
    by_test (eqb n (suc k))
    (λ y. rw (eqb-true n (suc k) y) (ltb-true _ _ p.0))
    (λ y. some_to k rows p.1 n l (omega (arith, eqb-false n (suc k) y)))

-- no row has another number than 1 to the last
abbrev pub numbered_to : ℕ → List Row → Bool
numbered_to last [] = true
numbered_to last (r ∷ rows) = both (within 1 last r.number) (numbered_to last rows)

pub none_past :
    (last : ℕ) (rows : List Row) → numbered_to last rows ≡ true → (n : ℕ) → (1 ≤ n → n ≤ last → ⊥) → sought n rows ≡ []
unfolding sought
none_past last [] e n h = refl
none_past last (r ∷ rows) e n h =
    let p = both_true (within 1 last r.number) (numbered_to last rows) e in
    let q = within_both 1 last r.number p.0 in
    let other : n ≡ r.number → ⊥ = λ y. h (omega (arith, y, q.0)) (omega (arith, y, q.1)) in
    ap (λ b. pick b (ascii r.words) (sought n rows)) (ne_eqb n r.number other) ∙ none_past last rows p.1 n h

-- whether two texts are the same, and the number of the first row with these words
abbrev pub same : List ℕ → List ℕ → Bool
same [] [] = true
same [] (y ∷ t) = false
same (x ∷ s) [] = false
same (x ∷ s) (y ∷ t) = both (eqb x y) (same s t)

unfoldable pub number_for : List ℕ → List Row → ℕ
number_for w [] = 0
number_for w (r ∷ rows) = pick (same w (ascii r.words)) r.number (number_for w rows)

-- each of these rows is the first of the table with its words
abbrev pub firsts : List Row → List Row → Bool
firsts table [] = true
firsts table (r ∷ rows) = both (eqb (number_for (ascii r.words) table) r.number) (firsts table rows)

number_back_lem :
    (table rows : List Row) → firsts table rows ≡ true → (n : ℕ) → 0 < length (sought n rows) → number_for (sought n rows) table ≡ n
unfolding sought
number_back_lem table [] e n h = absurd (omega arith)
number_back_lem table (r ∷ rows) e n h =
    let p = both_true (eqb (number_for (ascii r.words) table) r.number) (firsts table rows) e in
    let choice : Bool → List ℕ = λ b. pick b (ascii r.words) (sought n rows) in
    by_test (eqb n r.number)
    (λ y.
    ap (λ b. number_for (choice b) table) y ∙ eqb-true (number_for (ascii r.words) table) r.number p.0
    ∙ sym (eqb-true n r.number y))
    (λ y.
    let there : 0 < length (sought n rows) = subst (λ b. 0 < length (choice b)) y h in
    ap (λ b. number_for (choice b) table) y ∙ number_back_lem table rows p.1 n there)

pub each_its_own :
    (last : ℕ) (rows : List Row) →
    filled_to last rows ≡ true →
    numbered_to last rows ≡ true →
    firsts rows rows ≡ true →
    EachItsOwn rows last
each_its_own last rows f g e = record {
  some = some_to last rows f;
  none = none_past last rows g;
  own = λ m n h y. sym (number_back_lem rows rows e m h) ∙ ap (λ w. number_for w rows) y ∙ number_back_lem rows rows e n (rw y at h);
}
