-- What a row tells a writer (document 02, Ticket 10: "The writer takes these rows and ignores the second number"): all but its tag's
-- place. Tables that differ in second numbers alone tell the same.
-- Assumes nothing.
use Rattle.std.specs.Prelude.{◌≡◌, refl, ℕ, zero, suc, ◌+◌, ◌/◌, ◌%◌, List, ◌∷◌, map, length, get_or, drop}
use Rattle.std.proofs.Common.{ap, ap₂, sym, ◌∙◌, arith, get_or-drop}
use Rattle.rows.specs.declared.Row.{Row}
use Rattle.rows.specs.Rows.{width, valued, row_at, first_rows, rows_of}

abbrev pub told_of : Row → Row
told_of r = valued r.tag r.place r.size

-- tables of one length whose numbers are the same, but for the second of each row
pub record ButSecond (t u : List ℕ) : Type 0 where
  pub size : length t ≡ length u
  pub same : (i : ℕ) → (i % width ≡ 1 → ⊥) → get_or t i 0 ≡ get_or u i 0

first_told :
    (count : ℕ) (t u : List ℕ) →
    ((i : ℕ) → (i % width ≡ 1 → ⊥) → get_or t i 0 ≡ get_or u i 0) →
    map told_of (first_rows count t) ≡ map told_of (first_rows count u)
unfolding first_rows row_at
first_told zero t u same = refl
first_told (suc count) t u same =
    let rest : (i : ℕ) → (i % width ≡ 1 → ⊥) → get_or (drop width t) i 0 ≡ get_or (drop width u) i 0 =
    λ i other. get_or-drop width t i 0 ∙ same (width + i) (λ e. other (omega arith)) ∙ sym (get_or-drop width u i 0) in
    let ih = first_told count (drop width t) (drop width u) rest in
    let row : told_of (row_at t 0) ≡ told_of (row_at u 0) =
    ap₂ (λ tag place. valued tag place (get_or t 3 0)) (same 0 (λ e. omega arith)) (same 2 (λ e. omega arith))
    ∙ ap (valued (get_or u 0 0) (get_or u 2 0)) (same 3 (λ e. omega arith)) in
    ap₂ ◌∷◌ row ih

pub same_told : (t u : List ℕ) → ButSecond t u → map told_of (rows_of t) ≡ map told_of (rows_of u)
unfolding rows_of
same_told t u b =
    ap (λ n. map told_of (first_rows (n / width) t)) b.size ∙ first_told (length u / width) t u b.same
